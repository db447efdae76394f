-- A position packed into a word count by count: each step moves one byte, so what is packed so far and what is left say the whole position.
-- By the law of a word's last byte (Bytes.antt). Assumes nothing.
use mathlib.Core.Path.{◌≡◌, refl, sym, ap, ◌∙◌}
use mathlib.Core.List.{[], ◌∷◌}
use Prim.Native.Nat.{ℕ, suc, ◌+◌, ◌*◌, ◌%◌, ◌^◌, ◌≤◌, ◌<◌, zero-le}
use native.Mathlib.Nat.{pow-suc, pow-le-pow_right}
use native.Mathlib.Numerals.{add-one}
use native.Mathlib.Omega.{arith}
use lib.ListN.{length, drop, drop_of_length-le}
use lib.Seq.{drop-cons}
use Rattle.meaning.specs.Counting.{Position, count}
use Rattle.counts.specs.Words.{counts_before, counts_in}
use Rattle.counts.proofs.Bytes.{last-count}

-- a word that the first q counts of a position are packed in
pub record Packed (F : Position) (q word : ℕ) : Type 0 where
  pub few : q ≤ 8
  pub low : word < 256 ^ q
  pub counts : counts_before q word (drop q F) ≡ F

pub packed_none : (F : Position) → Packed F 0 0
unfolding counts_before
packed_none F = record { few = zero-le; low = omega arith; counts = refl }

module _ (F : Position) (q word : ℕ) (packed : Packed F q word) where
  -- there is room for one byte more
  pub packed-room : (c : ℕ) → q < 8 → c < 256 → word * 256 + c < 2 ^ 64
  packed-room c l h =
      let room : 256 ^ q ≤ 256 ^ 7 = pow-le-pow_right (omega arith) {i = q} {j = 7} (omega arith) in
      omega (arith, packed.low)

  pub packed-next : (c : ℕ) → length F ≡ 8 → q < 8 → c ≤ 127 → count F q ≡ c → Packed F (q + 1) (word * 256 + c)
  packed-next c long l h e =
      rw (add-one q)
      record {
        few = omega arith;
        low = let room : 256 ^ suc q ≡ 256 ^ q * 256 = pow-suc 256 q in omega (arith, packed.low);
        counts =
            last-count q word c (drop (suc q) F) (omega arith)
            ∙ ap (λ d. counts_before q word (d ∷ drop (suc q) F)) (let same : c % 128 ≡ c = omega arith in same ∙ sym e)
            ∙ ap (counts_before q word) (sym (drop-cons F q 0 (omega arith)))
            ∙ packed.counts;
      }

  pub packed-whole : length F ≡ 8 → 8 ≤ q → counts_in word ≡ F
  unfolding counts_in
  packed-whole long l =
      let whole : q ≡ 8 = omega (arith, packed.few) in
      let none : drop 8 F ≡ [] = drop_of_length-le F {i = 8} (omega arith) in
      rw (whole, none) at packed.counts
