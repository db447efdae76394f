-- The answer's buffer while the fields are laid down: those of the first i are there, four bytes each, and what is beyond them stays.
-- Assumes nothing.
use mathlib.Core.Path.{◌≡◌, refl, sym, ap, ◌∙◌}
use mathlib.Core.List.{List, [], ◌∷◌, ◌++◌, flat_map, append_assoc}
use Prim.Native.Nat.{ℕ, ◌+◌, ◌*◌, ◌≤◌, ◌<◌}
use native.Mathlib.Numerals.{add-one}
use native.Mathlib.Omega.{arith}
use borrow.Rule.Slice.PartMut.{put_mid}
use lib.ListN.{length, get_or, take, drop, length-append}
use lib.Seq.{take-suc, length-take-le, take_at, drop_at, drop-drop}
use Rattle.meaning.specs.Lists.{written}
use Rattle.meaning.proofs.Lists.{flat_map-length, flat_map-more}
use Rattle.calls.specs.Called.{four_bytes}

-- a field takes four bytes
pub four_length : (xs : List ℕ) → length (flat_map four_bytes xs) ≡ length xs * 4
unfolding four_bytes
four_length xs = flat_map-length four_bytes 4 xs (λ x. refl)

module _ (xs : List ℕ) where
  -- the bytes of the first i fields
  abbrev pub laid : ℕ → List ℕ
  laid i = flat_map four_bytes (take i xs)

  laid-length : (i : ℕ) → i ≤ length xs → length (laid i) ≡ 4 * i
  laid-length i h = four_length (take i xs) ∙ ap (λ (n : ℕ). n * 4) (length-take-le i xs h) ∙ omega arith

  -- one field more, put in the place of four bytes
  pub field_laid : (old out part : List ℕ) (i x k : ℕ) → i < length xs → k ≡ 4 → x ≡ get_or xs i 0 → part ≡ four_bytes x
      → out ≡ written (laid i) old → put_mid (4 * i) k out part ≡ written (laid (i + 1)) old
  unfolding four_bytes
  field_laid old out part i x k l four e p w =
      let next : take i xs ++ x ∷ [] ≡ take (i + 1) xs = rw (add-one i, take-suc xs i 0 l, e) refl in
      let more : laid i ++ four_bytes x ≡ laid (i + 1) = sym (flat_map-more four_bytes (take i xs) x) ∙ ap (flat_map four_bytes) next in
      let long = laid-length i (omega arith) in
      let left = drop (length (laid i)) old in
      let front : take (4 * i) out ≡ laid i = ap (take (4 * i)) w ∙ take_at (laid i) left (4 * i) long in
      let rest : drop (4 * i) out ≡ left = ap (drop (4 * i)) w ∙ drop_at (laid i) left (4 * i) long in
      rw (front, rest, p, four, ← more, length-append, append_assoc, drop-drop) refl
