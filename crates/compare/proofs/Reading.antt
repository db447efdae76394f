-- A word read from its front: the bytes read so far are digits and their numbers are packed into a position (`Taken`). So a word that ends
-- there at its eighth byte is eight digits and the position is the one it shows, and a word with another length or another byte is not. By
-- the laws of packing (the crate counts). Assumes nothing.
use mathlib.Core.Path.{◌≡◌, ◌∙◌}
use mathlib.Core.Bool.{true, false, ◌&&◌}
use mathlib.Core.List.{List}
use Prim.Native.Nat.{ℕ, ◌+◌, ◌-◌, ◌*◌, ◌≤◌, ◌<◌}
use native.Mathlib.Nat.{not-suc-le-zero}
use native.Mathlib.Numerals.{add-one}
use native.Mathlib.Omega.{arith}
use borrow.Author.Tests.{leb-true, eq-eqb, eqb-true}
use lib.Dec.{eqb, leb}
use lib.ListN.{length, get_or, length-map}
use Rattle.meaning.specs.Lists.{each}
use Rattle.meaning.specs.Counting.{count}
use Rattle.meaning.proofs.Lists.{map_at}
use Rattle.meaning.proofs.Tests.{both, both_left, both_right, refuted, clash, below_last, each_at, each_of}
use Rattle.counts.specs.Words.{counts_in}
use Rattle.counts.proofs.Packing.{Packed, packed_none, packed-next, packed-whole}
use Rattle.compare.specs.Shown.{is_digit, eight_digits, shown}

-- the byte at place q
abbrev pub byte : List ℕ → ℕ → ℕ
byte word q = get_or word q 0

shown-length : (word : List ℕ) → length (shown word) ≡ length word
unfolding shown
shown-length word = length-map word (λ b. b - 48)

shown-at : (word : List ℕ) (q : ℕ) → q < length word → count (shown word) q ≡ byte word q - 48
unfolding shown
shown-at word q l = map_at (λ b. b - 48) word q 0 0 l

-- a digit is a byte up to 57
digit_most : (b : ℕ) → is_digit b ≡ true → b ≤ 57
unfolding is_digit
digit_most b t = leb-true b 57 (both_right (leb 48 b) (leb b 57) t)

-- the first q bytes are digits, and their numbers are packed
pub record Taken (word : List ℕ) (q position : ℕ) : Type 0 where
  pub digits : (i : ℕ) → i < q → is_digit (byte word i) ≡ true
  pub packed : Packed (shown word) q position

module _ (word : List ℕ) where
  pub taken_none : Taken word 0 0
  taken_none = record { digits = λ i h. absurd (not-suc-le-zero h); packed = packed_none (shown word) }

  pub taken_next : (q position : ℕ) → Taken word q position → length word ≡ 8 → q < 8 → is_digit (byte word q) ≡ true
      → Taken word (q + 1) (position * 256 + (byte word q - 48))
  taken_next q position taken long l digit =
      let most = digit_most (byte word q) digit in
      record {
        digits = rw (add-one q) (below_last q taken.digits digit);
        packed =
            packed-next (shown word) q position taken.packed (byte word q - 48) (shown-length word ∙ long) l (omega arith)
            (shown-at word q (rw long l));
      }

  -- eight of them are all
  pub taken_whole : (q position : ℕ) → Taken word q position → length word ≡ 8 → 8 ≤ q
      → (eight_digits word ≡ true) × (counts_in position ≡ shown word)
  unfolding eight_digits
  taken_whole q position taken long l = (
    both (eqb (length word) 8) (each 8 (λ i. is_digit (byte word i))) (eq-eqb (length word) 8 long)
        (each_of 8 (λ i. is_digit (byte word i)) (λ i h. taken.digits i (omega arith))),
    packed-whole (shown word) q position taken.packed (shown-length word ∙ long) l,
  )

  -- what is not eight digits
  pub other_length : (length word ≡ 8 → ⊥) → eight_digits word ≡ false
  unfolding eight_digits
  other_length other =
      refuted (eqb (length word) 8 && each 8 (λ i. is_digit (byte word i)))
      (λ t. other (eqb-true (length word) 8 (both_left (eqb (length word) 8) (each 8 (λ i. is_digit (byte word i))) t)))

  pub other_byte : (q : ℕ) → length word ≡ 8 → q < length word → is_digit (byte word q) ≡ false → eight_digits word ≡ false
  unfolding eight_digits
  other_byte q long l other =
      refuted (eqb (length word) 8 && each 8 (λ i. is_digit (byte word i)))
      (λ t. clash (is_digit (byte word q))
      (each_at 8 (λ i. is_digit (byte word i)) (both_right (eqb (length word) 8) (each 8 (λ i. is_digit (byte word i))) t) q
      (rw long at l))
      other)
