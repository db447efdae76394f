-- The bars of a step back. The or of two words has the or of their counts (`or_counts`), by induction on the bytes, and the and has their
-- and. So a bar, or'ed with a word that has one count in every byte, leaves that count to the sources with an edge and the highest to the
-- others; and the least of these over the targets is the step back under the most (`lowered_whole`), count by count. Assumes nothing.
use mathlib.Core.Path.{◌≡◌, refl, sym, ap, ◌∙◌}
use mathlib.Core.Bool.{Bool, true, false, cond}
use mathlib.Core.List.{List, [], ◌∷◌}
use Prim.Native.Nat.{ℕ, zero, suc, ◌+◌, ◌*◌, ◌-◌, ◌/◌, ◌%◌, ◌≤◌, ◌<◌, min}
use native.Mathlib.Omega.{arith}
use borrow.Author.Tests.{lt-ltb, le-ltb}
use lib.Bits.{bit_and, bit_or, and_mask, and_comm, or_add_and, and_shr, or_shr, and_mod, or_mod, or_zero_l}
use lib.Dec.{ltb}
use lib.ListN.{length, get_or}
use Rattle.meaning.specs.Lists.{tab, smallest}
use Rattle.meaning.specs.Table.{bit}
use Rattle.meaning.specs.Counting.{Position, count}
use Rattle.meaning.proofs.Tests.{smallest-top}
use Rattle.meaning.proofs.Lists.{tab-length, tab-at}
use Rattle.meaning.proofs.Steps.{same-counts}
use Rattle.counts.specs.Halves.{lesser_counts, half_of, back_under}
use Rattle.counts.specs.declared.position.Half.{Half}
use Rattle.counts.proofs.Edges.{bit_beyond, within, smallest-next, smallest-within}
use Rattle.counts.specs.Words.{counts_before, counts_in, bar_counts}
use Rattle.counts.proofs.Lesser.{lesser_at}
use Rattle.counts.proofs.Bytes.{counts_in-length, counts_in-low}
use Rattle.counts.proofs.Made.{counts-of_bytes}

-- what works on the bits of two numbers apart works on their counts
module _ (op : ℕ → ℕ → ℕ) (high : (a b : ℕ) → op a b / 256 ≡ op (a / 256) (b / 256))
    (low : (a b : ℕ) → op a b % 128 ≡ op (a % 128) (b % 128)) where
  bits_before : (n a b : ℕ) (F G H : Position) → ((p : ℕ) → count H p ≡ op (count F p) (count G p))
      → (p : ℕ) → count (counts_before n (op a b) H) p ≡ op (count (counts_before n a F) p) (count (counts_before n b G) p)
  unfolding counts_before
  bits_before zero a b F G H h = h
  bits_before (suc n) a b F G H h =
      rw (high a b) (bits_before n (a / 256) (b / 256) (a % 128 ∷ F) (b % 128 ∷ G) (op a b % 128 ∷ H) go)
    where
      go : (p : ℕ) → count (op a b % 128 ∷ H) p ≡ op (count (a % 128 ∷ F) p) (count (b % 128 ∷ G) p)
      go zero = low a b
      go (suc p) = h p

or_counts : (a b p : ℕ) → count (counts_in (bit_or a b)) p ≡ bit_or (count (counts_in a) p) (count (counts_in b) p)
unfolding counts_in
or_counts a b p = bits_before bit_or (λ a b. or_shr a b 8) (λ a b. or_mod a b 7) 8 a b [] [] [] (λ _. refl) p

pub shared_counts : (a b p : ℕ) → count (counts_in (bit_and a b)) p ≡ bit_and (count (counts_in a) p) (count (counts_in b) p)
unfolding counts_in
shared_counts a b p = bits_before bit_and (λ a b. and_shr a b 8) (λ a b. and_mod a b 7) 8 a b [] [] [] (λ _. refl) p

-- the bar of target q: its counts, by the code's test of each source's bit
abbrev pub barred : List ℕ → ℕ → ℕ → ℕ
barred masks q p = cond (bit (get_or masks p 0) q) 0 127

module _ (masks : List ℕ) (q : ℕ) where
  bar_at : (p : ℕ) → p < 8 → count (bar_counts masks q) p ≡ barred masks q p
  unfolding bar_counts
  bar_at p l = tab-at 8 (barred masks q) p 0 l

-- one in each byte, and so a count in every byte
abbrev pub ones : ℕ
ones = 72340172838076673

pub all-counts : (e p : ℕ) → e ≤ 127 → p < 8 → count (counts_in (e * ones)) p ≡ e
all-counts e p h l =
    ap (λ (w : ℕ). count (counts_in w) p) (omega arith) ∙ ap (λ (F : Position). count F p) (counts-of_bytes (λ _. e) (λ _. omega arith))
    ∙ tab-at 8 (λ _. e % 128) p 0 l ∙ omega arith

-- the highest count takes in every other, and no count none
highest_or : (e : ℕ) → e ≤ 127 → bit_or 127 e ≡ 127
highest_or e h =
    let all : bit_and 127 e ≡ e % 128 = and_comm 127 e ∙ and_mask e 7 in
    omega (arith, all, or_add_and 127 e, h)

over_bar : (b : Bool) (e : ℕ) → e ≤ 127 → bit_or (cond b 0 127) e ≡ cond b e 127
over_bar true e h = or_zero_l e
over_bar false e h = highest_or e h

-- what target q leaves to source p: its count less its mark over an edge, and the highest where there is none
abbrev offered : Half → Position → ℕ → ℕ → ℕ
offered half F p q = cond (bit (get_or half.masks p 0) q) (count F q - get_or half.marks q 0) 127

offered-counts : (half : Half) (F : Position) (word e p q : ℕ) → counts_in word ≡ bar_counts half.masks q
    → e ≡ count F q - get_or half.marks q 0 → e ≤ 127 → p < 8 → count (counts_in (bit_or word (e * ones))) p ≡ offered half F p q
offered-counts half F word e p q bar count-is under l =
    let at : count (counts_in word) p ≡ barred half.masks q p = ap (λ (F : Position). count F p) bar ∙ bar_at half.masks q p l in
    or_counts word (e * ones) p ∙ rw (at, all-counts e p under l) (over_bar (bit (get_or half.masks p 0) q) e under ∙ rw count-is)

-- and what it leaves under a count, beside the count itself
abbrev left_to : Half → Position → ℕ → ℕ → ℕ → ℕ
left_to half F p top q = cond (bit (get_or half.masks p 0) q) (count F q - get_or half.marks q 0) top

-- a word whose counts are the least of the most and of what the targets before q leave
abbrev pub Lowered : Half → Position → ℕ → ℕ → ℕ → Type 0
Lowered half F most q low =
    (p : ℕ) → p < 8 → count (counts_in low) p
    ≡ smallest (count (counts_in most) p) q (within half.targets (count (counts_in most) p) (offered half F p))

module _ (half : Half) (F : Position) (most q low : ℕ) (before : Lowered half F most q low) where
  -- one more target, by its bar and its count in every byte
  pub lowered_by : (word e r : ℕ) → q < half.targets → counts_in word ≡ bar_counts half.masks q
      → e ≡ count F q - get_or half.marks q 0 → e ≤ 127
      → counts_in r ≡ lesser_counts (counts_in low) (counts_in (bit_or word (e * ones))) → Lowered half F most (q + 1) r
  lowered_by word e r inside bar count-is under lesser p l =
      let top = count (counts_in most) p in
      let all = bit_or word (e * ones) in
      let least = within half.targets top (offered half F p) in
      ap (λ (F : Position). count F p) lesser ∙ lesser_at (counts_in low) (counts_in all) p
      ∙ rw (before p l, offered-counts half F word e p q bar count-is under l)
      (sym (smallest-next top least q (offered half F p q) (rw (lt-ltb q half.targets inside))))

  -- beyond the side there is none
  pub lowered_still : half.targets ≤ q → Lowered half F most (q + 1) low
  lowered_still beyond p l =
      let top = count (counts_in most) p in
      let f = within half.targets top (offered half F p) in
      omega (arith, before p l, smallest-top top q f, smallest-next top f q top (rw (le-ltb q half.targets beyond)))

-- numbers that are alike up to the top have the same smallest
smallest_alike : (top n : ℕ) (f g : ℕ → ℕ) → ((i : ℕ) → i < n → min top (f i) ≡ min top (g i)) → smallest top n f ≡ smallest top n g
smallest_alike top zero f g h = refl
smallest_alike top (suc n) f g h =
    omega (arith, smallest_alike top n f g (λ i l. h i (omega arith)), smallest-top top n f, h n (omega arith))

either_alike : (b : Bool) (top x y z w : ℕ) → min top x ≡ min top y → min top z ≡ min top w → min top (cond b x z) ≡ min top (cond b y w)
either_alike true top x y z w h k = h
either_alike false top x y z w h k = k

-- what all eight targets leave to the sources, under the most, is the step back under it
module _ (half : Half) (F : Position) where
  offered-least : (p top : ℕ) → top ≤ 127
      → smallest top 8 (within half.targets top (offered half F p)) ≡ smallest top half.targets (left_to half F p top)
  offered-least p top low =
      smallest_alike top 8 (within half.targets top (offered half F p)) (within half.targets top (left_to half F p top))
      (λ q b. either_alike (ltb q half.targets) top _ _ top top
      (either_alike (bit (get_or half.masks p 0) q) top _ _ 127 top refl (omega arith)) refl)
      ∙ smallest-within 8 half.targets (left_to half F p top) top (λ q b. rw (bit_beyond (get_or half.masks p 0) q b))

  pub lowered_whole : (most low : ℕ) → Lowered half F most 8 low → counts_in low ≡ back_under (counts_in most) (half_of half) F
  unfolding half_of back_under
  lowered_whole most low least =
      let back : ℕ → ℕ = λ p. smallest (count (counts_in most) p) half.targets (left_to half F p (count (counts_in most) p)) in
      let long : length (tab (length (counts_in most)) back) ≡ 8 = tab-length (length (counts_in most)) back ∙ counts_in-length most in
      same-counts (counts_in low) (tab (length (counts_in most)) back) (counts_in-length low ∙ sym long)
      (λ p b. let l : p < 8 = rw (counts_in-length low) at b in
      least p l ∙ offered-least p (count (counts_in most) p) (counts_in-low most p)
      ∙ sym (tab-at (length (counts_in most)) back p 0 (rw (counts_in-length most) l)))
