-- The states that differ, gathered one by one: bit k is set for a state k that was come to and differs (`Gathered`). And none differs
-- exactly if two positions compare as the same, so that the list of states agrees with the word before it (`none-differs`). By the laws of
-- masks and of the comparison. Assumes nothing.
use mathlib.Core.Path.{◌≡◌, refl, sym, ap, ◌∙◌}
use mathlib.Core.Logic.{◌↔◌, ◌⊎◌, inl, inr, ⊎_elim}
use mathlib.Core.Bool.{Bool, true, false, not, ◌&&◌, ◌||◌}
use Prim.Native.Nat.{ℕ, ◌+◌, ◌≤◌, ◌<◌}
use native.Mathlib.Nat.{eq-or-lt_of_le}
use native.Mathlib.Omega.{arith}
use borrow.Author.Tests.{ltb-true, lt-ltb, le-ltb, eqb-true, eq-eqb, ne_eqb, not-false}
use lib.Dec.{eqb, ltb}
use lib.ListN.{length}
use Rattle.meaning.specs.Table.{bit}
use Rattle.meaning.specs.Counting.{Position, count}
use Rattle.meaning.specs.Compared.{compared}
use Rattle.meaning.specs.declared.Comparison.TheVariants.{Same}
use Rattle.meaning.proofs.Tests.{both, both_left, both_right, either_left, either-right, either_cases, same_test, clash}
use Rattle.meaning.proofs.Steps.{same-counts}
use Rattle.meaning.proofs.Compared.{compared-exactly}
use Rattle.masks.specs.Mask.{mask}
use Rattle.masks.proofs.Masks.{mask-same, bit-none, bit-of-mask}
use Rattle.compare.specs.Shown.{differs}

-- state k differs and comes before q
abbrev found : Position → Position → ℕ → ℕ → Bool
found F G q k = ltb k q && differs F G k

-- the mask of the states before q that differ
abbrev pub Gathered : Position → Position → ℕ → ℕ → Type 0
Gathered F G q states = states ≡ mask 8 (found F G q)

no_bits : mask 8 (λ _. false) ≡ 0
unfolding mask
no_bits = refl

module _ (F G : Position) where
  differs-of : (q : ℕ) → (count F q ≡ count G q → ⊥) → differs F G q ≡ true
  unfolding differs
  differs-of q apart = ap not (ne_eqb (count F q) (count G q) apart)

  agrees-of : (q : ℕ) → count F q ≡ count G q → differs F G q ≡ false
  unfolding differs
  agrees-of q e = ap not (eq-eqb (count F q) (count G q) e)

  agrees_at : (q : ℕ) → differs F G q ≡ false → count F q ≡ count G q
  unfolding differs
  agrees_at q d = eqb-true (count F q) (count G q) (not-false (eqb (count F q) (count G q)) d)

  found_of_lem : (q k : ℕ) → k < q → differs F G k ≡ true → found F G q k ≡ true
  found_of_lem q k l d = both (ltb k q) (differs F G k) (lt-ltb k q l) d

  found_at : (q k : ℕ) → found F G q k ≡ true → (k < q) × (differs F G k ≡ true)
  found_at q k t = (ltb-true k q (both_left (ltb k q) (differs F G k) t), both_right (ltb k q) (differs F G k) t)

  -- what is found before q + 1 is found before q, or is q
  found-still : (q k : ℕ) → found F G q k ≡ true → found F G (q + 1) k ≡ true
  found-still q k t = let f = found_at q k t in let l : k < q = f.0 in found_of_lem (q + 1) k (omega arith) f.1

  found_before : (q k : ℕ) → found F G (q + 1) k ≡ true → (found F G q k ≡ true) ⊎ (k ≡ q)
  found_before q k t =
      let f = found_at (q + 1) k t in
      let l : k < q + 1 = f.0 in
      ⊎_elim (λ (e : k ≡ q). inr e) (λ m. inl (found_of_lem q k m f.1)) (eq-or-lt_of_le (omega arith))

  pub gathered_none : Gathered F G 0 0
  gathered_none =
      sym (mask-same 8 (found F G 0) (λ _. false) (λ k _. ap (λ (b : Bool). b && differs F G k) (le-ltb k 0 (omega arith))) ∙ no_bits)

  -- a state that differs is added
  pub gathered_next : (q states r : ℕ) → Gathered F G q states → (count F q ≡ count G q → ⊥)
      → r ≡ mask 8 (λ k. bit states k || eqb k q) → Gathered F G (q + 1) r
  gathered_next q states r gathered apart added =
      added
      ∙ mask-same 8 (λ k. bit states k || eqb k q) (found F G (q + 1))
      (λ k l. ap (λ (b : Bool). b || eqb k q) (ap (λ (s : ℕ). bit s k) gathered ∙ bit-of-mask (found F G q) k l) ∙ one_more k)
    where
      itself : (k : ℕ) → k ≡ q → found F G (q + 1) k ≡ true
      itself k e = found_of_lem (q + 1) k (omega arith) (ap (differs F G) e ∙ differs-of q apart)

      one_more : (k : ℕ) → (found F G q k || eqb k q) ≡ found F G (q + 1) k
      one_more k =
          same_test (found F G q k || eqb k q) (found F G (q + 1) k)
          (λ t. ⊎_elim (found-still q k) (λ s. itself k (eqb-true k q s)) (either_cases (found F G q k) (eqb k q) t))
          (λ t. ⊎_elim (either_left (found F G q k) (eqb k q)) (λ (e : k ≡ q). either-right (found F G q k) (eqb k q) (eq-eqb k q e))
          (found_before q k t))

  -- and another is passed over
  pub gathered_skip : (q states : ℕ) → Gathered F G q states → count F q ≡ count G q → Gathered F G (q + 1) states
  gathered_skip q states gathered e =
      gathered
      ∙ mask-same 8 (found F G q) (found F G (q + 1))
      (λ k _. same_test (found F G q k) (found F G (q + 1) k) (found-still q k)
      (λ t. ⊎_elim (λ b. b) (λ i. absurd (itself k i (found_at (q + 1) k t).1)) (found_before q k t)))
    where
      itself : (k : ℕ) → k ≡ q → differs F G k ≡ true → ⊥
      itself k i d = clash (differs F G k) d (ap (differs F G) i ∙ agrees-of q e)

  pub gathered-all : (q states : ℕ) → Gathered F G q states → 8 ≤ q → states ≡ mask 8 (differs F G)
  gathered-all q states gathered past =
      gathered
      ∙ mask-same 8 (found F G q) (differs F G) (λ k l. ap (λ (b : Bool). b && differs F G k) (lt-ltb k q (omega arith)))

  -- two positions are the same exactly if no state differs
  pub none-differs : length F ≡ 8 → length G ≡ 8 → (compared F G ≡ Same) ↔ (mask 8 (differs F G) ≡ 0)
  none-differs long-F long-G = (none_of, same_of)
    where
      exactly : (compared F G ≡ Same) ↔ (F ≡ G)
      exactly = compared-exactly F G (long-F ∙ sym long-G) Same

      none_of : compared F G ≡ Same → mask 8 (differs F G) ≡ 0
      none_of same =
          mask-same 8 (differs F G) (λ _. false) (λ q _. agrees-of q (ap (λ (H : Position). count H q) (exactly.0 same))) ∙ no_bits

      same_of : mask 8 (differs F G) ≡ 0 → compared F G ≡ Same
      same_of none =
          exactly.1 (same-counts F G (long-F ∙ sym long-G) (λ q l.
          agrees_at q (sym (bit-of-mask (differs F G) q (rw long-F at l)) ∙ ap (λ (s : ℕ). bit s q) none ∙ bit-none q)))
