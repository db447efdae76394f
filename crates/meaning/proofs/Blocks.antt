-- Rows in blocks, one for each state of a list and in it a row for each input, where the first state stands first and the others rise: each
-- row goes on from the one before it. In a block the next input follows with the same output; from block to block, input 0 of a later
-- state. By induction on the list of states.
use mathlib.Core.Path.{◌≡◌, refl, ap, ◌∙◌}
use mathlib.Core.Logic.{◌⊎◌, inl, inr, ⊎_elim}
use mathlib.Core.Bool.{true, not, cond, or-true}
use mathlib.Core.List.{List, [], ◌∷◌, ◌++◌, flat_map, append-nil}
use Prim.Native.Nat.{ℕ, zero, suc, ◌+◌, ◌-◌, ◌≤◌, ◌<◌}
use native.Mathlib.Nat.{le_refl}
use native.Mathlib.Decide.{dec_lt}
use native.Mathlib.Omega.{arith}
use lib.Dec.{eqb}
use lib.ListN.{length, length-append, get_or-append}
use lib.Seq.{get_or-append-add}
use borrow.Author.Tests.{eq-eqb, ne_eqb, lt-ltb, not-true}
use Rattle.meaning.specs.Lists.{tab, keep}
use Rattle.meaning.specs.Written.{Row}
use Rattle.meaning.specs.Play.{row}
use Rattle.meaning.specs.Controller.{in_order, input_goes_on, output_stays, goes_on, last_input}
use Rattle.meaning.proofs.Tests.{clash}
use Rattle.meaning.proofs.Lists.{tab-length, tab-at, keep_one_lem}
use Rattle.meaning.proofs.Lookups.{no_row}

-- states that rise from a bound on, none of them the first
abbrev pub Rising : ℕ → ℕ → List ℕ → Type 0
Rising first low [] = Unit {0}
Rising first low (s ∷ ss) = (low ≤ s) × (s ≡ first → ⊥) × Rising first (suc s) ss

rising_from : (first low high : ℕ) (ss : List ℕ) → low ≤ high → Rising first high ss → Rising first low ss
rising_from first low high [] l r = r
rising_from first low high (s ∷ ss) l r = (omega (arith, r.0), r.1, r.2)

-- all numbers but one rise
others_rise : (first n low : ℕ) (f : ℕ → ℕ) → ((i : ℕ) → f i ≡ low + i) → Rising first low (keep (λ (s : ℕ). not (eqb s first)) (tab n f))
others_rise first zero low f is = tt
others_rise first (suc n) low f is = go (others_rise first n (suc low) (λ i. f (suc i)) (λ i. is (suc i) ∙ omega arith))
  where
    later : List ℕ
    later = keep (λ (s : ℕ). not (eqb s first)) (tab n (λ i. f (suc i)))

    here : f zero ≡ low
    here = is zero ∙ omega arith

    go : Rising first (suc low) later → Rising first low (cond (not (eqb (f zero) first)) (f zero ∷ later) later)
    go rest =
        keep_one_lem (not (eqb (f zero) first)) (f zero) later (Rising first low)
        (λ p. (omega (arith, here), (λ e. absurd_of p (eq-eqb (f zero) first e)), rw here rest))
        (λ _. rising_from first low (suc low) later (omega arith) rest)
      where
        absurd_of : not (eqb (f zero) first) ≡ true → eqb (f zero) first ≡ true → ⊥
        absurd_of p q = clash (eqb (f zero) first) q (not-true _ p)

pub order_rises : (first n : ℕ) → Rising first 0 (keep (λ (s : ℕ). not (eqb s first)) (tab n (λ s. s)))
order_rises first n = others_rise first n 0 (λ s. s) (λ i. omega arith)

-- each row of a list goes on from the one before it
abbrev pub Linked : ℕ → ℕ → List Row → Type 0
Linked first last rows = (i : ℕ) → suc i < length rows → goes_on first last (row rows i) (row rows (suc i)) ≡ true

linked_append : (first last : ℕ) (xs ys : List Row) → Linked first last xs → Linked first last ys
    → (0 < length xs → 0 < length ys → goes_on first last (row xs (length xs - 1)) (row ys 0) ≡ true) → Linked first last (xs ++ ys)
linked_append first last xs ys lx ly seam i l = go (dec_lt (suc i) (length xs)) (dec_lt i (length xs))
  where
    left : (j : ℕ) → j < length xs → row (xs ++ ys) j ≡ row xs j
    left j b = get_or-append xs ys no_row j b

    right : (j k : ℕ) → j ≡ length xs + k → row (xs ++ ys) j ≡ row ys k
    right j k e = ap (row (xs ++ ys)) e ∙ get_or-append-add xs ys k no_row

    count : length (xs ++ ys) ≡ length xs + length ys
    count = length-append xs ys

    go : Dec (suc i < length xs) → Dec (i < length xs) → goes_on first last (row (xs ++ ys) i) (row (xs ++ ys) (suc i)) ≡ true
    go (yes b) _ = rw (left i (omega arith), left (suc i) b) (lx i b)
    go (no b) (yes c) =
        let end : i ≡ length xs - 1 = omega arith in
        rw (left i c ∙ ap (row xs) end, right (suc i) 0 (omega arith)) (seam (omega arith) (omega (arith, count)))
    go (no b) (no c) =
        let k : ℕ = i - length xs in
        rw (right i k (omega arith), right (suc i) (suc k) (omega arith)) (ly k (omega (arith, count)))

-- one block: a state's rows, for n inputs
module _ (n first : ℕ) (some : 0 < n) (output : ℕ → ℕ) (next : ℕ → ℕ → ℕ) where
  abbrev pub block_row : ℕ → ℕ → Row
  block_row s i = record { state = s; output = output s; input = i; next = next s i }

  abbrev pub block : ℕ → List Row
  block s = tab n (block_row s)

  block-long : (s : ℕ) → length (block s) ≡ n
  block-long s = tab-length n (block_row s)

  block_linked : (s : ℕ) → Linked first (n - 1) (block s)
  unfolding goes_on in_order input_goes_on output_stays
  block_linked s i l =
      let within : suc i < n = rw (block-long s) at l in
      rw (tab-at n (block_row s) i no_row (omega arith), tab-at n (block_row s) (suc i) no_row within)
      (rw (eq-eqb s s refl, eq-eqb (suc i) (suc i) refl, eq-eqb (output s) (output s) refl) refl)

  block-first : (s : ℕ) → row (block s) 0 ≡ block_row s 0
  block-first s = tab-at n (block_row s) 0 no_row some

  block_last : (s : ℕ) → row (block s) (length (block s) - 1) ≡ block_row s (n - 1)
  block_last s = ap (λ (k : ℕ). row (block s) (k - 1)) (block-long s) ∙ tab-at n (block_row s) (n - 1) no_row (omega arith)

  -- from the last row of a block to the first of the next
  seam : (s r : ℕ) → (r ≡ s → ⊥) → (r ≡ first → ⊥) → (s ≡ first) ⊎ (s < r) → goes_on first (n - 1) (block_row s (n - 1)) (block_row r 0)
      ≡ true
  unfolding goes_on in_order input_goes_on output_stays
  seam s r apart later order =
      rw (ne_eqb r s apart, ne_eqb r first later, eq-eqb (n - 1) (n - 1) refl)
      (⊎_elim (λ (e : s ≡ first). rw (eq-eqb s first e) refl) (λ l. rw (lt-ltb s r l, or-true (eqb s first)) refl) order)

  -- blocks one after the other
  abbrev pub blocks : List ℕ → List Row
  blocks = flat_map block

  blocks-first : (s : ℕ) (ss : List ℕ) → row (blocks (s ∷ ss)) 0 ≡ block_row s 0
  unfolding flat_map
  blocks-first s ss = get_or-append (block s) (blocks ss) no_row 0 (omega (arith, block-long s)) ∙ block-first s

  some-blocks : (s : ℕ) (ss : List ℕ) → 0 < length (blocks (s ∷ ss))
  unfolding flat_map
  some-blocks s ss = omega (arith, length-append (block s) (blocks ss), block-long s)

  pub blocks_linked : (s low : ℕ) (ss : List ℕ) → (s ≡ first) ⊎ (s < low) → Rising first low ss → Linked first (n - 1) (blocks (s ∷ ss))
  unfolding flat_map
  blocks_linked s low [] before rising = rw (append-nil (block s)) (block_linked s)
  blocks_linked s low (r ∷ ss) before rising =
      let apart : r ≡ s → ⊥ = λ e. ⊎_elim (λ f. rising.1 (e ∙ f)) (λ (l : s < low). omega (arith, rising.0)) before in
      let order : (s ≡ first) ⊎ (s < r) = ⊎_elim (λ f. inl f) (λ (l : s < low). inr (omega (arith, rising.0))) before in
      linked_append first (n - 1) (block s) (blocks (r ∷ ss)) (block_linked s)
      (blocks_linked r (suc r) ss (inr (le_refl (suc r))) rising.2)
      (λ _ _. rw (block_last s, blocks-first r ss) (seam s r apart rising.1 order))

  pub blocks_last : (s : ℕ) (ss : List ℕ) → last_input (blocks (s ∷ ss)) ≡ n - 1
  unfolding flat_map
  blocks_last s [] = rw (append-nil (block s)) (ap (λ (r : Row). r.input) (block_last s))
  blocks_last s (r ∷ ss) =
      let ys = blocks (r ∷ ss) in
      let end : length (block s ++ ys) - 1 ≡ length (block s) + (length ys - 1)
      = omega (arith, length-append (block s) ys, some-blocks r ss) in
      ap (λ (k : ℕ). (row (block s ++ ys) k).input) end
      ∙ ap (λ (r : Row). r.input) (get_or-append-add (block s) ys (length ys - 1) no_row) ∙ blocks_last r ss

  pub blocks_begin : (s : ℕ) (ss : List ℕ) → ((row (blocks (s ∷ ss)) 0).state ≡ s) × ((row (blocks (s ∷ ss)) 0).input ≡ 0)
  blocks_begin s ss = (ap (λ (r : Row). r.state) (blocks-first s ss), ap (λ (r : Row). r.input) (blocks-first s ss))
