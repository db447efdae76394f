-- Well-formed rows, in document 02's own words, which speak of all rows where the definition speaks of neighbours: the first state's rows
-- come first and the others ascend, a state has one output, and its inputs come once each in order and end with the same last one. By
-- induction on how far two rows are apart, or on how far a row is from the last.
use mathlib.Core.Path.{◌≡◌, refl, sym, ap, ◌∙◌}
use mathlib.Core.Logic.{◌⊎◌, inl, inr, ⊎_elim}
use mathlib.Core.Bool.{Bool, true, false, not, cond, ◌&&◌, ◌||◌}
use mathlib.Core.List.{List}
use Prim.Native.Nat.{ℕ, zero, suc, ◌+◌, ◌-◌, ◌≤◌, ◌<◌}
use native.Mathlib.Nat.{add-zero, add-suc}
use native.Mathlib.Omega.{arith}
use lib.Dec.{eqb, ltb}
use lib.ListN.{length}
use borrow.Author.Tests.{eqb-true, eq-eqb, ltb-true}
use Rattle.meaning.specs.Written.{Row}
use Rattle.meaning.specs.Play.{row}
use Rattle.meaning.specs.Controller.{first_state, last_input, in_order, input_goes_on, output_stays, goes_on}
use Rattle.meaning.proofs.Tests.{both_left, both_right, either_cases, clash}
use Rattle.meaning.proofs.Formed.{Formed, inputs_on}

-- state q may stand after state p
abbrev After : ℕ → ℕ → ℕ → Type 0
After first p q = (q ≡ p) ⊎ ((q ≡ first → ⊥) × ((p ≡ first) ⊎ (p < q)))

after-after : (first p q r : ℕ) → After first p q → After first q r → After first p r
after-after first p q r (inl e) b = rw (← e) b
after-after first p q r (inr a) (inl e) = rw e (inr a)
after-after first p q r (inr (later, a)) (inr (last, b)) =
    inr (last, ⊎_elim (λ e. inl e) (λ (l : p < q). ⊎_elim (λ (e : q ≡ first). absurd (later e)) (λ (m : q < r). inr (omega arith)) b) a)

-- between two rows of one state no other state stands
no_other : (first s q : ℕ) → After first s q → After first q s → q ≡ s
no_other first s q (inl e) b = e
no_other first s q (inr a) (inl e) = sym e
no_other first s q (inr (later, a)) (inr (last, b)) =
    absurd (⊎_elim last (λ (l : s < q). ⊎_elim later (λ (m : q < s). omega arith) b) a)

module _ (rows : List Row) (f : Formed rows) where
  abbrev state : ℕ → ℕ
  state i = (row rows i).state

  abbrev first : ℕ
  first = first_state rows

  next-state : (i : ℕ) → suc i < length rows → After first (state i) (state (suc i))
  unfolding goes_on in_order
  next-state i l =
      let r = row rows i in
      let s = row rows (suc i) in
      let goes = input_goes_on (last_input rows) r s in
      let order = both_left (in_order first r s) goes (both_left (in_order first r s && goes) (output_stays r s) (f.on i l)) in
      let rest = eqb r.state first || ltb r.state s.state in
      ⊎_elim (λ e. inl (eqb-true s.state r.state e))
      (λ p. inr (
        λ e. clash (eqb s.state first) (eq-eqb _ first e)
            (not_true-of (eqb s.state first) (both_left (not (eqb s.state first)) rest p)),
        ⊎_elim (λ e. inl (eqb-true r.state first e)) (λ e. inr (ltb-true r.state s.state e))
            (either_cases (eqb r.state first) (ltb r.state s.state) (both_right (not (eqb s.state first)) rest p)),
      ))
      (either_cases (eqb s.state r.state) (not (eqb s.state first) && rest) order)
    where
      not_true-of : (b : Bool) → not b ≡ true → b ≡ false
      not_true-of true p = sym p
      not_true-of false p = refl

  in-turn : (i d : ℕ) → i + d < length rows → After first (state i) (state (i + d))
  in-turn i zero l = rw (add-zero i) (inl refl)
  in-turn i (suc d) l =
      rw (add-suc i d)
      (after-after first (state i) (state (i + d)) (state (suc (i + d))) (in-turn i d (omega arith)) (next-state (i + d) (omega arith)))

  -- "the first state's rows come first"
  pub first-state-first : (i d : ℕ) → i + d < length rows → state (i + d) ≡ first → state i ≡ first
  first-state-first i d l e = ⊎_elim (λ same. sym same ∙ e) (λ a. absurd (a.0 e)) (in-turn i d l)

  -- "and the others ascend"
  pub others_ascend : (i d : ℕ) → i + d < length rows → (state i ≡ first → ⊥) → (state (i + d) ≡ state i) ⊎ (state i < state (i + d))
  others_ascend i d l other = ⊎_elim (λ e. inl e) (λ a. ⊎_elim (λ e. absurd (other e)) (λ less. inr less) a.1) (in-turn i d l)

  -- rows of one state stand together
  together : (i d : ℕ) → suc (i + d) < length rows → state (suc (i + d)) ≡ state i → state (i + d) ≡ state i
  together i d l e =
      no_other first (state i) (state (i + d)) (in-turn i d (omega arith)) (rw e at (next-state (i + d) l))

  -- from a row to the next of the same state
  same_goes_on : (i : ℕ) → suc i < length rows → state (suc i) ≡ state i
      → ((row rows (suc i)).output ≡ (row rows i).output) × ((row rows (suc i)).input ≡ suc (row rows i).input)
  unfolding goes_on input_goes_on output_stays
  same_goes_on i l e =
      let r = row rows i in
      let s = row rows (suc i) in
      let goes = input_goes_on (last_input rows) r s in
      let stays = both_right (in_order first r s && goes) (output_stays r s) (f.on i l) in
      let same = eq-eqb s.state r.state e in (
        eqb-true s.output r.output (rw same at stays),
        eqb-true s.input (suc r.input) (rw same at (inputs_on rows f i l)),
      )

  -- and from a row to any later one of its state
  kept_on : (i d : ℕ) → i + d < length rows → state (i + d) ≡ state i
      → ((row rows (i + d)).output ≡ (row rows i).output) × ((row rows (i + d)).input ≡ (row rows i).input + d)
  kept_on i zero l e = (
    ap (λ (j : ℕ). (row rows j).output) (add-zero i),
    ap (λ (j : ℕ). (row rows j).input) (add-zero i)
        ∙ sym (add-zero (row rows i).input),
  )
  kept_on i (suc d) l e = go (kept_on i d (omega (arith, l)) before)
    where
      step : i + suc d ≡ suc (i + d)
      step = add-suc i d

      here : state (suc (i + d)) ≡ state i
      here = ap state (sym step) ∙ e

      before : state (i + d) ≡ state i
      before = together i d (omega (arith, l)) here

      go : ((row rows (i + d)).output ≡ (row rows i).output) × ((row rows (i + d)).input ≡ (row rows i).input + d)
          → ((row rows (i + suc d)).output ≡ (row rows i).output) × ((row rows (i + suc d)).input ≡ (row rows i).input + suc d)
      go rest =
          let last = same_goes_on (i + d) (omega (arith, l)) (here ∙ sym before) in (
            ap (λ (j : ℕ). (row rows j).output) step ∙ last.0 ∙ rest.0,
            ap (λ (j : ℕ). (row rows j).input) step ∙ last.1 ∙ ap suc rest.1 ∙ sym (add-suc (row rows i).input d),
          )

  -- "a state has one output"
  pub one-output : (i d : ℕ) → i + d < length rows → state (i + d) ≡ state i → (row rows (i + d)).output ≡ (row rows i).output
  one-output i d l e = (kept_on i d l e).0

  -- "once each in order"
  pub inputs_once : (i d : ℕ) → i + d < length rows → state (i + d) ≡ state i → (row rows (i + d)).input ≡ (row rows i).input + d
  inputs_once i d l e = (kept_on i d l e).1

  -- "up to the same last one": no input is above it, counted from the last row back
  pub inputs_up_to-last : (d i : ℕ) → i + d ≡ length rows - 1 → (row rows i).input ≤ last_input rows
  unfolding input_goes_on
  inputs_up_to-last zero i e = let last = ap (λ (j : ℕ). (row rows j).input) (sym (add-zero i) ∙ e) in omega (arith, last)
  inputs_up_to-last (suc d) i e =
      go (eqb s.state r.state) refl (inputs_on rows f i more) (inputs_up_to-last d (suc i) (omega (arith, e)))
    where
      r : Row
      r = row rows i

      s : Row
      s = row rows (suc i)

      more : suc i < length rows
      more = omega (arith, e, f.some-row)

      go : (b : Bool) → eqb s.state r.state ≡ b
          → cond b (eqb s.input (suc r.input)) (eqb r.input (last_input rows) && eqb s.input 0) ≡ true
          → s.input ≤ last_input rows → r.input ≤ last_input rows
      go true same p under = omega (arith, eqb-true s.input (suc r.input) p)
      go false same p under =
          omega (arith, eqb-true r.input (last_input rows) (both_left (eqb r.input (last_input rows)) (eqb s.input 0) p))
