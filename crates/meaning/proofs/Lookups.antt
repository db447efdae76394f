-- What is found in the controller's rows: for a winner and an input the one row that was written for them. Every row stands for some
-- winner and input, each pair of them has a row, and a look-up by place takes the first row that fits, so any row that fits will do.
use mathlib.Core.Path.{◌≡◌, refl, sym, ap, ap₂, ◌∙◌}
use mathlib.Core.Logic.{◌⊎◌, inl, inr, ⊎_elim}
use mathlib.Core.Bool.{Bool, true, false, not, ◌&&◌}
use mathlib.Core.List.Memᴰ
use mathlib.Core.List.{List, [], ◌∷◌, Memᴰ}
use Prim.Native.Nat.{ℕ, zero, suc, ◌<◌}
use native.Mathlib.Nat.{le_of_suc-le-suc, not-suc-le-zero}
use native.Mathlib.Omega.{arith}
use lib.ListN.{length, get_or}
use lib.Dec.{eqb}
use borrow.Author.Tests.{eqb-true, eq-eqb, ne_eqb}
use Rattle.meaning.specs.Lists.{tab, keep, place}
use Rattle.meaning.specs.Table.{Table}
use Rattle.meaning.specs.Counting.{Position}
use Rattle.meaning.specs.Rounds.{Set, winning}
use Rattle.meaning.specs.Written.{winners, covering, after_round, output_of, start_state, state_order, Row, rows_of_state, controller_rows}
use Rattle.meaning.specs.Written.{rows_from}
use Rattle.meaning.specs.Play.{row, row_output, row_next}
use Rattle.meaning.proofs.Tests.{both, both_left, both_right}
use Rattle.meaning.proofs.Lists.{tab-length, tab-member, member-tab, keep-member, keep-of, keep_all, found_or_default, found}
use Rattle.meaning.proofs.Lists.{flat_map-member}
use Rattle.meaning.proofs.Lists.{member-flat_map}
use Rattle.meaning.proofs.Maximal.{StartCovered}

-- the order of the states: each of them once
pub order_member : (start number s : ℕ) → s < number → Memᴰ s (state_order start number)
unfolding state_order
order_member start number s h = go (eqb s start) refl
  where
    go : (b : Bool) → eqb s start ≡ b → Memᴰ s (start ∷ keep (λ (r : ℕ). not (eqb r start)) (tab number (λ r. r)))
    go true e = Memᴰ.head (eqb-true s start e)
    go false e = Memᴰ.tail (keep-of (λ (r : ℕ). not (eqb r start)) (tab number (λ r. r)) s (tab-member number (λ r. r) s h) (ap not e))

pub order_below : (start number s : ℕ) → start < number → Memᴰ s (state_order start number) → s < number
unfolding state_order
order_below start number s h m = go (Memᴰ.cases_cons m)
  where
    go : (s ≡ start) ⊎ Memᴰ s (keep (λ (r : ℕ). not (eqb r start)) (tab number (λ r. r))) → s < number
    go (inl e) = omega arith
    go (inr k) =
        let r = member-tab number (λ r. r) s (keep-member (λ (r : ℕ). not (eqb r start)) (tab number (λ r. r)) s k) in
        let l : r.0 < number = r.1 in
        let e : s ≡ r.0 = r.2 in
        omega arith

-- one of n different numbers left out
pub all_but_one : (n : ℕ) (f : ℕ → ℕ) (a : ℕ) → ((i j : ℕ) → f i ≡ f j → i ≡ j) → a < n
    → suc (length (keep (λ (s : ℕ). not (eqb s (f a))) (tab n f))) ≡ n
all_but_one zero f a different h = absurd (not-suc-le-zero h)
all_but_one (suc n) f zero different h =
    rw (eq-eqb (f zero) (f zero) refl)
    (ap suc (ap length (keep_all (λ (s : ℕ). not (eqb s (f zero))) (tab n (λ i. f (suc i))) others) ∙ tab-length n (λ i. f (suc i))))
  where
    others : (s : ℕ) → Memᴰ s (tab n (λ i. f (suc i))) → not (eqb s (f zero)) ≡ true
    others s m =
        let r = member-tab n (λ i. f (suc i)) s m in
        ap not (ne_eqb s (f zero) (λ e. omega (arith, different (suc r.0) zero (sym r.2 ∙ e))))
all_but_one (suc n) f (suc a) different h =
    rw (ne_eqb (f zero) (f (suc a)) (λ e. omega (arith, different zero (suc a) e)))
    (ap suc (all_but_one n (λ i. f (suc i)) a (λ i j e. omega (arith, different (suc i) (suc j) e)) (le_of_suc-le-suc h)))

pub order_length : (start number : ℕ) → start < number → length (state_order start number) ≡ number
unfolding state_order
order_length start number h = all_but_one number (λ s. s) start (λ i j e. e) h

-- the winner that a state stands for, its output, and its next state for an input
abbrev pub winner_at : ℕ → Table → Set → ℕ → Position
winner_at K t X s = get_or (winners K t X) s []

abbrev pub output_at : ℕ → Table → Set → ℕ → ℕ
output_at K t X s = output_of K t (winning K t X) (winner_at K t X s)

abbrev pub next_at : ℕ → Table → Set → ℕ → ℕ → ℕ
next_at K t X s i = covering (winners K t X) (after_round K t (output_at K t X s) i (winner_at K t X s))

-- the row written for a state and an input
abbrev pub row_at : ℕ → Table → Set → ℕ → ℕ → Row
row_at K t X s i = record { state = s; output = output_at K t X s; input = i; next = next_at K t X s i }

-- what is read where no row fits
abbrev pub no_row : Row
no_row = record { state = 0; output = 0; input = 0; next = 0 }

-- what a row says is so
pub record Right (K : ℕ) (t : Table) (X : Set) (r : Row) : Type 0 where
  pub of_winner : r.state < length (winners K t X)
  pub of-input : r.input < t.inputs
  pub outputs : r.output ≡ output_at K t X r.state
  pub leads : r.next ≡ next_at K t X r.state r.input

-- the states in the order of their rows
abbrev pub states : ℕ → Table → Set → List ℕ
states K t X = state_order (start_state K t (winners K t X)) (length (winners K t X))

module _ (K : ℕ) (t : Table) (X : Set) where
  pub row-member : (s i : ℕ) → s < length (winners K t X) → i < t.inputs → Memᴰ (row_at K t X s i) (controller_rows K t X)
  unfolding controller_rows rows_from rows_of_state
  row-member s i h l =
      flat_map-member (rows_of_state K t (winning K t X) (winners K t X)) (states K t X) s (row_at K t X s i) (order_member _ _ s h)
      (tab-member t.inputs (row_at K t X s) i l)

  module _ (covered : StartCovered K t X) where
    pub member_right : (r : Row) → Memᴰ r (controller_rows K t X) → Right K t X r
    unfolding controller_rows rows_from rows_of_state
    member_right r m =
        let s = member-flat_map (rows_of_state K t (winning K t X) (winners K t X)) (states K t X) r m in
        let i = member-tab t.inputs (row_at K t X s.0) r s.2 in
        rw i.2
        (record { of_winner = order_below _ _ s.0 covered s.1; of-input = i.1; outputs = refl; leads = refl })

    pub output-found : (s : ℕ) → s < length (winners K t X) → 0 < t.inputs → row_output (controller_rows K t X) s ≡ output_at K t X s
    unfolding row_output
    output-found s h l =
        let at = found (λ (r : Row). eqb r.state s) (controller_rows K t X) (row_at K t X s 0) no_row (row-member s 0 h l)
        (eq-eqb s s refl) in
        (member_right _ at.0).outputs ∙ ap (output_at K t X) (eqb-true _ s at.1)

    pub next-found : (s i : ℕ) → s < length (winners K t X) → i < t.inputs → row_next (controller_rows K t X) s i ≡ next_at K t X s i
    unfolding row_next
    next-found s i h l =
        let fits : Row → Bool = λ r. eqb r.state s && eqb r.input i in
        let r : Row = row (controller_rows K t X) (place fits (controller_rows K t X)) in
        let itself = both (eqb s s) (eqb i i) (eq-eqb s s refl) (eq-eqb i i refl) in
        let at = found fits (controller_rows K t X) (row_at K t X s i) no_row (row-member s i h l) itself in
        let of-state = both_left (eqb r.state s) (eqb r.input i) at.1 in
        let on-input = both_right (eqb r.state s) (eqb r.input i) at.1 in
        (member_right r at.0).leads ∙ ap₂ (next_at K t X) (eqb-true r.state s of-state) (eqb-true r.input i on-input)

    -- whatever the state, the output found is that of a winner, or 0 where no row fits
    pub some-output-found : (s : ℕ)
        → ((w : ℕ) × (w < length (winners K t X)) × (row_output (controller_rows K t X) s ≡ output_at K t X w))
        ⊎ (row_output (controller_rows K t X) s ≡ 0)
    unfolding row_output
    some-output-found s =
        ⊎_elim (λ m. let r = member_right _ m in inl (_, r.of_winner, r.outputs)) (λ (e : _). inr (ap (λ (r : Row). r.output) e))
        (found_or_default (λ (r : Row). eqb r.state s) (controller_rows K t X) no_row)
