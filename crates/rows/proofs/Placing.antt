-- An array of places, filled from the last row back to row i: for the state of each row from i on it has a row of that state, from i on,
-- and not after that row. When all rows are seen it has the first row of each state. Assumes nothing.
use mathlib.Core.Path.{◌≡◌, refl, sym, ap, ◌∙◌}
use mathlib.Core.Bool.{true}
use mathlib.Core.List.{List}
use Prim.Native.Nat.{ℕ, suc, ◌≤◌, ◌<◌}
use native.Mathlib.Nat.{le_antisymm}
use native.Mathlib.Decide.{ℕ_discrete}
use native.Mathlib.Omega.{arith}
use borrow.Author.Tests.{eqb-true, eq-eqb}
use lib.ListN.{length, get_or, set, length-set}
use Rattle.meaning.specs.Written.{Row}
use Rattle.meaning.specs.Play.{rows_in, row}
use Rattle.meaning.specs.Controller.{has_rows}
use Rattle.meaning.proofs.Lists.{place-holds, place_found}
use Rattle.meaning.proofs.Lookups.{no_row}
use Rattle.meaning.proofs.Formed.{formed, is_of, rows_of, has-place}
use Rattle.rows.specs.Placed.{Placed, Ready}
use Rattle.rows.proofs.Marking.{set-at-each}

-- p is a row of that state, from row i on and not after row j
pub record Between (rows : List Row) (i j s p : ℕ) : Type 0 where
  pub from : i ≤ p
  pub until : p ≤ j
  pub of : (row rows p).state ≡ s

pub record Placing (rows : List Row) (i : ℕ) (places : List ℕ) : Type 0 where
  pub long : length places ≡ 256
  pub within : i ≤ length rows
  pub back : (j : ℕ) → i ≤ j → j < length rows → Between rows i j (row rows j).state (get_or places (row rows j).state 0)

module _ (rows : List Row) where
  pub placing_none : (places : List ℕ) → length places ≡ 256 → (i : ℕ) → i ≡ length rows → Placing rows i places
  placing_none places e i last = record { long = e; within = omega arith; back = λ j a b. absurd (omega arith) }

  pub placing_more : (i : ℕ) (places : List ℕ) → Placing rows (suc i) places → (row rows i).state < 256
      → Placing rows i (set places (row rows i).state i)
  placing_more i places before low =
      let s = (row rows i).state in
      let inside : s < length places = omega (arith, before.long) in
      record {
        long = length-set places s i ∙ before.long;
        within = omega (arith, before.within);
        back = λ j a b.
            set-at-each places s i 0 (λ r p. r ≡ (row rows j).state → Between rows i j r p) inside
            (λ e. record { from = omega arith; until = a; of = refl })
            (λ r other e. go j a b r other e (ℕ_discrete i j)) (row rows j).state refl;
      }
    where
      go : (j : ℕ) → i ≤ j → j < length rows → (r : ℕ) → (r ≡ (row rows i).state → ⊥) → r ≡ (row rows j).state → Dec (i ≡ j)
          → Between rows i j r (get_or places r 0)
      go j a b r other e (yes same) = absurd (other (e ∙ ap (λ (k : ℕ). (row rows k).state) (sym same)))
      go j a b r other e (no apart) =
          let old = before.back j (omega arith) b in
          rw e (record { from = omega (arith, old.from); until = old.until; of = old.of })

  pub placing_all : (places : List ℕ) → Placing rows 0 places → Placed rows places
  placing_all places all s _ has =
      let l = has-place rows s has in
      let of : (row rows (rows_of rows s)).state ≡ s = eqb-true _ s (place-holds (is_of s) rows no_row l) in
      let at = rw of at (all.back (rows_of rows s) (omega arith) l) in
      let p = get_or places s 0 in
      let found = place_found (is_of s) rows no_row p (omega (arith, at.until)) (eq-eqb _ s at.of) in
      le_antisymm at.until found

-- where a state's rows begin, and that it is no large number
pub ready_place : {bytes places : List ℕ} {s : ℕ} → Ready bytes places → has_rows (rows_in bytes) s ≡ true → s < 256
    → (get_or places s 0 ≡ rows_of (rows_in bytes) s) × (get_or places s 0 < 2048)
ready_place {bytes} {places} {s} ready has low =
    let f = formed bytes ready.formed in
    let at = ready.placed s low has in
    (at, omega (arith, has-place (rows_in bytes) s has, f.few))
