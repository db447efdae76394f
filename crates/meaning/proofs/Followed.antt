-- Following rows from their first state, judged by counts for each controller state. If the counts are safe, cover the start, and a round
-- leads from no state's counts above the next state's, they guard every run (`counts-keep` of Rows.antt): the rows keep every run to K. If
-- a count is one that some run attains, so is each count after a round from it; and a run that attains an overrun shows that they don't.
use mathlib.Core.Path.{◌≡◌, refl, sym, ap, subst, subst⁻¹}
use mathlib.Core.Logic.{⊎_elim}
use mathlib.Core.Bool.{true}
use mathlib.Core.List.{List, [], ◌∷◌}
use Prim.Native.Nat.{ℕ, suc, ◌+◌, ◌≤◌, ◌<◌}
use native.Mathlib.Omega.{arith}
use lib.Dec.{ltb}
use borrow.Author.Tests.{ltb-true}
use Rattle.meaning.specs.Table.{Table, Good, StartsDeclared}
use Rattle.meaning.specs.Counting.{Position, count, safe, below, start_position}
use Rattle.meaning.specs.Written.{Row, after_round}
use Rattle.meaning.specs.Play.{Strategy, Legal, Run, Realizes, row_output, row_next, state_after, follow}
use Rattle.meaning.specs.Play.Run.{here, round}
use Rattle.meaning.specs.Controller.{first_state, inputs_in, has_rows, of_letters}
use Rattle.meaning.proofs.Lists.{every-at, found_or_default}
use Rattle.meaning.proofs.Winning.{keeps-down, round-from}
use Rattle.meaning.proofs.Realizes.{count-start, keeps_realizes}
use Rattle.meaning.proofs.Lookups.{no_row}
use Rattle.meaning.proofs.Rows.{counts-keep}
use Rattle.meaning.proofs.Formed.{Formed, is_of, first-has, next-has}

-- rows that may be followed on a table: well formed, of its outputs and its inputs
pub record Fitting (t : Table) (rows : List Row) : Type 0 where
  pub formed : Formed rows
  pub outputs : of_letters t.outputs rows ≡ true
  pub inputs : inputs_in rows ≡ t.inputs

-- the rows, followed from their first state
abbrev pub following : List Row → Strategy
following rows = follow rows (first_state rows)

abbrev pub state_reached : List Row → List ℕ → ℕ
state_reached rows = state_after rows (first_state rows)

-- they choose letters of the table, whatever the inputs
pub following-legal : (t : Table) (rows : List Row) → Good t → Fitting t rows → Legal t (following rows)
unfolding follow row_output
following-legal t rows good fits inputs =
    ⊎_elim (λ m. ltb-true _ t.outputs (every-at (λ (r : Row). ltb r.output t.outputs) rows _ fits.outputs m))
    (λ none. subst⁻¹ (λ (r : Row). r.output < t.outputs) none good.some-output)
    (found_or_default (is_of (state_reached rows inputs)) rows no_row)

-- counts for each controller state that no round raises
pub record Closed (K : ℕ) (t : Table) (rows : List Row) (most : ℕ → Position) : Type 0 where
  pub begins : below (start_position K t) (most (first_state rows)) ≡ true
  pub safely : (s : ℕ) → has_rows rows s ≡ true → safe K (most s) ≡ true
  pub closed : (s i : ℕ) → has_rows rows s ≡ true → i < t.inputs
      → below (after_round K t (row_output rows s) i (most s)) (most (row_next rows s i)) ≡ true

pub closed_realizes : (K : ℕ) (t : Table) (rows : List Row) (most : ℕ → Position) → Good t → StartsDeclared t → Fitting t rows
    → Closed K t rows most → Realizes K t (following rows)
closed_realizes K t rows most good declared fits c =
    let first = first_state rows in
    let last : (i : ℕ) → i < t.inputs → i < inputs_in rows = λ i l. rw fits.inputs l in
    keeps_realizes K t declared (following rows) (following-legal t rows good fits)
    (keeps-down K t (start_position K t) (most first) (following rows) c.begins
    (counts-keep K t good rows first most (λ s. has_rows rows s ≡ true) (first-has rows fits.formed)
    (λ s i l on. next-has rows fits.formed s on i (omega (arith, last i l))) c.safely (λ s i l on. c.closed s i on l)))

-- a run from a start state that is in a controller state and a table state with at least this count, its first state's mark included
pub record Attained (t : Table) (rows : List Row) (s q c : ℕ) : Type 0 where
  pub inputs : List ℕ
  pub from : ℕ
  pub marks : ℕ
  pub starts : t.starts from ≡ true
  pub run : Run t (following rows) from inputs q marks
  pub reached : state_reached rows inputs ≡ s
  pub counted : c ≤ suc (t.controller_mark from + marks)

-- every count of a position is attained in a controller state
abbrev pub AllAttained : Table → List Row → ℕ → Position → Type 0
AllAttained t rows s F = (q : ℕ) → 0 < count F q → Attained t rows s q (count F q)

pub start-attained : (K : ℕ) (t : Table) (rows : List Row) → AllAttained t rows (first_state rows) (start_position K t)
unfolding state_after
start-attained K t rows q c =
    let at = count-start K t q c in
    record { inputs = []; from = q; marks = 0; starts = at.0; run = here; reached = refl; counted = omega (arith, at.1) }

pub round-attained : (K : ℕ) (t : Table) (rows : List Row) (s i : ℕ) (F : Position) → AllAttained t rows s F
    → AllAttained t rows (row_next rows s i) (after_round K t (row_output rows s) i F)
unfolding state_after follow
round-attained K t rows s i F all r c =
    let a = round-from K t F (row_output rows s) i r c in
    let p = a.0 in
    let w = a.1 in
    let before = all p a.4 in
    let out : t.output_edge (following rows before.inputs) p w ≡ true =
    subst (λ (z : ℕ). t.output_edge (row_output rows z) p w ≡ true) (sym before.reached) a.2 in
    record {
      inputs = i ∷ before.inputs;
      from = before.from;
      marks = before.marks + t.world_mark w + t.controller_mark r;
      starts = before.starts;
      run = round before.run w i r out a.3;
      reached = ap (λ (z : ℕ). row_next rows z i) before.reached;
      counted = omega (arith, a.5, before.counted);
    }

pub overrun_attained : (K : ℕ) (t : Table) (rows : List Row) (s q c : ℕ) → Attained t rows s q c → K + 1 < c
    → Realizes K t (following rows) → ⊥
overrun_attained K t rows s q c a over r = omega (arith, a.counted, r.keeps a.from a.starts a.run)
