-- `Controller::output`: a state's output stands in its first row, and its place is where that is. Assumes nothing.
use mathlib.Core.Path.{ap, ◌∙◌}
use Prim.Native.Nat.{ℕ}
use native.Mathlib.Omega.{arith}
use Rattle.meaning.specs.Written.{Row}
use Rattle.meaning.specs.Play.{rows_in, row, row_output}
use Rattle.rows.proofs.Placing.{ready_place}
use Rattle.rows.proofs.Controller.output.Goals as goal

pub returns : goal.returns
unfolding row_output
returns c =
    let rows = rows_in c.self.inside.rows.now in
    rw (← c.self.view_is)
    (ap (λ (r : Row). r.output) c.at.ensures
    ∙ ap (λ (p : ℕ). (row rows p).output) (ready_place c.self.invariant.0 (rw (← c.self.view_is) at c.requires) (omega arith)).0)
