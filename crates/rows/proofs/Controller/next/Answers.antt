-- `Controller::next`: where rows are well formed, a state's row for an input stands so many rows after its first. Assumes nothing.
use mathlib.Core.Path.{◌≡◌, sym, ap, ◌∙◌}
use mathlib.Core.Bool.{true}
use Prim.Native.Nat.{ℕ, ◌+◌, ◌<◌}
use native.Mathlib.Omega.{arith}
use Rattle.meaning.specs.Written.{Row}
use Rattle.meaning.specs.Play.{rows_in, row}
use Rattle.meaning.specs.Controller.{has_rows, inputs_in}
use Rattle.meaning.proofs.Formed.{formed, next-there}
use Rattle.rows.proofs.Placing.{ready_place}
use Rattle.rows.proofs.Controller.next.Goals as goal

pub overflow_add-place : goal.overflow_add-place
overflow_add-place c =
    let bytes = c.self.inside.rows.now in
    let has : has_rows (rows_in bytes) c.args.state ≡ true = rw (← c.self.view_is) at c.requires.0 in
    let low : c.args.input < inputs_in (rows_in bytes) = rw (← c.self.view_is) at c.requires.1 in
    omega (arith, (ready_place c.self.invariant.0 has (omega arith)).1, low, (formed bytes c.self.invariant.0.formed).low)

pub returns : goal.returns
returns c =
    let bytes = c.self.inside.rows.now in
    let rows = rows_in bytes in
    let has : has_rows rows c.args.state ≡ true = rw (← c.self.view_is) at c.requires.0 in
    let low : c.args.input < inputs_in rows = rw (← c.self.view_is) at c.requires.1 in
    rw (← c.self.view_is)
    (ap (λ (r : Row). r.next) c.at.ensures
    ∙ ap (λ (p : ℕ). (row rows (p + c.args.input)).next) (ready_place c.self.invariant.0 has (omega arith)).0
    ∙ sym (next-there rows (formed bytes c.self.invariant.0.formed) c.args.state has c.args.input (omega (arith, low))))
