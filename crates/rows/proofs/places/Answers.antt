-- `places`: before the first turn no row is seen. A row that is set at its state's place is of that state, and stands before those seen;
-- and when all rows are seen the first of each state is the last one set. Assumes nothing.
use mathlib.Core.Path.{◌≡◌, refl, sym, ap}
use Prim.Native.Nat.{ℕ, suc, ◌-◌, ◌<◌}
use native.Mathlib.Omega.{arith}
use Rattle.meaning.specs.Written.{Row}
use Rattle.meaning.specs.Play.{rows_in, row}
use Rattle.meaning.proofs.Formed.{rows-count}
use Rattle.rows.proofs.Placing.{placing_none, placing_more, placing_all}
use Rattle.rows.proofs.places.Goals as goal

pub loop-i-init : goal.loop-i-init
loop-i-init c = placing_none (rows_in c.args.rows.now) _ refl _ (sym (rows-count c.args.rows.now))

pub loop-i-preserved : goal.loop-i-preserved
loop-i-preserved c =
    let rows = rows_in c.args.rows.now in
    let i : ℕ = c.loop-i.i - 1 in
    let more : c.loop-i.i ≡ suc i = omega arith in
    let same : (row rows i).state ≡ c.at.result.state = ap (λ (r : Row). r.state) (sym c.at.ensures) in
    let low : (row rows i).state < 256 = omega (arith, c.at.type_inv) in
    rw (← same) (placing_more rows i c.loop-i.places (rw more at c.loop-i.invariant) low)

pub overflow_cast-places : goal.overflow_cast-places
overflow_cast-places c = omega (arith, c.loop-i.invariant.within, c.requires)

pub returns : goal.returns
returns c =
    let none : c.loop-i.i ≡ 0 = omega arith in
    placing_all (rows_in c.args.rows.now) c.loop-i.places (rw none at c.loop-i.invariant)
