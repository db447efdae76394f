-- `named`: at first no row is seen. A four's first byte is its row's state, a byte, and marking it keeps the invariant; and when all fours
-- are seen, so are all rows. Assumes nothing.
use mathlib.Core.Path.{◌≡◌, sym, ap}
use mathlib.Core.List.{[]}
use native.Mathlib.Omega.{arith}
use lib.ListN.{get_or}
use Rattle.meaning.specs.Written.{Row}
use Rattle.meaning.specs.Play.{rows_in, row}
use Rattle.rows.proofs.Cut.{fours-count, four-at}
use Rattle.rows.proofs.Marking.{marking_none, marking_more, marking_all}
use Rattle.rows.proofs.Reading.{row-low}
use Rattle.rows.proofs.named.Goals as goal

pub loop-state-init : goal.loop-state-init
loop-state-init c = marking_none (rows_in c.args.rows.now)

pub loop-state-preserved : goal.loop-state-preserved
loop-state-preserved c =
    let bytes = c.args.rows.now in
    let fours = c.fours-state-items.result.now in
    let rows = rows_in bytes in
    let i = c.loop-state.state-index in
    let told = c.fours-state-items.ensures in
    let same : (row rows i).state ≡ get_or (get_or fours i []) 0 0 = ap (λ (r : Row). r.state) (sym (four-at bytes fours told i)) in
    rw (← same)
    (marking_more rows i c.loop-state.named c.loop-state.invariant
    (omega (arith, fours-count bytes fours told, c.loop-state-test.true)) (row-low bytes (λ j. omega (arith, c.type_inv.rows j)) i).0)

pub returns : goal.returns
returns c =
    let bytes = c.args.rows.now in
    let fours = c.fours-state-items.result.now in
    marking_all (rows_in bytes) c.loop-state.state-index c.loop-state.named c.loop-state.invariant
    (omega (arith, fours-count bytes fours c.fours-state-items.ensures, c.loop-state-test.false))
