-- `places` goes back from the last row. The loop's invariant (`Placing`): for the state of each row from i on a row of it is known that is
-- not after that row. Assumes nothing.
use Rattle.meaning.specs.Play.{rows_in}
use Rattle.rows.proofs.Placing.{Placing}
use Rattle.rows.proofs.places.Given as goal

abbrev pub invariant-loop-i : goal.invariant-loop-i
invariant-loop-i l = Placing (rows_in l.rows) l.i l.places
