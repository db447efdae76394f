-- `named` marks the state of each row. The loop's invariant (`Marking`): what is marked are states with rows, and the states of the rows
-- seen are marked. Assumes nothing.
use Rattle.meaning.specs.Play.{rows_in}
use Rattle.rows.proofs.Marking.{Marking}
use Rattle.rows.proofs.named.Given as goal

abbrev pub invariant-loop-state : goal.invariant-loop-state
invariant-loop-state l = Marking (rows_in l.rows) l.state-index l.named
