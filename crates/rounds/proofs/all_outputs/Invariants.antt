-- `all_outputs`: the loop's invariant is that `b` holds the list of B for the outputs so far, and that each list on the way kept to the
-- room. A turn widens it by one output, or that output's list is past the room. Assumes nothing.
use Rattle.table.specs.Packed.{table_in}
use Rattle.lists.specs.Members.{positions}
use Rattle.sets.specs.Engine.{list_b}
use Rattle.rounds.proofs.Runs.{Runs}
use Rattle.rounds.proofs.all_outputs.Given as goal

abbrev pub invariant-loop-output : goal.invariant-loop-output
invariant-loop-output l = Runs l.room (list_b l.k (table_in l.table) (positions l.v)) l.output l.b.items
