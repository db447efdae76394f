-- `all_inputs`: the loop's invariant is that `a` holds the list of A for the inputs so far, and that each list on the way kept to the
-- room. A turn cuts it by one input, or that input's list is past the room. Assumes nothing.
use Rattle.table.specs.Packed.{table_in}
use Rattle.lists.specs.Members.{positions}
use Rattle.sets.specs.Engine.{list_a}
use Rattle.rounds.proofs.Runs.{Runs}
use Rattle.rounds.proofs.all_inputs.Given as goal

abbrev pub invariant-loop-input : goal.invariant-loop-input
invariant-loop-input l = Runs l.room (list_a l.k (table_in l.table) (positions l.w)) l.input l.a.items
