-- `settle`: the loop's invariant is that the rounds so far have run without a repeat and within the room, and that `w` holds the list of
-- W(r). A round with a list past the room is FULL; where the list repeats, the winners are there; else one round more has run. The
-- measure is what is left of (K + 2) ^ n rounds. Assumes nothing.
use Prim.Native.Nat.{◌+◌, ◌-◌, ◌^◌}
use Rattle.table.specs.Packed.{table_in}
use Rattle.lists.specs.Members.{positions}
use Rattle.sets.proofs.Engine.{Running}
use Rattle.rounds.specs.Rounds.{covered_by}
use Rattle.rounds.proofs.settle.Given as goal

abbrev pub invariant-loop-w : goal.invariant-loop-w
invariant-loop-w g l =
    Running l.k (table_in l.table) (covered_by (table_in l.table).controllers (positions l.first)) l.room l.rounds (positions l.w.items)

abbrev pub decreases-loop-w : goal.decreases-loop-w
decreases-loop-w g l = (l.k + 2) ^ (table_in l.table).controllers - l.rounds
