-- `write` stores the joined table kind by kind. The loop's invariant: the records of the kinds before this one are stored, the first
-- table's and then the second's renumbered, from the start of the buffer up to the end. The measure is the number of kinds that are left.
-- Assumes nothing.
use Prim.Native.Nat.{◌-◌, ◌≤◌}
use Rattle.meaning.specs.Records.{records_of}
use Rattle.joined.specs.Joined.{Stored}
use Rattle.joined.proofs.Appended.{joined_before}
use Rattle.joined.proofs.write.Given as goal

abbrev pub invariant-loop-kind : goal.invariant-loop-kind
invariant-loop-kind l =
    (1 ≤ l.kind) × (l.kind ≤ 5)
    × Stored l.initial.out 0 (joined_before l.up.controllers l.up.worlds (records_of l.first) (records_of l.second) l.kind) l.out l.end

abbrev pub decreases-loop-kind : goal.decreases-loop-kind
decreases-loop-kind l = 5 - l.kind
