-- `marks` writes the mark of each state of a side at its number. The loop's invariant: q is the number of states among the first i
-- records, and the marks are theirs. Assumes nothing.
use mathlib.Core.Path.{◌≡◌}
use lib.ListN.{length, take}
use Rattle.meaning.specs.Records.{records_of, of_kind}
use Rattle.meaning.specs.Table.{mark_of}
use Rattle.table.specs.Packed.{marks as marks'}
use Rattle.table.proofs.read.marks.Given as goal

abbrev pub invariant-loop-r : goal.invariant-loop-r
invariant-loop-r l =
    (l.q ≡ length (of_kind l.kind (take l.r-index (records_of l.bytes))))
    × (l.marks ≡ marks' (mark_of l.kind (take l.r-index (records_of l.bytes))))
