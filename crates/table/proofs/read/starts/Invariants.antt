-- `starts` sets the bit of each start state. The loop's invariant: q is the number of controller-turn states among the first i records,
-- and the mask is that of the starts among them. Assumes nothing.
use mathlib.Core.Path.{◌≡◌}
use lib.ListN.{length, take}
use Rattle.meaning.specs.Records.{records_of, of_kind, controller}
use Rattle.meaning.specs.Table.{starts_of}
use Rattle.masks.specs.Mask.{mask}
use Rattle.table.proofs.read.starts.Given as goal

abbrev pub invariant-loop-r : goal.invariant-loop-r
invariant-loop-r l =
    (l.q ≡ length (of_kind controller (take l.r-index (records_of l.bytes))))
    × (l.set ≡ mask 8 (starts_of (take l.r-index (records_of l.bytes))))
