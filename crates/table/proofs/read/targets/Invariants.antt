-- `targets` sets one bit for each edge. The loop's invariant: the masks are the bytes of targets of the first i records. Assumes nothing.
use mathlib.Core.Path.{◌≡◌}
use lib.ListN.{take}
use Rattle.meaning.specs.Records.{records_of}
use Rattle.meaning.specs.Table.{edge_of}
use Rattle.table.specs.Packed.{targets as targets_of}
use Rattle.table.proofs.read.targets.Given as goal

abbrev pub invariant-loop-r : goal.invariant-loop-r
invariant-loop-r l = (l.masks ≡ targets_of (edge_of l.kind (take l.r-index (records_of l.bytes))))
