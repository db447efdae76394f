-- `append` stores the renumbered records of a kind one after the other. The loop's invariant: those among the first i records are stored,
-- from the start on up to the end. Assumes nothing.
use lib.ListN.{take}
use Rattle.meaning.specs.Records.{records_of}
use Rattle.joined.specs.Joined.{moved_bytes, Stored}
use Rattle.joined.proofs.append.Given as goal

abbrev pub invariant-loop-r : goal.invariant-loop-r
invariant-loop-r l =
    Stored l.initial.out l.start (moved_bytes l.up.controllers l.up.worlds l.kind (take l.r-index (records_of l.bytes))) l.out l.end
