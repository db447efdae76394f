-- `read`: the loop's invariant is that the bytes before its place are digits and their numbers are packed in `position` (`Taken`). A turn
-- takes one byte more, unless it is no digit; the eighth ends the word. Assumes nothing.
use Rattle.compare.proofs.Reading.{Taken}
use Rattle.compare.proofs.read.Given as goal

abbrev pub invariant-loop-byte : goal.invariant-loop-byte
invariant-loop-byte l = Taken l.word l.byte-index l.position
