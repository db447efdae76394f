-- `forward`: the loop's invariant is that the counts of `most` are the largest that the sources before p bring, before any mark
-- (Spreads.antt). A turn takes the greater of them and of the source's count at its targets; a source where no run is brings nothing.
-- Charged once, they are the step. Assumes nothing.
use Rattle.counts.proofs.Spreads.{Arrived}
use Rattle.counts.proofs.word.forward.Given as goal

abbrev pub invariant-loop-p : goal.invariant-loop-p
invariant-loop-p l = Arrived l.spreads l.letter l.word l.p l.most
