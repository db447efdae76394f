-- `differing`: the loop's invariant is that the mask has the states below q that differ (`Gathered`). A turn adds q if its counts differ.
-- Assumes nothing.
use Rattle.counts.specs.Words.{counts_in}
use Rattle.compare.proofs.Gathering.{Gathered}
use Rattle.compare.proofs.differing.Given as goal

abbrev pub invariant-loop-q : goal.invariant-loop-q
invariant-loop-q l = Gathered (counts_in l.a) (counts_in l.b) l.q l.states
