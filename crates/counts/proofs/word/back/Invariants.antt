-- `back`: the loop's invariant is that the counts of `low` are the least of the most and of what the targets before q leave. A turn takes
-- the lesser of them and of the target's count less its mark, in every byte, under its bar; beyond the side nothing is left. At 8 that is
-- the step back under the most, since no mask has a target from 8 on. Assumes nothing.
use Rattle.counts.specs.Words.{counts_in}
use Rattle.counts.proofs.Bars.{Lowered}
use Rattle.counts.proofs.word.back.Given as goal

abbrev pub invariant-loop-q : goal.invariant-loop-q
invariant-loop-q l = Lowered l.half (counts_in l.m) l.most l.q l.low
