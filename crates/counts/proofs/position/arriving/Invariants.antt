-- `arriving`: the loop's invariant is that `most` is the largest count that the side's states before p bring to q. A turn adds what p
-- brings over an edge, and nothing elsewhere. At 8 that is the largest over the whole side, since there are eight masks. Assumes nothing.
use mathlib.Core.Path.{◌≡◌}
use Rattle.meaning.specs.Lists.{largest}
use Rattle.meaning.specs.Counting.{one_higher}
use Rattle.counts.specs.Halves.{brought}
use Rattle.counts.specs.Words.{counts_in}
use Rattle.counts.proofs.Edges.{within}
use Rattle.counts.proofs.position.arriving.Given as goal

abbrev pub invariant-loop-p : goal.invariant-loop-p
invariant-loop-p l = one_higher l.most ≡ largest l.p (within l.half.sources 0 (brought l.k l.half (counts_in l.m) l.q))
