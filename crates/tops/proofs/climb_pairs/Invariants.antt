-- `climb_pairs`: the loop's invariant is that `top` is where the position climbs to over the pairs of the positions seen. Where x is not
-- above it, no pair of x is. Assumes nothing.
use mathlib.Core.Path.{◌≡◌}
use lib.ListN.{take}
use Rattle.counts.specs.Words.{counts_in}
use Rattle.lists.specs.Members.{positions}
use Rattle.tops.specs.Tops.{meets}
use Rattle.tops.specs.Candidates.{climbed}
use Rattle.tops.proofs.climb_pairs.Given as goal

abbrev pub invariant-loop-x : goal.invariant-loop-x
invariant-loop-x l = counts_in l.top ≡ climbed (meets (positions (take l.x-index l.xs)) (positions l.ys)) (counts_in l.fn.p)
