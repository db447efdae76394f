-- `climb_with`: the loop's invariant is that `top` is below x, and is where the position climbs to over the lesser counts of x and each of
-- the positions seen. A position below x is below another exactly if it is below the lesser counts of both. Assumes nothing.
use mathlib.Core.Path.{◌≡◌}
use mathlib.Core.Bool.{true}
use mathlib.Core.List.{map}
use lib.ListN.{take}
use Rattle.meaning.specs.Counting.{below}
use Rattle.counts.specs.Halves.{lesser_counts}
use Rattle.counts.specs.Words.{counts_in}
use Rattle.lists.specs.Members.{positions}
use Rattle.tops.specs.Candidates.{climbed}
use Rattle.tops.proofs.climb_with.Given as goal

abbrev pub invariant-loop-y : goal.invariant-loop-y
invariant-loop-y l =
    (below (counts_in l.top) (counts_in l.x) ≡ true)
    × (counts_in l.top ≡ climbed (map (lesser_counts (counts_in l.x)) (positions (take l.y-index l.ys))) (counts_in l.fn.p))
