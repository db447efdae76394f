-- `row`: the loop's invariant is that the kept ones are the thinned lesser counts of x and each of the positions seen, the last first.
-- Assumes nothing.
use mathlib.Core.Path.{◌≡◌}
use mathlib.Core.List.{map, reverse}
use lib.ListN.{take}
use Rattle.counts.specs.Halves.{lesser_counts}
use Rattle.counts.specs.Words.{counts_in}
use Rattle.lists.specs.Members.{positions}
use Rattle.tops.specs.Tops.{thinned}
use Rattle.tops.proofs.row.Given as goal

abbrev pub invariant-loop-y : goal.invariant-loop-y
invariant-loop-y l =
    positions l.out.items ≡ thinned (reverse (map (lesser_counts (counts_in l.x)) (positions (take l.y-index l.ys))))
