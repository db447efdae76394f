-- `pairs`: the outer loop's invariant is that `out` holds the pairs of the positions of the first list that were gone over, row by row;
-- the inner one's, that after these it holds the pairs of the next position with those of the second list that were gone over. Assumes
-- nothing.
use mathlib.Core.Path.{◌≡◌}
use mathlib.Core.List.{◌++◌, map}
use lib.ListN.{take}
use Rattle.counts.specs.Words.{counts_in}
use Rattle.lists.specs.Members.{positions}
use Rattle.join.specs.Beside.{beside_at, all_beside}
use Rattle.join.proofs.beside.pairs.Given as goal

abbrev pub invariant-loop-x : goal.invariant-loop-x
invariant-loop-x g l = positions l.out.items ≡ all_beside l.n (positions (take l.x-index l.a)) (positions l.b)

abbrev pub invariant-loop-y : goal.invariant-loop-y
invariant-loop-y g l =
    positions l.out.items
    ≡ all_beside l.n (positions (take l.x-index l.a)) (positions l.b)
    ++ map (beside_at l.n (counts_in l.x)) (positions (take l.y-index l.b))
