-- `part`: the loop's invariant is that `taken` holds those of the positions seen that another list covers, and `rest` those that it does
-- not. Assumes nothing.
use mathlib.Core.Path.{◌≡◌}
use lib.ListN.{take}
use Rattle.meaning.specs.Lists.{keep}
use Rattle.meaning.specs.Counting.{covered}
use Rattle.lists.specs.Members.{positions}
use Rattle.tops.specs.Candidates.{uncovered}
use Rattle.tops.proofs.part.Given as goal

abbrev pub invariant-loop-p : goal.invariant-loop-p
invariant-loop-p g l =
    (positions l.taken.items ≡ keep (covered (positions l.others)) (positions (take l.p-index l.set)))
    × (positions l.rest.items ≡ keep (uncovered (positions l.others)) (positions (take l.p-index l.set)))
