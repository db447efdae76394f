-- `rest`: the loop's invariant is that `out` holds those of the positions seen that the other list does not cover. Assumes nothing.
use mathlib.Core.Path.{◌≡◌}
use lib.ListN.{take}
use Rattle.meaning.specs.Lists.{keep}
use Rattle.lists.specs.Members.{positions}
use Rattle.tops.specs.Candidates.{uncovered}
use Rattle.tops.proofs.rest.Given as goal

abbrev pub invariant-loop-p : goal.invariant-loop-p
invariant-loop-p g l = positions l.out.items ≡ keep (uncovered (positions l.others)) (positions (take l.p-index l.set))
