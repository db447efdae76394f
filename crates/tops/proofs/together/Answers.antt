-- `together`: the steps are those of the definition: the uncovered ones of the one list, and what the other adds. If there is no room for
-- the first there is none at the end. Assumes nothing.
use mathlib.Core.Path.{refl, ap}
use mathlib.Core.List.{[]}
use native.Mathlib.Omega.{arith}
use lib.ListN.{length}
use Rattle.meaning.specs.Lists.{keep}
use Rattle.lists.specs.Members.{positions}
use Rattle.lists.proofs.Members.{positions-length}
use Rattle.tops.specs.Candidates.{uncovered, united}
use Rattle.tops.proofs.Meets.{meets_none}
use Rattle.tops.proofs.Held.{holds-full}
use Rattle.tops.proofs.Collect.{collected_grows}
use Rattle.tops.proofs.together.Goals as goal

pub returns-then-room-left : goal.returns-then-room-left
unfolding united
returns-then-room-left g c =
    let E = positions c.args.backs.now in
    let left = keep (uncovered E) (positions c.args.set.now) in
    holds-full _ refl
    (omega (
      arith,
      c.len-left.ensures.value,
      collected_grows [] left E,
      ap length {y = left} c.rest.ensures,
      positions-length c.rest.new.out.items,
    ))

pub returns : goal.returns
unfolding united
returns g c = rw (meets_none, c.rest.ensures) at c.keep_row.ensures
