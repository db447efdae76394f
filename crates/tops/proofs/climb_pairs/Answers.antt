-- `climb_pairs`: where x is above, the climb goes on over the pairs of x, and where it is not, the climb passes them by. At the end all
-- positions are seen. Assumes nothing.
use mathlib.Core.Path.{◌≡◌, refl, sym, ◌∙◌}
use mathlib.Core.List.{flat_map}
use native.Mathlib.Omega.{arith}
use lib.ListN.{length, get_or, take}
use lib.Seq.{take-length}
use Rattle.counts.specs.Words.{counts_in}
use Rattle.counts.proofs.Compared.{at-most_words}
use Rattle.lists.specs.Members.{positions}
use Rattle.lists.proofs.Members.{positions-next}
use Rattle.tops.specs.Tops.{meets}
use Rattle.tops.specs.Candidates.{climbed}
use Rattle.tops.proofs.ClimbPairs.{rows_up, rows_past}
use Rattle.tops.proofs.climb_pairs.Goals as goal
use Rattle.tops.proofs.climb_pairs.Goals.{else-at_most, then-at_most}

pub loop-x-init : goal.loop-x-init
unfolding positions climbed meets flat_map
loop-x-init c = refl

pub climb_with-top-requires : goal.climb_with-top-requires
climb_with-top-requires c = sym (at-most_words _ _ c.at_most.ensures c.compare.ensures) ∙ c.if-at_most.true

pub loop-x-preserved : goal.loop-x-preserved
loop-x-preserved c =
    let given = c.args in
    let all = given.xs.now in
    let i = c.loop-x.x-index in
    let seen = positions (take i all) in
    let ys = positions given.ys.now in
    let x = counts_in (get_or all i 0) in
    let T = counts_in c.loop-x.top in
    let told = at-most_words c.loop-x.top (get_or all i 0) c.at_most.ensures c.compare.ensures in
    elim c.if-at_most.branch [
      | then-at_most w ↦
          rw (w.top-is, positions-next all i c.loop-x-test.true)
          (rows_up seen ys (counts_in given.p) T x c.loop-x.invariant (counts_in w.climb_with-top.result) w.climb_with-top.ensures)
      | else-at_most w ↦
          rw (w.top-is, positions-next all i c.loop-x-test.true)
          (rows_past seen ys (counts_in given.p) T x c.loop-x.invariant (sym told ∙ w.if-at_most.false))
    ]

pub returns : goal.returns
returns c =
    let at = c.before in
    let all = at.args.xs.now in
    let e : at.loop-x.x-index ≡ length all = omega arith in
    rw (e, take-length all) at at.loop-x.invariant
