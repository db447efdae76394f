-- `climb_with`: where the next position is above, the lesser counts of x and it are what the climb reaches; where it is not, neither are
-- they. At the end all positions are seen. Assumes nothing.
use mathlib.Core.Path.{◌≡◌, refl, sym, ap, ◌∙◌}
use native.Mathlib.Omega.{arith}
use lib.ListN.{length, get_or, take}
use lib.Seq.{take-length}
use Rattle.counts.specs.Halves.{lesser_counts}
use Rattle.counts.specs.Words.{counts_in}
use Rattle.counts.proofs.Compared.{at-most_words}
use Rattle.counts.proofs.Lesser.{lesser_left}
use Rattle.lists.specs.Members.{positions}
use Rattle.lists.proofs.Members.{positions-next}
use Rattle.tops.specs.Candidates.{climbed}
use Rattle.tops.proofs.ClimbPairs.{row_up, row_past}
use Rattle.tops.proofs.climb_with.Goals as goal
use Rattle.tops.proofs.climb_with.Goals.{else-at_most, then-at_most}

pub loop-y-init : goal.loop-y-init
unfolding positions climbed
loop-y-init c = (c.requires, refl)

pub loop-y-preserved : goal.loop-y-preserved
loop-y-preserved c =
    let given = c.args in
    let all = given.ys.now in
    let i = c.loop-y.y-index in
    let seen = positions (take i all) in
    let x = counts_in given.x in
    let y = counts_in (get_or all i 0) in
    let inv = c.loop-y.invariant in
    let T = counts_in c.loop-y.top in
    let told = at-most_words c.loop-y.top (get_or all i 0) c.at_most.ensures c.compare.ensures in
    elim c.if-at_most.branch [
      | then-at_most w ↦
          let e : counts_in c.if-at_most.top ≡ lesser_counts x y = ap counts_in w.top-is ∙ w.lesser-top.ensures in (
            rw e (lesser_left x y),
            rw (e, positions-next all i c.loop-y-test.true)
                (row_up x seen (counts_in given.p) T y inv.1 inv.0 (sym told ∙ w.if-at_most.true)),
          )
      | else-at_most w ↦ (
        rw w.top-is inv.0,
        rw (w.top-is, positions-next all i c.loop-y-test.true)
            (row_past x seen (counts_in given.p) T y inv.1 (sym told ∙ w.if-at_most.false)),
      )
    ]

pub returns : goal.returns
returns c =
    let at = c.before in
    let all = at.args.ys.now in
    let e : at.loop-y.y-index ≡ length all = omega arith in
    rw (e, take-length all) at at.loop-y.invariant.1
