-- `rest`: one more position is kept by the test or dropped by it. There are no more kept than seen, so there is room. At the end all are
-- seen. Assumes nothing.
use mathlib.Core.Path.{◌≡◌, sym, ap, ◌∙◌}
use mathlib.Core.Bool.{true, false, not}
use native.Mathlib.Omega.{arith}
use lib.ListN.{length, get_or, take}
use lib.Seq.{take-length}
use Rattle.meaning.specs.Counting.{covered}
use Rattle.counts.specs.Words.{counts_in}
use Rattle.lists.specs.Members.{positions}
use Rattle.lists.proofs.Members.{positions-more, positions-next}
use Rattle.lists.proofs.OneMore.{keep-more, keep_past}
use Rattle.tops.specs.Candidates.{uncovered}
use Rattle.tops.proofs.Positions.{fewer}
use Rattle.tops.proofs.rest.Goals as goal
use Rattle.tops.proofs.rest.Goals.{else-not-covers, then-not-covers}

pub loop-p-init : goal.loop-p-init
unfolding positions
loop-p-init g c = rw c.clear.ensures

pub push-requires : goal.push-requires
push-requires g c =
    (omega arith, omega (arith, c.requires, fewer c.args.set.now _ _ c.loop-p.p-index c.loop-p-test.true c.loop-p.invariant))

pub loop-p-preserved : goal.loop-p-preserved
loop-p-preserved g c =
    let all = c.args.set.now in
    let others = positions c.args.others.now in
    let i = c.loop-p.p-index in
    let seen = positions (take i all) in
    let p = get_or all i 0 in
    let inv = c.loop-p.invariant in
    let next = positions-next all i c.loop-p-test.true in
    elim c.if-not-covers.branch [
      | then-not-covers w ↦
          let test : covered others (counts_in p) ≡ false = sym c.covers.ensures ∙ w.if-not-covers.true in
          rw (w.out-is, w.push.ensures.items, positions-more c.loop-p.out.items p, inv, next)
          (sym (keep-more (uncovered others) seen (counts_in p) (ap not test)))
      | else-not-covers w ↦
          let test : covered others (counts_in p) ≡ true = sym c.covers.ensures ∙ w.if-not-covers.false in
          rw (w.out-is, inv, next) (sym (keep_past (uncovered others) seen (counts_in p) (ap not test)))
    ]

pub returns : goal.returns
returns g c =
    let at = c.before in
    let all = at.args.set.now in
    let e : at.loop-p.p-index ≡ length all = omega arith in
    rw (e, take-length all) at at.loop-p.invariant
