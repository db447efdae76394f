-- `part`: one more position is kept by one of the two tests and dropped by the other. Neither list holds more than the positions seen, so
-- there is room. At the end all are seen. Assumes nothing.
use mathlib.Core.Path.{◌≡◌, sym, ap, ◌∙◌}
use mathlib.Core.Bool.{true, false, not}
use native.Mathlib.Omega.{arith}
use lib.ListN.{length, get_or, take}
use lib.Seq.{take-length}
use Rattle.meaning.specs.Counting.{covered}
use Rattle.counts.specs.Words.{counts_in}
use Rattle.lists.specs.Members.{positions}
use Rattle.lists.proofs.Members.{positions-more, positions-next}
use Rattle.lists.proofs.OneMore.{keep-more, keep_past}
use Rattle.tops.specs.Candidates.{uncovered}
use Rattle.tops.proofs.Positions.{fewer}
use Rattle.tops.proofs.part.Goals as goal
use Rattle.tops.proofs.part.Goals.{else-covers, then-covers}

pub loop-p-init : goal.loop-p-init
unfolding positions
loop-p-init g c = (rw c.clear.ensures, rw c.clear-2.ensures)

pub push-requires : goal.push-requires
push-requires g c =
    (omega arith, omega (arith, c.requires, fewer c.args.set.now _ _ c.loop-p.p-index c.loop-p-test.true c.loop-p.invariant.0))

pub push-requires-else-covers : goal.push-requires-else-covers
push-requires-else-covers g c =
    (omega arith, omega (arith, c.requires, fewer c.args.set.now _ _ c.loop-p.p-index c.loop-p-test.true c.loop-p.invariant.1))

pub loop-p-preserved : goal.loop-p-preserved
loop-p-preserved g c =
    let all = c.args.set.now in
    let others = positions c.args.others.now in
    let i = c.loop-p.p-index in
    let seen = positions (take i all) in
    let p = get_or all i 0 in
    let inv = c.loop-p.invariant in
    let next = positions-next all i c.loop-p-test.true in
    elim c.if-covers.branch [
      | then-covers w ↦
          let test : covered others (counts_in p) ≡ true = sym c.covers.ensures ∙ w.if-covers.true in (
            rw (w.taken-is, w.push.ensures.items, positions-more c.loop-p.taken.items p, inv.0, next)
                (sym (keep-more (covered others) seen (counts_in p) test)),
            rw (w.rest-is, inv.1, next) (sym (keep_past (uncovered others) seen (counts_in p) (ap not test))),
          )
      | else-covers w ↦
          let test : covered others (counts_in p) ≡ false = sym c.covers.ensures ∙ w.if-covers.false in (
            rw (w.taken-is, inv.0, next) (sym (keep_past (covered others) seen (counts_in p) test)),
            rw (w.rest-is, w.push-else-covers.ensures.items, positions-more c.loop-p.rest.items p, inv.1, next)
                (sym (keep-more (uncovered others) seen (counts_in p) (ap not test))),
          )
    ]

pub returns : goal.returns
returns g c =
    let at = c.before in
    let all = at.args.set.now in
    let e : at.loop-p.p-index ≡ length all = omega arith in
    let whole = rw (e, take-length all) at at.loop-p.invariant in
    record { taken = whole.0; rest = whole.1 }
