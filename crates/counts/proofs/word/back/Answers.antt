-- `back`: a turn at a target of the side lowers the counts by its bar and by its count less its mark, one byte for all sources; beyond the
-- side nothing is lowered; and what all eight targets leave is the step back (Bars.antt). Assumes nothing.
use mathlib.Core.Path.{◌≡◌}
use Prim.Native.Nat.{◌-◌}
use native.Mathlib.Omega.{arith}
use lib.ListN.{get_or}
use Rattle.std.proofs.lemmas.Grind.{common_steps}
use Rattle.meaning.specs.Counting.{count}
use Rattle.meaning.proofs.Signed.{less_signed_lem}
use Rattle.counts.specs.Words.{counts_in}
use Rattle.counts.proofs.Signed.{from_bits}
use Rattle.counts.proofs.Bytes.{counts_in-low}
use Rattle.counts.proofs.Bars.{lowered_by, lowered_still, lowered_whole}
use Rattle.counts.proofs.word.back.Goals as goal
use Rattle.counts.proofs.word.back.Goals.{else-q-half, then-q-half}

pub loop-q-preserved : goal.loop-q-preserved
loop-q-preserved c =
    let given = c.args in
    let half = given.half in
    let F = counts_in given.m in
    let q = c.loop-q.q in
    let low = c.loop-q.low in
    let before = c.loop-q.invariant in
    elim c.if-q-half.branch [
      | then-q-half w ↦ let eased : w.to_byte.result ≡ count F q - get_or half.marks q 0
          = grind (arith, common_steps, from_bits, less_signed_lem) in
          rw w.low-is (lowered_by half F given.most q low before (get_or given.bars.now q 0) w.to_byte.result w.lesser-low.result
          w.if-q-half.true (c.requires q w.if-q-half.true (omega arith)) eased (omega (arith, eased, counts_in-low given.m q))
          w.lesser-low.ensures)
      | else-q-half w ↦ rw w.low-is (lowered_still half F given.most q low before w.if-q-half.false)
    ]

pub returns : goal.returns
returns c =
    let whole : c.loop-q.q ≡ 8 = omega arith in
    lowered_whole c.args.half (counts_in c.args.m) c.args.most c.loop-q.low (rw whole at c.loop-q.invariant)
