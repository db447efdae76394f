-- `forward`: a turn takes what a source brings, and nothing of a source where no run is; what arrives from all eight, charged once, is the
-- step of whatever half the words state (Spreads.antt). Past the eighth letter nothing arrives. Assumes nothing.
use mathlib.Core.Path.{◌≡◌}
use native.Mathlib.Omega.{arith}
use Rattle.counts.proofs.Spreads.{byte-count, arrived_none, arrived_next, arrived_skip, stepped_forward, no_letter}
use Rattle.counts.proofs.word.forward.Goals as goal
use Rattle.counts.proofs.word.forward.Goals.{else-count-gt0, then-count-gt0}

pub returns-then-letter-ge8 : goal.returns-then-letter-ge8
returns-then-letter-ge8 c =
    let given = c.args in
    no_letter given.k given.word given.spreads.now given.letter given.marks c.if-letter-ge8.true

pub loop-p-init : goal.loop-p-init
loop-p-init c = arrived_none c.args.spreads.now c.args.letter c.args.word

pub loop-p-preserved : goal.loop-p-preserved
loop-p-preserved c =
    let given = c.args in
    let p = c.loop-p.p in
    let byte = byte-count given.word p (omega arith) in
    let before = c.loop-p.invariant in
    elim c.if-count-gt0.branch [
      | then-count-gt0 w ↦ rw w.most-is (arrived_next given.spreads.now given.letter given.word p c.loop-p.most _ w.greater-most.result
          before byte w.greater-most.ensures)
      | else-count-gt0 w ↦ rw w.most-is (arrived_skip given.spreads.now given.letter given.word p c.loop-p.most _ before byte
          (omega (arith, w.if-count-gt0.false)))
    ]

pub returns : goal.returns
returns c =
    let given = c.args in
    let whole : c.loop-p.p ≡ 8 = omega arith in
    stepped_forward given.k given.word given.spreads.now given.letter given.marks c.loop-p.most c.charged.result
    c.requires c.if-letter-ge8.false (rw whole at c.loop-p.invariant) c.charged.ensures
