-- By the laws of states gathered one by one: a turn takes state q, which differs or not.
use Rattle.std.proofs.Common.{◌∙◌, sym}
use Rattle.compare.proofs.Gathering.{gathered_none, gathered_next, gathered_skip, gathered-all}
use Rattle.compare.proofs.differing.Goals.{then-digit, else-digit}
use Rattle.compare.proofs.differing.Goals as goal

pub loop-q-init : goal.loop-q-init
loop-q-init c = gathered_none _ _

pub loop-q-preserved : goal.loop-q-preserved
loop-q-preserved c =
    let one = c.digit.ensures in
    let other = c.digit-in-loop-q.ensures in
    elim c.if-digit.branch [
      | then-digit w ↦
          rw w.states-is (gathered_next _ _ c.loop-q.q c.loop-q.states _ c.loop-q.invariant
          (λ e. w.if-digit.true (one ∙ e ∙ sym other)) w.with_state-states.ensures)
      | else-digit w ↦
          rw w.states-is (gathered_skip _ _ c.loop-q.q c.loop-q.states c.loop-q.invariant (sym one ∙ w.if-digit.false ∙ other))
    ]

pub returns : goal.returns
returns c = gathered-all _ _ c.loop-q.q c.loop-q.states c.loop-q.invariant c.loop-q-test.false
