-- `answered_room`: each arm is one case of the definition. Assumes nothing.
use borrow.Author.Tests.{lt-ltb, le-ltb}
use Rattle.calls.proofs.answered_room.Goals as goal

pub returns-then-answer-lt24 : goal.returns-then-answer-lt24
returns-then-answer-lt24 c = rw (lt-ltb c.args.answer 24 c.if-answer-lt24.true)

pub returns-else-answer-lt24 : goal.returns-else-answer-lt24
returns-else-answer-lt24 c = rw (le-ltb c.args.answer 24 c.if-answer-lt24.false)
