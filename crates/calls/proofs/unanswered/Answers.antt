-- `unanswered`: each arm is one case of the definition. Assumes nothing.
use borrow.Author.Tests.{lt-ltb, le-ltb}
use Rattle.calls.proofs.unanswered.Goals as goal

pub returns-then-k-gt7 : goal.returns-then-k-gt7
returns-then-k-gt7 c = rw (lt-ltb 7 c.args.k c.if-k-gt7.true)

pub returns-else-k-gt7 : goal.returns-else-k-gt7
returns-else-k-gt7 c = rw (le-ltb 7 c.args.k c.if-k-gt7.false)
