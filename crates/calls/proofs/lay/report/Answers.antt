-- `report`: the answer is laid down in the one arm, and nothing is written in the other. A code fits, since it is at most 14. Assumes
-- nothing.
use native.Mathlib.Omega.{arith}
use borrow.Author.Tests.{lt-ltb, le-ltb}
use lib.ListN.{length}
use Rattle.meaning.proofs.Codes.{code_below}
use Rattle.calls.specs.Called.{reported}
use Rattle.calls.proofs.lay.report.Goals as goal

pub overflow_cast-code : goal.overflow_cast-code
overflow_cast-code c = omega (arith, c.code-code.ensures, code_below c.args.answer.verdict)

pub returns-then-out-lt24 : goal.returns-then-out-lt24
unfolding reported
returns-then-out-lt24 c = record { code = c.code-code.ensures; bytes = rw (lt-ltb (length c.args.out.now) 24 c.if-out-lt24.true) }

pub returns : goal.returns
unfolding reported
returns c =
    record { code = c.code-code.ensures; bytes = rw (le-ltb (length c.args.out.now) 24 c.if-out-lt24.false) c.lay.ensures }
