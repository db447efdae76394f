-- `desk_check`: with too short an answer's buffer nothing is written; else what the check finds is laid down. Assumes nothing.
use mathlib.Core.Path.{refl, ap, ◌∙◌}
use mathlib.Core.Bool.{Bool, cond}
use Prim.Native.Nat.{◌≤◌}
use native.Mathlib.Omega.{arith}
use borrow.Author.Tests.{le-ltb}
use lib.ListN.{length}
use Rattle.meaning.specs.Lists.{written}
use Rattle.calls.specs.Called.{answer_bytes, reported}
use Rattle.calls.proofs.desk_check.Goals as goal

pub returns-then-answer-ge24 : goal.returns-then-answer-ge24
unfolding reported
returns-then-answer-ge24 c =
    let report = c.report in
    let found = c.check-found in
    let before = c.args.answer.now in
    let room : 24 ≤ length before = c.if-answer-ge24.true in
    record {
      short = λ short. absurd (omega arith);
      long = λ _. (
        found.result,
        found.ensures,
        report.ensures.code,
        report.ensures.bytes ∙ ap (λ (b : Bool). cond b before (written (answer_bytes found.result) before))
            (le-ltb (length before) 24 room),
      );
    }

pub returns : goal.returns
returns c =
    record {
      short = λ _. (c.unanswered.ensures, refl);
      long = λ long. absurd (omega (arith, c.if-answer-ge24.false));
    }
