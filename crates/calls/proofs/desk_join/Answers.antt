-- `desk_join`: with too short an answer's buffer nothing is written; else the output is what joining leaves, and its answer is laid down.
-- Assumes nothing.
use Rattle.calls.proofs.Called.{joins-short, joins_long}
use Rattle.calls.proofs.desk_join.Goals as goal

pub returns-then-answer-lt24 : goal.returns-then-answer-lt24
returns-then-answer-lt24 c = joins-short _ _ _ _ c.if-answer-lt24.true

pub returns : goal.returns
returns c =
    joins_long _ _ _ _ c.if-answer-lt24.false _ _ _ _ c.join-joined.ensures c.report.ensures.code
    c.report.ensures.bytes
