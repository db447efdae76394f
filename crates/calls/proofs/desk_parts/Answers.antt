-- `desk_parts`: the buffers are those that solving by parts leaves with the room that there is, and its answer is laid down. Assumes
-- nothing.
use Rattle.meaning.specs.Answers.{parts}
use Rattle.calls.specs.Called.{called_parts}
use Rattle.calls.proofs.Called.{parts-roomless, called-solving}
use Rattle.calls.proofs.desk_parts.Goals as goal

pub returns : goal.returns
unfolding called_parts
returns c =
    let given = c.args in
    let win = given.winners.now in
    let con = given.controller.now in
    called-solving given.k given.room win con given.answer.now
    (λ n. parts given.first.now given.second.now given.k n win con)
    (parts-roomless given.first.now given.second.now given.k win con) _ _ _ _ _ _
    c.answered_room-room.ensures c.parts-solved.ensures c.report.ensures.code c.report.ensures.bytes
