-- `desk_solve`: the buffers are those that solving leaves with the room that there is, and its answer is laid down. Assumes nothing.
use Rattle.meaning.specs.Answers.{solve}
use Rattle.calls.specs.Called.{called_solve}
use Rattle.calls.proofs.Called.{solve-roomless, called-solving}
use Rattle.calls.proofs.desk_solve.Goals as goal

pub returns : goal.returns
unfolding called_solve
returns c =
    let given = c.args in
    let win = given.winners.now in
    let con = given.controller.now in
    called-solving given.k given.room win con given.answer.now (λ n. solve given.table.now given.k n win con)
    (solve-roomless given.table.now given.k win con) _ _ _ _ _ _
    c.answered_room-room.ensures c.solve-solved.ensures c.report.ensures.code c.report.ensures.bytes
