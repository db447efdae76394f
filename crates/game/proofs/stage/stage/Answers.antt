-- `stage`: the rounds settle from the set that the first list covers. Where they are full, so is the stage; else finishing the list that
-- they left is what the stage comes to. Assumes nothing.
use native.Mathlib.Omega.{arith}
use mathlib.Core.Path.{refl, sym, ap, ◌∙◌}
use Rattle.meaning.specs.declared.Answer.{Answer}
use Rattle.meaning.specs.Answers.{staged, unsolved, solved}
use Rattle.meaning.proofs.Buffers.{room-grants}
use Rattle.game.proofs.InOrder.{told-passed, stage-full, settled_playable, settled_roomy, settled_finished}
use Rattle.game.proofs.stage.stage.Goals as goal

pub settle-requires : goal.settle-requires
settle-requires c =
    let granted = room-grants c.args.room c.args.winners.now c.args.controller.now c.requires.bounds.1 in
    (omega arith, (c.requires.bounds.0, granted.some, granted.within, c.requires.list, granted.within))

pub returns-in_err-rounds : goal.returns-in_err-rounds
unfolding staged unsolved
returns-in_err-rounds c =
    ap (λ (answer : Answer). solved answer c.args.winners.now c.args.controller.now) (told-passed _ _ c.from_residual.ensures.1)
    ∙ sym (stage-full c.in_err-rounds.ensures 0 (unsolved c.args.winners.now c.args.controller.now) _ refl)

pub finish-requires : goal.finish-requires
finish-requires c =
    let settles = c.in_ok-rounds.ensures in
    let fit = c.requires.bounds.2 in
    let first = c.requires.list.first in
    let granted = room-grants c.args.room c.args.winners.now c.args.controller.now c.requires.bounds.1 in
    rw c.deref.ensures.0 (
      settled_playable settles refl first fit c.requires.bounds.0 granted.within,
      settled_roomy settles refl first fit c.args.winners.now c.args.controller.now c.requires.bounds.1,
    )

pub returns : goal.returns
unfolding staged
returns c =
    (rw c.deref.ensures.0 at c.finish.ensures)
    ∙ settled_finished c.in_ok-rounds.ensures refl c.requires.list.first c.requires.bounds.2.small 0 c.args.winners.now
    c.args.controller.now
