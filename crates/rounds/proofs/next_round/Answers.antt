-- `next_round`: the words of the inputs hold the list of A for all inputs, so what the outputs make of it is W(r + 1). If the inputs had
-- room, the widest list of the round is past the room exactly if that of the outputs is. Assumes nothing.
use mathlib.Core.Path.{ap}
use native.Mathlib.Omega.{arith}
use Rattle.std.specs.Prelude.{is_ok, is_err}
use Rattle.sets.specs.Engine.{next_list}
use Rattle.rounds.specs.Rounds.{widest_of}
use Rattle.rounds.proofs.Runs.{last-full, full-last, fits-last, last-after}
use Rattle.rounds.proofs.next_round.Goals as goal

pub returns-in_err-all_inputs : goal.returns-in_err-all_inputs
unfolding widest_of
returns-in_err-all_inputs c =
    last-full c.from_residual.ensures.0 (omega (arith, full-last c.all_inputs.ensures (ap is_err c.in_err-all_inputs.was)))

pub returns : goal.returns
unfolding next_list widest_of
returns c =
    let held = fits-last c.all_inputs.ensures (ap is_ok c.in_ok-all_inputs.was) in
    last-after (rw (c.deref.ensures.0, held.1) at c.all_outputs.ensures) held.0
