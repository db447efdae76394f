-- `on_letter`: the closure gives the letter's byte of each source, so the masks are those of the letter; and these state its edges
-- (Halves.antt). Assumes nothing.
use mathlib.Core.Path.{◌≡◌}
use native.Mathlib.Omega.{arith}
use Rattle.std.proofs.lemmas.Grind.{common_steps}
use Rattle.steps.proofs.Halves.{masks_on, half-stated}
use Rattle.steps.proofs.on_letter.Goals as goal

pub returns : goal.returns
returns c =
    let masks : c.from_fn-masks.result ≡ masks_on c.args.bytes c.args.letter = grind (arith, common_steps) in
    half-stated _ c.args.bytes c.args.letter masks
