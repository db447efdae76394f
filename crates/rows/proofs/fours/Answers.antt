-- `fours`: the whole fours of the bytes are its rows. Assumes nothing.
use mathlib.Core.Path.{refl}
use Rattle.rows.proofs.Cut.{fours-rows}
use Rattle.rows.proofs.fours.Goals as goal

pub returns : goal.returns
returns c = rw c.as_chunks.ensures.front (fours-rows _ c.args.rows.now refl)
