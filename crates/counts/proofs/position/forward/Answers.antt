-- `forward`: each byte is what arrives at a state of the side, at most K + 2, and 0 beyond it. Assumes nothing.
use native.Mathlib.Omega.{arith}
use Rattle.std.proofs.lemmas.Grind.{common_steps}
use Rattle.meaning.specs.Lists.{largest}
use Rattle.meaning.specs.Counting.{forward}
use Rattle.counts.specs.Halves.{half_of, brought}
use Rattle.counts.specs.Words.{counts_in}
use Rattle.counts.proofs.Signed.{from_bits}
use Rattle.counts.proofs.Halves.{brought-low}
use Rattle.counts.proofs.Made.{wide-given}
use Rattle.counts.proofs.position.forward.Goals as goal

pub returns : goal.returns
unfolding forward half_of
returns c =
    let given = c.args in
    let half = given.half in
    let F = counts_in given.m in
    wide-given _ _ c.of_bytes.ensures half.targets (λ q. largest half.sources (brought given.k half F q))
    (λ q. omega (arith, brought-low given.k half F q)) (λ q byte l given. grind (arith, common_steps, from_bits))
