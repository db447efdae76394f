-- `beside`: each byte is the first position's count below n, and the second's from there on: at most 127, and so the count that it gives.
-- Assumes nothing.
use mathlib.Core.Bool.{cond}
use Prim.Native.Nat.{◌-◌}
use native.Mathlib.Omega.{arith}
use Rattle.std.proofs.lemmas.Grind.{common_steps}
use lib.Dec.{ltb}
use Rattle.meaning.specs.Counting.{count}
use Rattle.counts.specs.Words.{counts_in}
use Rattle.counts.proofs.Signed.{from_bits}
use Rattle.counts.proofs.Bytes.{counts_in-low}
use Rattle.counts.proofs.Made.{chosen_low, counts-given}
use Rattle.join.specs.Beside.{beside_at}
use Rattle.join.proofs.beside.beside.Goals as goal

pub returns : goal.returns
unfolding beside_at
returns c =
    let F = counts_in c.args.a in
    let G = counts_in c.args.b in
    let n = c.args.n in
    counts-given _ _ c.of_bytes.ensures (λ q. cond (ltb q n) (count F q) (count G (q - n)))
    (λ q. chosen_low (ltb q n) (count F q) (count G (q - n)) (omega (arith, counts_in-low c.args.a q))
    (omega (arith, counts_in-low c.args.b (q - n))))
    (λ q byte l given. grind (arith, common_steps, from_bits))
