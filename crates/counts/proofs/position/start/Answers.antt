-- `start`: each byte is 0 plus its mark at a start state of the side, at most K + 2, and 0 elsewhere. Assumes nothing.
use mathlib.Core.Bool.{cond}
use Prim.Native.Nat.{ℕ, ◌<◌}
use native.Mathlib.Omega.{arith}
use lib.ListN.{get_or}
use Rattle.std.proofs.lemmas.Grind.{common_steps}
use Rattle.meaning.specs.Table.{bit}
use Rattle.meaning.specs.Counting.{plus}
use Rattle.meaning.proofs.Signed.{plus_signed_lem}
use Rattle.counts.specs.Halves.{start_counts}
use Rattle.counts.proofs.Signed.{from_bits}
use Rattle.counts.proofs.Halves.{plus-low}
use Rattle.counts.proofs.Made.{chosen_low, wide-given}
use Rattle.counts.proofs.position.start.Goals as goal

pub returns : goal.returns
unfolding start_counts
returns c =
    let given = c.args in
    let marked : ℕ → ℕ = λ q. plus given.k (get_or given.marks q 0) 1 in
    wide-given _ _ c.of_bytes.ensures given.n (λ q. cond (bit given.starts q) (marked q) 0)
    (λ q. let low : marked q < 128 = omega (arith, plus-low given.k (get_or given.marks q 0) 1) in
    chosen_low (bit given.starts q) (marked q) 0 low (omega arith))
    (λ q byte l given. grind (arith, common_steps, from_bits, plus_signed_lem))
