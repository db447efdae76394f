-- `brim`: each byte is K, one higher, at a state of the side, and 0 beyond it. Assumes nothing.
use Prim.Native.Nat.{◌+◌}
use native.Mathlib.Omega.{arith}
use borrow.Author.Rules.{rules}
use Rattle.counts.proofs.Made.{wide-given}
use Rattle.counts.proofs.position.brim.Goals as goal

pub returns : goal.returns
returns c = wide-given _ _ c.of_bytes.ensures c.args.n (λ _. c.args.k + 1) (λ q. omega arith) (λ q byte l given. search rules)
