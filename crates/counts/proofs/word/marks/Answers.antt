-- `marks`: each byte is the mark of its state, or 100 for more. Assumes nothing.
use Prim.Native.Nat.{min}
use native.Mathlib.Omega.{arith}
use borrow.Author.Rules.{rules}
use lib.ListN.{get_or}
use Rattle.counts.specs.Words.{mark_counts}
use Rattle.counts.proofs.Made.{counts-given}
use Rattle.counts.proofs.word.marks.Goals as goal

pub returns : goal.returns
unfolding mark_counts
returns c =
    counts-given _ _ c.of_bytes.ensures (λ q. min (get_or c.args.marks q 0) 100) (λ q. omega arith) (λ q byte l given. search rules)
