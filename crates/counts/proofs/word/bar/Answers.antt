-- `bar`: each byte is 0 at a source with an edge to the target, and the highest count elsewhere. Assumes nothing.
use native.Mathlib.Omega.{arith}
use borrow.Author.Rules.{rules}
use Rattle.counts.specs.Words.{bar_counts}
use Rattle.counts.proofs.Bars.{barred}
use Rattle.counts.proofs.Made.{chosen_low, counts-given}
use Rattle.counts.proofs.word.bar.Goals as goal

pub returns : goal.returns
unfolding bar_counts
returns c =
    counts-given _ _ c.of_bytes.ensures (barred c.args.half.masks c.args.q) (λ p. chosen_low _ 0 127 (omega arith) (omega arith))
    (λ p byte l given. search rules)
