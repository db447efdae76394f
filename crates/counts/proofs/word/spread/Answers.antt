-- `spread`: a byte of no target, whose word is 0. The other goal the check finds by the lemma that the function names. Assumes nothing.
use mathlib.Core.Path.{refl}
use Rattle.meaning.specs.Table.{bit}
use Rattle.counts.specs.Words.{counts_in, counts_before, spread_counts}
use Rattle.counts.proofs.word.spread.Goals as goal

pub returns-then-mask-eq0 : goal.returns-then-mask-eq0
unfolding counts_in counts_before spread_counts bit
returns-then-mask-eq0 c = rw c.if-mask-eq0.true refl
