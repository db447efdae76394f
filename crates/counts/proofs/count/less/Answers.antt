-- `less`: the difference fits two bytes, so that it is exact; below 0 it is floored, and else one byte holds it. By the library's rules for
-- signed numbers and their casts. Assumes nothing.
use borrow.Author.Differences.{ints}
use borrow.Author.Rules.{rules}
use Rattle.meaning.specs.Signed.{less_signed, max_z}
use Rattle.counts.proofs.count.less.Goals as goal

pub returns-then-left-lt0 : goal.returns-then-left-lt0
unfolding less_signed max_z
returns-then-left-lt0 c = search (rules, ints)

pub returns-else-left-lt0 : goal.returns-else-left-lt0
unfolding less_signed max_z
returns-else-left-lt0 c = search (rules, ints)
