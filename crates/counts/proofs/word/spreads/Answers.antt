-- `spreads`: each word is what the closure gives at its place, the spread of that byte; and a call leaves the closure as it was.
-- Assumes nothing.
use mathlib.Core.Path.{◌≡◌}
use borrow.Author.Rules.{rules}
use lib.ListN.{get_or}
use Rattle.counts.specs.Words.{counts_in, spread_counts}
use Rattle.counts.proofs.Made.{items-given}
use Rattle.counts.proofs.word.spreads.Goals as goal

pub returns : goal.returns
returns c =
    let each =
    items-given _ _ (λ q y t k. search rules) c.from_fn.result 64
    (λ i word. counts_in word ≡ spread_counts (get_or c.args.targets i 0)) c.from_fn.ensures.items.each (λ i y t k. search rules) in
    record { all = search rules; spread = λ i l. each i 0 l }
