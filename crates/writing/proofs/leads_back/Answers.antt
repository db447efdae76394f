-- `leads_back`: all of the inputs, one by one, is what the word `each` says. What `covers` says of the position after a round is what the
-- definition asks of the input, since the list covers that position in eight counts exactly where it covers the one that it stands for.
-- Assumes nothing.
use mathlib.Core.Path.{refl, ◌∙◌}
use Prim.Native.Nat.{ℕ}
use native.Mathlib.Omega.{arith}
use borrow.Author.Rules.{rules}
use borrow.Author.Tests.{tests}
use Rattle.std.proofs.lemmas.Iterator.{YieldsList-from_range}
use Rattle.std.proofs.lemmas.Iterator.Search.{all_from_yields_List}
use Rattle.meaning.specs.Counting.{covered}
use Rattle.meaning.specs.Written.{after_round, leads_back}
use Rattle.counts.specs.Words.{counts_in}
use Rattle.table.specs.Packed.{table_in}
use Rattle.table.proofs.Chains.{all-range}
use Rattle.lists.specs.Members.{positions}
use Rattle.writing.proofs.Stepped.{covered_stepped}
use Rattle.writing.proofs.leads_back.Goals as goal

pub returns : goal.returns
unfolding leads_back table_in
returns c =
    let given = c.args in
    let t = table_in given.table in
    let test = λ (i : ℕ). covered (positions given.list.now) (after_round given.k t given.letter i (counts_in given.p)) in
    all_from_yields_List test _ _ _ c.all.ensures.ran
    (YieldsList-from_range 0 given.table.inputs given.table.inputs refl (omega arith))
    (λ i b q k. search (rules, tests, covered_stepped given.k t c.requires given.letter i (counts_in given.p)))
    ∙ all-range given.table.inputs test
