-- `output_of`: what the search finds among the letters is the first that leads back. Assumes nothing.
use mathlib.Core.Path.{◌≡◌}
use mathlib.Core.Bool.{true, false}
use borrow.Author.Rules.{rules}
use borrow.Author.Tests.{tests}
use Rattle.std.proofs.lemmas.Iterator.{first_from_Range}
use Rattle.meaning.specs.Counting.{covered}
use Rattle.meaning.specs.Written.{leads_back, output_of}
use Rattle.counts.specs.Words.{counts_in}
use Rattle.table.specs.Packed.{table_in}
use Rattle.lists.specs.Members.{positions}
use Rattle.writing.proofs.Chains.{first-found}
use Rattle.writing.proofs.output_of.Goals as goal

pub returns : goal.returns
unfolding output_of table_in
returns c =
    let given = c.args in
    let test = leads_back given.k (table_in given.table) (covered (positions given.list.now)) (counts_in given.p) in
    first-found given.table.outputs test c.find.result
    (first_from_Range _ _ _ _ (λ l. test l ≡ true) (λ l. test l ≡ false) c.find.ensures.ran (λ x q k. search (rules, tests))
    (λ x q k. search (rules, tests)))
