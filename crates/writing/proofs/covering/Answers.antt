-- `covering`: the search gives the position of the first word that compares as at most. That is the place of the first member that is
-- above, since comparing two words says whether the one's counts are below the other's. Assumes nothing.
use mathlib.Core.Path.{◌∙◌}
use borrow.Author.Rules.{rules}
use borrow.Author.Tests.{tests}
use Rattle.std.proofs.lemmas.Iterator.{YieldsList-from_slice}
use Rattle.std.proofs.lemmas.Iterator.Search.{position_from_yields_List}
use Rattle.meaning.specs.Counting.{below}
use Rattle.meaning.specs.Compared.{compared, at_most}
use Rattle.meaning.specs.Written.{covering}
use Rattle.meaning.proofs.Compared.{at-most-below}
use Rattle.counts.specs.Words.{counts_in}
use Rattle.counts.proofs.Compared.{as_long}
use Rattle.writing.proofs.Chains.{place-positions}
use Rattle.writing.proofs.covering.Goals as goal

pub returns : goal.returns
unfolding covering
returns c =
    let F = counts_in c.args.p in
    position_from_yields_List (λ m. at_most (compared F (counts_in m))) _ _ _ c.position.ensures.ran
    (YieldsList-from_slice c.args.list.now cc) (λ x b q k. search (rules, tests))
    ∙ place-positions (below F) _ (λ m. at-most-below F (counts_in m) (as_long c.args.p m)) c.args.list.now
