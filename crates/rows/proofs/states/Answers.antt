-- `states` counts the fours whose third byte is 0, and those are the rows of input 0. Assumes nothing.
use mathlib.Core.Path.{refl, ◌∙◌}
use lib.Dec.{eqb}
use lib.ListN.{get_or}
use borrow.Author.Rules.{rules}
use borrow.Author.Tests.{tests}
use Rattle.std.proofs.lemmas.Iterator.{YieldsList-from_slice}
use Rattle.std.proofs.lemmas.Iterator.Consumers.{count_from_yields_List, YieldsList-from_filter}
use Rattle.meaning.specs.Controller.{states_in}
use Rattle.rows.proofs.Cut.{kept-fours}
use Rattle.rows.proofs.states.Goals as goal

pub returns : goal.returns
unfolding states_in
returns c =
    count_from_yields_List c.filter.result _ c.count.ensures.ran
    (YieldsList-from_filter _ (λ x. eqb (get_or x 2 0) 0) (YieldsList-from_slice c.fours.result.now cc) c.filter.ensures.closure
    (λ x b q k. search (rules, tests)))
    ∙ kept-fours c.args.rows.now c.fours.result.now c.fours.ensures (λ r. eqb r.input 0) (λ x. eqb (get_or x 2 0) 0) (λ x. refl)
