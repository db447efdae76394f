-- `of_letters` tries the second byte of every four, its row's output. Assumes nothing.
use mathlib.Core.Path.{refl, ◌∙◌}
use mathlib.Core.Bool.{Bool}
use mathlib.Core.List.{List}
use Prim.Native.Nat.{ℕ}
use lib.Dec.{ltb}
use lib.ListN.{get_or}
use borrow.Author.Rules.{rules}
use borrow.Author.Tests.{tests}
use Rattle.std.proofs.lemmas.Iterator.{YieldsList-from_slice}
use Rattle.std.proofs.lemmas.Iterator.Search.{all_from_yields_List}
use Rattle.rows.proofs.Cut.{every-four}
use Rattle.checker.proofs.of_letters.Goals as goal

pub returns : goal.returns
returns c =
    let fours = c.fours.result.now in
    let test : List ℕ → Bool = λ x. ltb (get_or x 1 0) c.args.outputs in
    all_from_yields_List test _ _ c.all.result c.all.ensures.ran (YieldsList-from_slice fours cc) (λ x b q k. search (rules, tests))
    ∙ every-four c.args.rows.now fours c.fours.ensures (λ r. ltb r.output c.args.outputs) test (λ i _. refl)
