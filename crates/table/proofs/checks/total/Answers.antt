-- `total`: all of the letters, one by one, is what the word `each` says. Assumes nothing.
use mathlib.Core.Path.{refl, ◌∙◌}
use Prim.Native.Nat.{ℕ}
use native.Mathlib.Omega.{arith}
use borrow.Author.Rules.{rules}
use borrow.Author.Tests.{tests}
use Rattle.std.proofs.lemmas.Iterator.{YieldsList-from_range}
use Rattle.std.proofs.lemmas.Iterator.Search.{all_from_yields_List}
use Rattle.meaning.specs.Lists.{each}
use Rattle.table.specs.Packed.{has_edge}
use Rattle.table.proofs.Chains.{all-range}
use Rattle.table.proofs.checks.total.Goals as goal

pub returns : goal.returns
returns c =
    let args = c.args in
    let test = λ (l : ℕ). each args.sources (has_edge args.targets args.reached l) in
    all_from_yields_List test _ _ _ c.all.ensures.ran (YieldsList-from_range 0 args.letters args.letters refl (omega arith))
    (λ x b q k. search (rules, tests))
    ∙ all-range args.letters test
