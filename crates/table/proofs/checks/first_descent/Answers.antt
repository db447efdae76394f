-- `first_descent`: the chain pairs each record with the next one, so that the record after the position it finds is the later one of the
-- first bad pair. Assumes nothing.
use mathlib.Core.Path.{ap, ◌∙◌}
use Prim.Native.Nat.{ℕ, ◌+◌}
use borrow.Author.Rules.{rules}
use borrow.Author.Tests.{tests}
use Rattle.std.specs.Option.{option_map}
use Rattle.std.proofs.lemmas.Iterator.{YieldsList-from_slice, YieldsList-from_zip}
use Rattle.std.proofs.lemmas.Iterator.Adapters.{YieldsList-from_skip}
use Rattle.std.proofs.lemmas.Iterator.Consumers.{YieldsList-at}
use Rattle.std.proofs.lemmas.Iterator.Search.{position_from_yields_List}
use Rattle.meaning.specs.Records.{records_of}
use Rattle.table.proofs.Chains.{descend, later, descent-found}
use Rattle.table.proofs.checks.first_descent.Goals as goal

pub returns : goal.returns
returns c =
    let chunks = c.records-records.result.now in
    later _ (λ x y k. search (rules, tests)) c.position.result c.map.result c.map.ensures.cases
    ∙ ap (option_map (λ (x : ℕ). x + 1))
    (position_from_yields_List {s = c.zip-neighbours.result} descend c.position.new.self _ _ c.position.ensures.ran
    (YieldsList-from_zip
    (YieldsList-at c.zip-neighbours.ensures.first (YieldsList-from_slice chunks cc))
    (YieldsList-at c.zip-neighbours.ensures.second
    (YieldsList-from_skip 1 (YieldsList-at c.skip.ensures.source (YieldsList-from_slice chunks cc)) c.skip.ensures.count)))
    (λ x b q k. search (rules, tests)))
    ∙ descent-found chunks (records_of c.args.bytes.now) c.records-records.ensures
