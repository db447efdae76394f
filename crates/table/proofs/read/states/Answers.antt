-- `states` counts the records of a kind, filtered from those that the chunks state. Assumes nothing.
use mathlib.Core.Path.{ap, ◌∙◌}
use borrow.Author.Rules.{rules}
use borrow.Author.Tests.{tests}
use lib.ListN.{length}
use lib.Dec.{eqb}
use Rattle.std.proofs.lemmas.Iterator.{YieldsList-from_slice, YieldsList-from_map_by}
use Rattle.std.proofs.lemmas.Iterator.Consumers.{YieldsList-at, YieldsList-from_filter, count_from_yields_List}
use Rattle.meaning.specs.Records.{Record, records_of}
use Rattle.table.specs.Packed.{record_in, of_bytes}
use Rattle.table.proofs.Chains.{kind-filtered}
use Rattle.table.proofs.read.states.Goals as goal

pub returns : goal.returns
returns c =
    let kind = c.args.kind in
    let of_this = λ (r : Record). eqb r.kind kind in
    count_from_yields_List c.filter.result c.count.result c.count.ensures.ran
    (YieldsList-from_filter _ of_this
    (YieldsList-at c.filter.ensures.source
    (YieldsList-from_map_by _ record_in of_bytes (YieldsList-from_slice c.records.result.now cc) c.map.ensures.closure
    (λ x r q k. search (rules, tests))))
    c.filter.ensures.closure
    (λ x b q k. search (rules, tests)))
    ∙ ap length (kind-filtered kind c.records.result.now (records_of c.args.bytes.now) c.records.ensures)
