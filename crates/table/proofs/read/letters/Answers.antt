-- `letters`: one more than each letter of the records of a kind, and the greatest of that. Assumes nothing.
use mathlib.Core.Path.{ap, sym, ◌∙◌}
use mathlib.Core.List.{List, map}
use Prim.Native.Nat.{ℕ, ◌+◌, max}
use borrow.Author.Rules.{rules}
use borrow.Author.Tests.{tests}
use lib.Dec.{eqb}
use Rattle.std.specs.Prelude.{Option}
use Rattle.std.specs.Option.{unwrap_or}
use Rattle.std.specs.List.{reduce}
use Rattle.std.proofs.lemmas.Iterator.{YieldsList-from_slice, YieldsList-from_map, YieldsList-from_map_by}
use Rattle.std.proofs.lemmas.Iterator.Adapters.{option_map_id}
use Rattle.std.proofs.lemmas.Iterator.Consumers.{YieldsList-at, YieldsList-from_filter, max_from_yields_List}
use Rattle.meaning.specs.Records.{Record, records_of}
use Rattle.table.specs.Packed.{record_in, of_bytes}
use Rattle.table.proofs.Chains.{kind-filtered, letters-largest}
use Rattle.table.proofs.read.letters.Goals as goal

pub returns : goal.returns
returns c =
    let kind = c.args.kind in
    let of_this = λ (r : Record). eqb r.kind kind in
    let next = λ (r : Record). r.letter + 1 in
    c.unwrap_or.ensures
    ∙ ap (λ (o : Option ℕ). unwrap_or o 0)
    (sym (option_map_id c.max.result)
    ∙ max_from_yields_List c.map-2.result c.max.result c.max.ensures.ran
    (YieldsList-from_map _ next
    (YieldsList-at c.map-2.ensures.source
    (YieldsList-from_filter _ of_this
    (YieldsList-at c.filter-edges.ensures.source
    (YieldsList-from_map_by _ record_in of_bytes (YieldsList-from_slice c.records.result.now cc) c.map.ensures.closure
    (λ x r q k. search (rules, tests))))
    c.filter-edges.ensures.closure
    (λ x b q k. search (rules, tests))))
    c.map-2.ensures.closure
    (λ x r q k. search (rules, tests)))
    ∙ ap (λ (l : List Record). reduce max (map next l))
    (kind-filtered kind c.records.result.now (records_of c.args.bytes.now) c.records.ensures))
    ∙ letters-largest kind (records_of c.args.bytes.now)
