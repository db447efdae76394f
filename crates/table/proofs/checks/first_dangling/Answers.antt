-- `first_dangling`: the position of a chunk with an edge that dangles is the place of its record. Assumes nothing.
use mathlib.Core.Path.{◌∙◌}
use borrow.Author.Rules.{rules}
use borrow.Author.Tests.{tests}
use Rattle.std.proofs.lemmas.Iterator.{YieldsList-from_slice}
use Rattle.std.proofs.lemmas.Iterator.Search.{position_from_yields_List}
use Rattle.meaning.specs.Records.{records_of}
use Rattle.meaning.specs.Checks.{dangling}
use Rattle.table.specs.Packed.{table_in, of_bytes}
use Rattle.table.proofs.Chains.{record-found}
use Rattle.table.proofs.checks.first_dangling.Goals as goal

pub returns : goal.returns
returns c =
    let chunks = c.records.result.now in
    let test = dangling (table_in c.args.table) in
    position_from_yields_List (λ bytes. test (of_bytes bytes)) _ _ _ c.position.ensures.ran (YieldsList-from_slice chunks cc)
    (λ x b q k. search (rules, tests))
    ∙ record-found test chunks (records_of c.args.bytes.now) c.records.ensures
