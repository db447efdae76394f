-- `first_outside`: the position of a chunk with a byte outside is the place of its record. Assumes nothing.
use mathlib.Core.Path.{◌∙◌}
use borrow.Author.Rules.{rules}
use borrow.Author.Tests.{tests}
use Rattle.std.proofs.lemmas.Iterator.{YieldsList-from_slice}
use Rattle.std.proofs.lemmas.Iterator.Search.{position_from_yields_List}
use Rattle.meaning.specs.Records.{records_of, outside}
use Rattle.table.specs.Packed.{of_bytes}
use Rattle.table.proofs.Chains.{record-found}
use Rattle.table.proofs.checks.first_outside.Goals as goal

pub returns : goal.returns
returns c =
    let chunks = c.records.result.now in
    position_from_yields_List (λ bytes. outside (of_bytes bytes)) _ _ _ c.position.ensures.ran (YieldsList-from_slice chunks cc)
    (λ x b q k. search (rules, tests))
    ∙ record-found outside chunks (records_of c.args.bytes.now) c.records.ensures
