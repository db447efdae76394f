-- `after_round`: each half of the round stands for the definition's. Assumes nothing.
use mathlib.Core.Path.{ap, ◌∙◌}
use Rattle.meaning.specs.Table.{Half}
use Rattle.meaning.specs.Counting.{forward}
use Rattle.meaning.specs.Written.{position_bytes}
use Rattle.counts.specs.Words.{counts_in}
use Rattle.table.specs.Packed.{table_in}
use Rattle.steps.proofs.Stepped.{round_stepped}
use Rattle.steps.proofs.after_round.Goals as goal

pub returns : goal.returns
returns c =
    let given = c.args in
    let F = counts_in given.p in
    let middle = counts_in c.forward-middle.result in
    round_stepped given.k (table_in given.table) c.requires given.output given.input F middle (counts_in c.forward.result)
    (c.forward-middle.ensures ∙ ap (λ (h : Half). position_bytes (forward given.k h F)) c.on_output.ensures)
    (c.forward.ensures ∙ ap (λ (h : Half). position_bytes (forward given.k h middle)) c.on_input.ensures)
