-- The words of a table's halves of a round.
use Rattle.std.specs.Prelude.{ℕ}
use Rattle.meaning.specs.Table.{Table, on_output, on_input}
use Rattle.counts.specs.Words.{StatedIn}
use Rattle.checker.specs.declared.lead.Turn.{Turn}

-- words that state both, for every letter
pub record Steps (t : Table) (outputs inputs : Turn) : Type 0 where
  pub on-outputs : (o : ℕ) → StatedIn outputs.spreads o outputs.marks (on_output t o)
  pub on-inputs : (i : ℕ) → StatedIn inputs.spreads i inputs.marks (on_input t i)
