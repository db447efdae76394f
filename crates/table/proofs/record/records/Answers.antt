-- `records`: the chunks of four bytes are the records that they state, one by one. Assumes nothing.
use mathlib.Core.Path.{refl, ap, ◌∙◌}
use mathlib.Core.List.{List, map}
use Prim.Native.Nat.{ℕ}
use Rattle.table.specs.Packed.{of_bytes}
use Rattle.table.proofs.Records.{chunked}
use Rattle.table.proofs.record.records.Goals as goal

pub returns : goal.returns
returns c = ap (λ (l : List (List ℕ)). map of_bytes l) c.as_chunks.ensures.front ∙ chunked _ c.args.bytes.now refl
