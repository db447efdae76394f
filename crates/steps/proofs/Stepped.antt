-- The position after a round as the code steps it, in eight counts, half a round at a time: it stands for the definition's, since a step
-- reads counts alone. Assumes nothing.
use mathlib.Core.Path.{◌≡◌, ap, ◌∙◌}
use Prim.Native.Nat.{ℕ}
use Rattle.meaning.specs.Table.{Table, on_output, on_input}
use Rattle.meaning.specs.Counting.{Position, forward}
use Rattle.meaning.specs.Written.{position_bytes, after_round}
use Rattle.meaning.proofs.Steps.{forward-length}
use Rattle.counts.proofs.Wide.{forward_wide}
use Rattle.steps.specs.Bounded.{Bounded}

module _ (K : ℕ) (t : Table) (bounded : Bounded K t) (o i : ℕ) (F : Position) where
  -- half a round at a time
  pub round_stepped : (middle after : Position) → middle ≡ position_bytes (forward K (on_output t o) F)
      → after ≡ position_bytes (forward K (on_input t i) middle)
      → after ≡ position_bytes (after_round K t o i F)
  unfolding after_round
  round_stepped middle after half whole =
      whole
      ∙ ap (λ (G : Position). position_bytes (forward K (on_input t i) G)) half
      ∙ ap position_bytes (forward_wide K (on_input t i) (forward K (on_output t o) F)
      (rw (forward-length K (on_output t o) F) bounded.small.worlds))
