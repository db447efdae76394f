-- The positions that a round leads on to, as the code steps them: half a round in eight counts, then by an input. A step reads counts
-- alone. Assumes nothing.
use mathlib.Core.Path.{◌≡◌, ap, ◌∙◌}
use mathlib.Core.List.{List}
use Prim.Native.Nat.{ℕ}
use Rattle.meaning.specs.Table.{Table, on_output, on_input}
use Rattle.meaning.specs.Counting.{Position, forward}
use Rattle.meaning.specs.Written.{position_bytes, after_round, Row}
use Rattle.meaning.specs.Play.{row_output}
use Rattle.meaning.proofs.Steps.{forward-length}
use Rattle.counts.specs.Words.{counts_in}
use Rattle.counts.proofs.Wide.{forward_wide}
use Rattle.steps.specs.Bounded.{Bounded}
use Rattle.checker.specs.LedByRound.{led_to}

pub led_to_lem : (K : ℕ) (t : Table) → Bounded K t → (rows : List Row) (s : ℕ) (F : Position) (middle : ℕ)
    → counts_in middle ≡ position_bytes (forward K (on_output t (row_output rows s)) F)
    → (i : ℕ) → forward K (on_input t i) (counts_in middle) ≡ led_to K t rows s F i
unfolding after_round
led_to_lem K t bounded rows s F middle e i =
    let G = forward K (on_output t (row_output rows s)) F in
    ap (forward K (on_input t i)) e
    ∙ forward_wide K (on_input t i) G (rw (forward-length K (on_output t (row_output rows s)) F) bounded.small.worlds)
