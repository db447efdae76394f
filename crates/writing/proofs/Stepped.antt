-- A position in eight counts and the position that it stands for: a list covers the one exactly where it covers the other, and by the same
-- member. Assumes nothing.
use mathlib.Core.Path.{◌≡◌, refl, ap, ◌∙◌, fun_ext}
use mathlib.Core.Bool.{Bool}
use mathlib.Core.List.{List}
use Prim.Native.Nat.{ℕ, ◌≤◌}
use lib.ListN.{length}
use Rattle.meaning.specs.Lists.{any, place}
use Rattle.meaning.specs.Table.{Table, on_output, on_input}
use Rattle.meaning.specs.Counting.{Position, forward, below, covered}
use Rattle.meaning.specs.Written.{position_bytes, covering, after_round}
use Rattle.meaning.proofs.Steps.{forward-length}
use Rattle.counts.proofs.Wide.{wide_count, below-counts}
use Rattle.steps.specs.Bounded.{Bounded}

-- a position in eight counts is below what the position is below
pub below-same : (F : Position) → length F ≤ 8 → below (position_bytes F) ≡ below F
below-same F few = fun_ext (λ G. below-counts (position_bytes F) F G G (wide_count F few) (λ q. refl))

module _ (K : ℕ) (t : Table) (bounded : Bounded K t) (o i : ℕ) (F : Position) where
  module _ (ws : List Position) (after : Position) (stands : after ≡ position_bytes (after_round K t o i F)) where
    below_stepped : below after ≡ below (after_round K t o i F)
    unfolding after_round
    below_stepped =
        ap below stands ∙ below-same (after_round K t o i F)
        (rw (forward-length K (on_input t i) (forward K (on_output t o) F)) bounded.small.controllers)

    pub covered_stepped : covered ws after ≡ covered ws (after_round K t o i F)
    covered_stepped = ap (λ (f : Position → Bool). any f ws) below_stepped

    pub covering_stepped : covering ws after ≡ covering ws (after_round K t o i F)
    unfolding covering
    covering_stepped = ap (λ (f : Position → Bool). place f ws) below_stepped
