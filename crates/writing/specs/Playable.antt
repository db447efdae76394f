-- What is written from a list of winners: the order of the states, and what the rows ask of the list.
use Rattle.std.specs.Prelude.{cond, List, [], ℕ, ◌-◌, ◌≤◌, ◌<◌, length, get_or, eqb, leb, ltb, Option, Some, None}
use Rattle.meaning.specs.Table.{Table}
use Rattle.meaning.specs.Counting.{Position, covered}
use Rattle.meaning.specs.Written.{output_of}
use Rattle.steps.specs.Bounded.{Bounded}

-- "The start state's rows come first, then the others by state": the state whose rows are number b
unfoldable pub state_at : ℕ → ℕ → ℕ
state_at start b = cond (eqb b 0) start (cond (leb b start) (b - 1) b)

-- a place among n, or none if it is not below n
abbrev pub within : ℕ → ℕ → Option ℕ
within n i = cond (ltb i n) (Some i) None

-- what the rows ask: their numbers fit a byte, and each winner has an output that leads back
pub record Playable (K : ℕ) (t : Table) (ws : List Position) : Type 0 where
  pub bounded : Bounded K t
  pub outputs : t.outputs ≤ 8
  pub inputs : t.inputs ≤ 8
  pub winners : length ws ≤ 256
  pub leads : (s : ℕ) → s < length ws → output_of K t (covered ws) (get_or ws s []) < t.outputs
