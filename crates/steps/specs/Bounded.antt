-- What a step of a position in a word asks.
use Rattle.std.specs.Prelude.{ℕ, ◌≤◌}
use Rattle.meaning.specs.Table.{Table, Small}

-- K at most 7, and at most eight states a side
pub record Bounded (K : ℕ) (t : Table) : Type 0 where
  pub patience : K ≤ 7
  pub small : Small t
