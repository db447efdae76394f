-- How a row stands in code, and arrays with an entry for each state number.
use Rattle.std.specs.Prelude.{◌≡◌, Bool, true, false, List, ℕ, ◌<◌, get_or, eqb}
use Rattle.meaning.specs.Lists.{place}
use Rattle.meaning.specs.Written as W
use Rattle.meaning.specs.Play.{rows_in}
use Rattle.meaning.specs.Controller.{has_rows, well_formed}
use Rattle.rows.specs.declared.Row.{Row}

-- the row that a row in code states, and the one that four bytes do
abbrev pub row_of : Row → W.Row
row_of r = record { state = r.state; output = r.output; input = r.input; next = r.next }

abbrev pub four : List ℕ → W.Row
four bytes = record { state = get_or bytes 0 0; output = get_or bytes 1 0; input = get_or bytes 2 0; next = get_or bytes 3 0 }

-- for each state whether it has rows
abbrev pub Marked : List W.Row → List Bool → Type 0
Marked rows named = (s : ℕ) → s < 256 → get_or named s false ≡ has_rows rows s

-- for each state that has rows, the place of its first
abbrev pub Placed : List W.Row → List ℕ → Type 0
Placed rows places = (s : ℕ) → s < 256 → has_rows rows s ≡ true → get_or places s 0 ≡ place (λ (r : W.Row). eqb r.state s) rows

-- rows that can be followed: they are well formed, and the places are theirs
pub record Ready (bytes places : List ℕ) : Type 0 where
  pub formed : well_formed bytes ≡ true
  pub placed : Placed (rows_in bytes) places
