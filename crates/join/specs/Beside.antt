-- Positions of two tables side by side, in eight counts.
use Rattle.std.specs.Prelude.{cond, ℕ, ◌-◌, ltb}
use mathlib.Core.List.{List, map, flat_map}
use Rattle.meaning.specs.Lists.{tab}
use Rattle.meaning.specs.Counting.{Position, count}

-- a position of n states, and from there on another
unfoldable pub beside_at : ℕ → Position → Position → Position
beside_at n F G = tab 8 (λ q. cond (ltb q n) (count F q) (count G (q - n)))

-- each position of the first list beside each of the second
unfoldable pub all_beside : ℕ → List Position → List Position → List Position
all_beside n Fs Gs = flat_map (λ (F : Position). map (beside_at n F) Gs) Fs
