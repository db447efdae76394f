-- How lists of positions stand in code, a word each; and what is done with one position more.
use Rattle.std.specs.Prelude.{cond, not, List, [], ◌∷◌, ◌++◌, map, ℕ, take, drop}
use Rattle.meaning.specs.Lists.{before, place, keep}
use Rattle.meaning.specs.Counting.{Position, below, covered}
use Rattle.counts.specs.Words.{counts_in}

-- the positions that words hold
unfoldable pub positions : List ℕ → List Position
positions = map counts_in

-- the place of a position in an ascending list: before the first that does not come before it
abbrev pub place_in : List Position → Position → ℕ
place_in l F = place (λ (G : Position). not (before G F)) l

-- a position put there
unfoldable pub inserted : Position → List Position → List Position
inserted F l = let i = place_in l F in take i l ++ F ∷ drop i l

-- a position added to a list, if none of it is above, in place of those below
unfoldable pub thin_one : Position → List Position → List Position
thin_one F l = cond (covered l F) l (keep (λ (G : Position). not (below G F)) l ++ F ∷ [])
