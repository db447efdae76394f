-- The rounds as the engine keeps them: lists of positions in eight counts, cut and widened letter by letter.
use Rattle.std.specs.Prelude.{◌≡◌, List, [], ◌∷◌, ◌++◌, map, ℕ, zero, suc, ◌+◌}
use Rattle.meaning.specs.Lists.{tab}
use Rattle.meaning.specs.Table.{Half, Table, on_output, on_input}
use Rattle.meaning.specs.Counting.{Position, back}
use Rattle.meaning.specs.Rounds.{Set, maximal_members}
use Rattle.meaning.specs.Written.{position_bytes}
use Rattle.tops.specs.Tops.{tops, meets}

-- a list stands for a set of positions of n states: it has the maximal members, in eight counts
abbrev pub StandsFor : ℕ → ℕ → Set → List Position → Type 0
StandsFor K n X l = l ≡ map position_bytes (maximal_members K n X)

-- the step back, in eight counts
abbrev pub back_wide : ℕ → Half → Position → Position
back_wide K h F = position_bytes (back K h F)

-- one cut of A by an input, and one widening of B by an output: from the members of the set that the letter leads into, and the list
unfoldable pub cut_by : ℕ → Half → List Position → List Position → List Position
cut_by K h into l = tops (meets l (map (back_wide K h) into))

unfoldable pub widen_by : ℕ → Half → List Position → List Position → List Position
widen_by K h into l = tops (l ++ map (back_wide K h) into)

-- the one maximal safe position: K everywhere
abbrev pub brim : ℕ → ℕ → Position
brim K n = tab n (λ _. K + 1)

-- A(r, j) from the list of W(r), and B(r, k) from that of A(r, all inputs)
unfoldable pub list_a : ℕ → Table → List Position → ℕ → List Position
list_a K t ws zero = position_bytes (brim K t.worlds) ∷ []
list_a K t ws (suc j) = cut_by K (on_input t j) ws (list_a K t ws j)

unfoldable pub list_b : ℕ → Table → List Position → ℕ → List Position
list_b K t vs zero = []
list_b K t vs (suc k) = widen_by K (on_output t k) vs (list_b K t vs k)

-- the next round's W
unfoldable pub next_list : ℕ → Table → List Position → List Position
next_list K t ws = list_b K t (list_a K t ws t.inputs) t.outputs
