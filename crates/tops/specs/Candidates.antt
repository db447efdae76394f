-- How the engine finds the maximal ones of the pairs of two lists, and of two lists together: it goes over candidates, and climbs from each
-- that it has not covered yet.
use Rattle.std.specs.Prelude.{Bool, cond, not, List, [], ◌∷◌, ◌++◌, map, reverse}
use Rattle.meaning.specs.Lists.{keep}
use Rattle.meaning.specs.Counting.{Position, below, covered}
use Rattle.counts.specs.Halves.{lesser_counts}
use Rattle.tops.specs.Tops.{meets, thinned}

-- the position reached by one run over a list that takes each one above
unfoldable pub climbed : List Position → Position → Position
climbed [] F = F
climbed (G ∷ rest) F = climbed rest (cond (below F G) G F)

-- a position that a kept one covers is passed over; from any other the maximal one that it climbs to is added to those kept
unfoldable pub keep_one : List Position → List Position → Position → List Position
keep_one Fs l F = cond (covered l F) l (l ++ climbed Fs F ∷ [])

-- those kept after a run over some candidates
unfoldable pub collected : List Position → List Position → List Position → List Position
collected Fs l [] = l
collected Fs l (F ∷ rest) = collected Fs (keep_one Fs l F) rest

-- a list does not cover a position
abbrev pub uncovered : List Position → Position → Bool
uncovered l F = not (covered l F)

-- those kept after a run over the pairs of two lists: of each of the first with all of the second
unfoldable pub rows_of : List Position → List Position → List Position → List Position
rows_of [] ys l = l
rows_of (x ∷ xs) ys l = rows_of xs ys (collected (meets xs ys) l (thinned (reverse (map (lesser_counts x) ys))))

-- the maximal ones of the lesser counts of all pairs: those that the other list covers, and what the rest come to
unfoldable pub paired : List Position → List Position → List Position
paired X Y = rows_of (keep (uncovered Y) X) (keep (uncovered X) Y) (collected [] (keep (covered Y) X) (keep (covered X) Y))

-- the maximal ones of two lists together: those of the first that the second does not cover, and what the second adds
unfoldable pub united : List Position → List Position → List Position
united B E = collected [] (keep (uncovered E) B) E
