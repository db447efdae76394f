-- Sets of positions by their maximal members: what the engine's lists are.
use Rattle.std.specs.Prelude.{Bool, not, ◌||◌}
use mathlib.Core.List.{List, [], map, flat_map, foldr}
use Rattle.meaning.specs.Lists.{keep, every}
use Rattle.meaning.specs.Counting.{Position, below}
use Rattle.counts.specs.Halves.{lesser_counts}
use Rattle.lists.specs.Members.{thin_one}
use Rattle.lists.specs.Sorted.{put}

-- no other position of the list is above it
unfoldable pub top : List Position → Position → Bool
top Fs F = every (λ (G : Position). not (below F G) || below G F) Fs

-- the maximal ones of a list of positions, ascending
unfoldable pub tops : List Position → List Position
tops Fs = foldr put [] (keep (top Fs) Fs)

-- the lesser counts of each pair of two lists
unfoldable pub meets : List Position → List Position → List Position
meets Fs Gs = flat_map (λ (F : Position). map (lesser_counts F) Gs) Fs

-- the positions of a list that no other is above, in the order in which they were met from its end on
unfoldable pub thinned : List Position → List Position
thinned = foldr thin_one []
