-- Document 01, "Counting". A count is written one higher than the paper's, as in the winners' bytes: 0 where no run is, c + 1 for
-- count c. So a count runs from 0 to K + 2. A position is the list of its side's counts.
use Rattle.std.specs.Prelude.{Bool, cond, List, ℕ, zero, suc, ◌+◌, ◌-◌, min, length, get_or, replicate, ℤ, pos, negsuc, leb}
use Rattle.meaning.specs.Lists.{each, largest, smallest, tab, any}
use Rattle.meaning.specs.Table.{Half, Table}

-- a signed count, written one higher
abbrev pub one_higher : ℤ → ℕ
one_higher (pos c) = suc c
one_higher (negsuc c) = 0

abbrev pub Position : Type 0
Position = List ℕ

-- the position with -1 everywhere
abbrev pub nowhere : ℕ → Position
nowhere n = replicate n 0

-- the count of state q
abbrev pub count : Position → ℕ → ℕ
count F q = get_or F q 0

-- "min(K + 1, count of p + mark of q)" for "a count other than -1": the count that a run brings to a state of that mark
unfoldable pub plus : ℕ → ℕ → ℕ → ℕ
plus K mark zero = zero
plus K mark (suc c) = min (K + 2) (suc c + mark)

-- "Step forward by a letter: the count of q is the largest of min(K + 1, count of p + mark of q) over all p with an edge to q on
-- that letter and a count other than -1; -1 if there is none." "It belongs to the state entered."
unfoldable pub forward : ℕ → Half → Position → Position
forward K h F =
    tab h.targets (λ q. largest h.sources (λ p. cond (h.edge p q) (plus K (h.mark q) (count F p)) 0))

-- "A position is safe if no count exceeds K."
unfoldable pub safe : ℕ → Position → Bool
safe K F = each (length F) (λ q. leb (count F q) (K + 1))

-- "One position is below another if each of its counts is at most the other's."
unfoldable pub below : Position → Position → Bool
below F G = each (length F) (λ q. leb (count F q) (count G q))

-- a list covers a position: some one of its positions is above it
abbrev pub covered : List Position → Position → Bool
covered l F = any (below F) l

-- "Step back: .. gives p the smallest of max(-1, count of q - mark of q) over the targets q of p on that letter" (a p with no
-- target there is held by nothing but safety)
unfoldable pub back : ℕ → Half → Position → Position
back K h F =
    tab h.sources (λ p. smallest (K + 1) h.targets (λ q. cond (h.edge p q) (count F q - h.mark q) (K + 1)))

-- Document 02, R-2: "The start position gives 1 to a marked start state and 0 to the others", the other start states: count 0 plus the
-- state's mark, at most K + 1. States that aren't start states have -1.
unfoldable pub start_position : ℕ → Table → Position
start_position K t = tab t.controllers (λ q. cond (t.starts q) (plus K (t.controller_mark q) 1) 0)
