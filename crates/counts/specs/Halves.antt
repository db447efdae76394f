-- How halves of a round stand in code, a byte of targets for each state, and what they and two positions are worked into.
use Rattle.std.specs.Prelude.{cond, List, ℕ, ◌-◌, max, min, length, get_or}
use Rattle.meaning.specs.Lists.{tab, smallest}
use Rattle.meaning.specs.Table as T
use Rattle.meaning.specs.Table.{bit}
use Rattle.meaning.specs.Counting.{Position, count, plus}
use Rattle.counts.specs.declared.position.Half.{Half}

-- the lesser counts of two positions
unfoldable pub lesser_counts : Position → Position → Position
lesser_counts F G = tab (length F) (λ q. min (count F q) (count G q))

-- and the greater
unfoldable pub greater_counts : Position → Position → Position
greater_counts F G = tab (length F) (λ q. max (count F q) (count G q))

-- the step back where safety allows each source its count in `most`, and no more
unfoldable pub back_under : Position → T.Half → Position → Position
back_under most h F =
    tab (length most) (λ p. smallest (count most p) h.targets (λ q. cond (h.edge p q) (count F q - h.mark q) (count most p)))

-- the half of a round that masks and marks state
unfoldable pub half_of : Half → T.Half
half_of h =
    record {
      sources = h.sources;
      targets = h.targets;
      edge = λ p q. bit (get_or h.masks p 0) q;
      mark = λ q. get_or h.marks q 0;
    }

-- what state p brings to state q going forward
abbrev pub brought : ℕ → Half → Position → ℕ → ℕ → ℕ
brought K h F q p = cond (bit (get_or h.masks p 0) q) (plus K (get_or h.marks q 0) (count F p)) 0

-- the start position that a mask of start states gives a side of n states with these marks
unfoldable pub start_counts : ℕ → ℕ → ℕ → List ℕ → Position
start_counts K n starts marks = tab n (λ q. cond (bit starts q) (plus K (get_or marks q 0) 1) 0)
