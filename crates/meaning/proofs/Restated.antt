-- What definitions say, said again of one count, one edge or one list. The laws name it, and it stands apart from them, so that a change of
-- a definition can be said here too and is then refused by a law.
use mathlib.Core.Bool.{Bool, cond}
use mathlib.Core.List.{List}
use Prim.Native.Nat.{ℕ, ◌+◌, ◌-◌, min}
use lib.ListN.{length}
use lib.Dec.{ltb}
use Rattle.meaning.specs.Table.{Half, Table}
use Rattle.meaning.specs.Counting.{Position, count, plus}

-- what p brings to q going forward, and what q leaves to p going back
abbrev pub brings : ℕ → Half → Position → ℕ → ℕ → ℕ
brings K h F q p = cond (h.edge p q) (plus K (h.mark q) (count F p)) 0

abbrev pub allows : ℕ → Half → Position → ℕ → ℕ → ℕ
allows K h F p q = cond (h.edge p q) (count F q - h.mark q) (K + 1)

-- what a start state counts, one higher: its mark, at most K + 1
abbrev pub first_count : ℕ → Table → ℕ → ℕ
first_count K t p = min (K + 2) (1 + t.controller_mark p)

-- whether the place s, where the start position is covered, is one of the winners'
abbrev pub start_wins : ℕ → List Position → Bool
start_wins s ws = ltb s (length ws)
