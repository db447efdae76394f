-- Document 01, "By parts": what its first list of pairs is, and what its stages come to.
use Rattle.std.specs.Prelude.{◌≡◌, List, map, ℕ}
use Rattle.meaning.specs.Table.{stated}
use Rattle.meaning.specs.Counting.{Position}
use Rattle.meaning.specs.Rounds.{maximal_members}
use Rattle.meaning.specs.Written.{position_bytes}
use Rattle.meaning.specs.Join.{joined_table, pairs}
use Rattle.meaning.specs.Checks.{judge, parts_stages}
use Rattle.meaning.specs.Answers.{Solved, unsolved, solved_from, staged}

-- the list has, in eight counts, the maximal ones of "the pairs whose halves win alone"
abbrev pub FirstPairs : List ℕ → List ℕ → ℕ → List Position → Type 0
FirstPairs one two K l =
    l ≡ map position_bytes (maximal_members K (joined_table one two).controllers (pairs K (stated one) (stated two)))

-- "run the rounds on the joined table with W(0) replaced by the pairs": the last stage
abbrev pub last_stage : List ℕ → List ℕ → ℕ → ℕ → List ℕ → List ℕ → Solved
last_stage one two K N win con = staged K N (joined_table one two) (pairs K (stated one) (stated two)) win con

-- what is left after 2 to 14: the stages in turn
unfoldable pub in_turn : List ℕ → List ℕ → ℕ → ℕ → List ℕ → List ℕ → Solved
in_turn one two K N win con =
    judge (parts_stages one two K N) (unsolved win con) (solved_from K (joined_table one two) (pairs K (stated one) (stated two)) win con)
