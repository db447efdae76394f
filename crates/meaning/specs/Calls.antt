-- What a caller learns from a call, refused or not: what it lent, the answer, what its buffers hold afterwards, and that these are what the
-- definition of the call gives. The demands of document 00 are stated over these records, in the words below.
use Rattle.std.specs.Prelude.{◌≡◌, true, false, List, ℕ, ◌+◌, ◌*◌, ◌≤◌, ◌<◌, take, drop}
use Rattle.meaning.specs.declared.Answer.{Answer}
use Rattle.meaning.specs.declared.Refusal.{Refusal}
use Rattle.meaning.specs.Records.{Record}
use Rattle.meaning.specs.Table.{Table, stated}
use Rattle.meaning.specs.Counting.{Position, below}
use Rattle.meaning.specs.Join.{across, across_record}
use Rattle.meaning.specs.Checks.{Passes, room, room_to_join, pair_checks}
use Rattle.meaning.specs.Answers.{number_of, code_of, start_of, Solved, solve, parts, Joined, join}
use Rattle.meaning.specs.Play.{Strategy, rows_in, follow}

-- a call whose outcome depends on what it is lent
pub record Call {Lent Left : Type 0} (outcome : Lent → Left) : Type 0 where
  pub lent : Lent
  pub left : Left
  pub promise : left ≡ outcome lent

-- the buffers that a call which solves is lent, as they were
pub record Lent : Type 0 where
  pub winners_before : List ℕ
  pub controller_before : List ℕ

-- a call of `solve`, of `parts`, and of `join`, which is lent the output buffer
abbrev pub SolveCall : List ℕ → ℕ → ℕ → Type 0
SolveCall bytes K N = Call (λ (b : Lent). solve bytes K N b.winners_before b.controller_before)

abbrev pub PartsCall : List ℕ → List ℕ → ℕ → ℕ → Type 0
PartsCall one two K N = Call (λ (b : Lent). parts one two K N b.winners_before b.controller_before)

abbrev pub JoinCall : List ℕ → List ℕ → Type 0
JoinCall one two = Call (join one two)

-- an answer's code
abbrev pub code : Answer → ℕ
code answer = code_of answer.verdict

-- "Unless refused": its code is no reason's number
abbrev pub Unrefused : Answer → Type 0
Unrefused answer = (r : Refusal) → code answer ≡ number_of r → ⊥

-- "8 bytes a position, byte q holding count + 1": winner number i of a table with n controller-turn states
abbrev pub winner_in : ℕ → List ℕ → ℕ → Position
winner_in n bytes i = take n (drop (i * 8) bytes)

-- "room that reason 3 accepts", and for a join
abbrev pub Accepted : ℕ → Lent → Type 0
Accepted N b = (room N b.winners_before b.controller_before).failed ≡ false

abbrev pub AcceptedJoin : List ℕ → Type 0
AcceptedJoin out = (room_to_join out).failed ≡ false

-- "The winning list": the bytes that were written there
abbrev pub winning_list : Solved → List ℕ
winning_list s = take (8 * s.answer.winners) s.winners_after

-- it covers a position: the position is below one of it
abbrev pub Covers : Table → Solved → Position → Type 0
Covers t s F = (i : ℕ) × (i < s.answer.winners) × (below F (winner_in t.controllers s.winners_after i) ≡ true)

-- "The controller written": the bytes of its rows, four for each winner and input; followed from the answer's start they are a strategy
abbrev pub controller_written : Table → Solved → List ℕ
controller_written t s = take (s.answer.winners * t.inputs * 4) s.controller_after

abbrev pub controller_of : Table → Solved → Strategy
controller_of t s = follow (rows_in (controller_written t s)) (start_of s.answer.verdict)

-- "the same verdict, winning list and controller", where two calls solve a table t
pub record SameResult (t : Table) (s o : Solved) : Type 0 where
  pub same_verdict : s.answer.verdict ≡ o.answer.verdict
  pub same_number : s.answer.winners ≡ o.answer.winners
  pub same-winners : winning_list s ≡ winning_list o
  pub same-controller : code s.answer ≡ 0 → controller_written t s ≡ controller_written t o

-- the same code, rounds and number of winners, where the states of two tables are numbered otherwise
pub record SameNumbers (s o : Solved) : Type 0 where
  pub same_code : code s.answer ≡ code o.answer
  pub same-rounds : s.answer.rounds ≡ o.answer.rounds
  pub same_number : s.answer.winners ≡ o.answer.winners

-- the bytes that a join wrote
abbrev pub wrote : Joined → List ℕ
wrote j = take j.answer.place j.out_after

-- "Take good tables with the same letters .. and a joined size within limits": two tables that pass 4 to 10, 13 and 14, and for three that
-- size too
abbrev pub Two : List ℕ → List ℕ → Type 0
Two one two = Passes (pair_checks one two)

pub record Three (a b c : List ℕ) : Type 0 where
  pub first_two : Two a b
  pub last-two : Two b c
  pub controllers : (stated a).controllers + (stated b).controllers + (stated c).controllers ≤ 8
  pub worlds : (stated a).worlds + (stated b).worlds + (stated c).worlds ≤ 8

-- "swapped with only the states renumbered": a controller, a world, a record of the joined table as the swapped one has it
abbrev pub controller_across : List ℕ → List ℕ → ℕ → ℕ
controller_across one two = across (stated one).controllers (stated two).controllers

abbrev pub world_across : List ℕ → List ℕ → ℕ → ℕ
world_across one two = across (stated one).worlds (stated two).worlds

abbrev pub record_across : List ℕ → List ℕ → Record → Record
record_across one two = across_record (stated one).controllers (stated one).worlds (stated two).controllers (stated two).worlds
