-- Document 01, "The numbered answers": each code's number, and for each call its whole outcome, the answer and every lent buffer's
-- bytes afterwards.
use Rattle.std.specs.Prelude.{true, cond, List, ℕ, length, ltb, Result, Ok, Err}
use Rattle.meaning.specs.declared.Answer.{Answer}
use Rattle.meaning.specs.declared.Verdict.{Verdict}
use Rattle.meaning.specs.declared.Verdict.TheVariants.{Realizable, Unrealizable, Refused}
use Rattle.meaning.specs.declared.Refusal.{Refusal}
use Rattle.meaning.specs.declared.Fault.{Fault}
use Rattle.meaning.specs.declared.Refusal.TheVariants.{Bound, Room, Length, Record as Recorded, Order, States, Start, Edge, Gap}
use Rattle.meaning.specs.declared.Refusal.TheVariants.{Full, Nothing, Letters, Size, Rows}
use Rattle.meaning.specs.Lists.{written}
use Rattle.meaning.specs.Table.{Table, stated}
use Rattle.meaning.specs.Counting.{Position}
use Rattle.meaning.specs.Rounds.{Set, all_safe, rounds, winning}
use Rattle.meaning.specs.Written.{winners, winners_bytes, start_state, row_bytes, rows_from}
use Rattle.meaning.specs.Join.{joined_table, joined_bytes, pairs}
use Rattle.meaning.specs.Checks.{Check, check, judge, stage_checks, solve_checks, join_checks, parts_checks}

-- the table's column "Code": 2 to 14 for the refusals, and 15 of document 02
abbrev pub number_of : Refusal → ℕ
number_of Bound = 2
number_of Room = 3
number_of Length = 4
number_of Recorded = 5
number_of Order = 6
number_of States = 7
number_of Start = 8
number_of Edge = 9
number_of Gap = 10
number_of Full = 11
number_of Nothing = 12
number_of Letters = 13
number_of Size = 14
number_of Rows = 15

-- the code: 0 for REALIZABLE, 1 for UNREALIZABLE, else the refusal's own number
abbrev pub code_of : Verdict → ℕ
code_of (Realizable s) = 0
code_of Unrealizable = 1
code_of (Refused r) = number_of r

-- "Refusals have .. start 0"; "UNREALIZABLE .. start 0"
abbrev pub start_of : Verdict → ℕ
start_of (Realizable s) = s
start_of Unrealizable = 0
start_of (Refused r) = 0

-- "Refusals have rounds, winners and start 0"
unfoldable pub refused : Check → Answer
refused c = record { verdict = Refused c.refusal; place = c.fault_at; which = c.table; rounds = 0; winners = 0 }

-- a check that fails, as it is passed on in code
abbrev pub fault_of : Check → Fault
fault_of c = record { refusal = c.refusal; place = c.fault_at; which = c.table }

-- an answer, or the refusal's where a check fails
abbrev pub told : Result Answer Fault → Answer
told (Ok answer) = answer
told (Err fault) = refused (check fault.refusal fault.place fault.which true)

-- What solving leaves: the answer, and the bytes of the winners' and the controller's buffers afterwards
pub record Solved : Type 0 where
  pub answer : Answer
  pub winners_after : List ℕ
  pub controller_after : List ℕ

abbrev pub solved : Answer → List ℕ → List ℕ → Solved
solved answer win con = record { answer = answer; winners_after = win; controller_after = con }

-- "Refusals .. write no byte of a result buffer."
unfoldable pub unsolved : List ℕ → List ℕ → Check → Solved
unsolved win con c = solved (refused c) win con

-- 0 where "the start position wins", 1 where "it doesn't; winners written, controller buffer untouched, start 0": from a winning set, its
-- list of winners and the rounds that led to it
unfoldable pub answered : ℕ → Table → Set → List Position → ℕ → List ℕ → List ℕ → Solved
answered K t won ws rounds win con =
    let s = start_state K t ws in
    let starts = ltb s (length ws) in
    solved
    (record { verdict = cond starts (Realizable s) Unrealizable; place = 0; which = 0; rounds = rounds; winners = length ws })
    (written (winners_bytes ws) win)
    (cond starts (written (row_bytes (rows_from K t won ws s)) con) con)

-- what the rounds from the first set X come to
unfoldable pub solved_from : ℕ → Table → Set → List ℕ → List ℕ → Solved
solved_from K t X win con = answered K t (winning K t X) (winners K t X) (rounds K t X) win con

-- and a whole stage: 11 and 12 first
unfoldable pub staged : ℕ → ℕ → Table → Set → List ℕ → List ℕ → Solved
staged K N t X win con = judge (stage_checks 0 K N t X) (unsolved win con) (solved_from K t X win con)

-- solve: from all safe positions
unfoldable pub solve : List ℕ → ℕ → ℕ → List ℕ → List ℕ → Solved
solve bytes K N win con =
    let t = stated bytes in
    judge (solve_checks bytes K N win con) (unsolved win con) (solved_from K t (all_safe K t.controllers) win con)

-- by parts: "solve each table alone, then run the rounds on the joined table with W(0) replaced by the pairs whose halves win alone."
-- "The reported rounds are those of the last stage."
unfoldable pub parts : List ℕ → List ℕ → ℕ → ℕ → List ℕ → List ℕ → Solved
parts one two K N win con =
    judge (parts_checks one two K N win con) (unsolved win con)
    (solved_from K (joined_table one two) (pairs K (stated one) (stated two)) win con)

-- What joining leaves: the answer, and the bytes of the output buffer afterwards
pub record Joined : Type 0 where
  pub answer : Answer
  pub out_after : List ℕ

abbrev pub joined_as : Answer → List ℕ → Joined
joined_as answer out = record { answer = answer; out_after = out }

abbrev pub unjoined : List ℕ → Check → Joined
unjoined out c = joined_as (refused c) out

-- join: "answers 0 with the number of bytes written as its place, and its other fields are 0"
abbrev pub joined_into : List ℕ → List ℕ → Joined
joined_into new out =
    joined_as (record { verdict = Realizable 0; place = length new; which = 0; rounds = 0; winners = 0 }) (written new out)

unfoldable pub join : List ℕ → List ℕ → List ℕ → Joined
join one two out = judge (join_checks one two out) (unjoined out) (joined_into (joined_bytes one two) out)
