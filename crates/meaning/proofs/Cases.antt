-- C1 to C12 of document 01, C6 as R-2 of document 02 amends it, and beside it the same table at K 1: one list under a single statement,
-- that each call's outcome, computed by the definitions, is what the papers give. "K is 0 and N is 2 where not given, and every lent buffer
-- has room": both buffers have room for N 2 and hold 9s before. Shown by computation.
use mathlib.Core.Path.{◌≡◌, refl}
use mathlib.Core.List.{List, [], ◌∷◌, ◌++◌, map, flat_map}
use Prim.Native.Nat.{ℕ}
use lib.ListN.{take, replicate}
use Rattle.meaning.specs.declared.Verdict.{Verdict}
use Rattle.meaning.specs.declared.Verdict.TheVariants.{Realizable, Unrealizable, Refused}
use Rattle.meaning.specs.declared.Refusal.TheVariants.{Bound, Room, Length, Order, Gap, Full, Letters}
use Rattle.meaning.specs.Lists.{written}
use Rattle.meaning.specs.Records.{records_of, bytes_of, limits, limit, outside, ascends, same, of_kind}
use Rattle.meaning.specs.Table.{letters, mark_in, start_in, mark_of, starts_of, edge_of, table_of}
use Rattle.meaning.specs.Counting.{plus, forward, safe, below, back, start_position}
use Rattle.meaning.specs.Rounds.{all_safe, set_a, set_b, set_w, positions, maximal, maximal_members, equal, rounds, winning}
use Rattle.meaning.specs.Rounds.{width_of_round, full}
use Rattle.meaning.specs.Written.{winners, position_bytes, winners_bytes, covering, after_round, output_of, start_state, state_order}
use Rattle.meaning.specs.Written.{row_bytes}
use Rattle.meaning.specs.Written.{leads_back, rows_of_state, rows_from, controller_rows}
use Rattle.meaning.specs.Join.{by_kind, upward, renumber, joined, pairs}
use Rattle.meaning.specs.Answers.{refused, Solved, unsolved, solved_from, solve, join, parts, answered}
use Rattle.meaning.specs.Checks.{bound, room, room_to_join, wrong_size, descent, misnumbered, no_start, dangling, total, gap}
use Rattle.meaning.specs.Checks.{table_checks, stage_checks, solve_checks, other_letters, too_large, pair_checks, join_checks, parts_checks}
use Rattle.meaning.specs.Checks.{parts_stages}

-- four digits, a byte each
abbrev pub record4 : ℕ → ℕ → ℕ → ℕ → List ℕ
record4 a b c d = a ∷ b ∷ c ∷ d ∷ []

-- OWED: 1020 1100 2000 2110 3000 3010 3101 3110 4000 4010 4011 4101 4111
abbrev pub owed_but_two : List ℕ
owed_but_two =
    record4 1 0 2 0 ++ record4 1 1 0 0 ++ record4 2 0 0 0 ++ record4 2 1 1 0 ++ record4 3 0 0 0 ++ record4 3 0 1 0
    ++ record4 3 1 0 1 ++ record4 3 1 1 0 ++ record4 4 0 0 0 ++ record4 4 0 1 0 ++ record4 4 0 1 1

abbrev pub owed : List ℕ
owed = owed_but_two ++ record4 4 1 0 1 ++ record4 4 1 1 1

-- SILENT: 1020 1100 2000 2110 3000 3011 3101 3111 4000 4010 4101 4111
abbrev pub silent : List ℕ
silent =
    record4 1 0 2 0 ++ record4 1 1 0 0 ++ record4 2 0 0 0 ++ record4 2 1 1 0 ++ record4 3 0 0 0 ++ record4 3 0 1 1
    ++ record4 3 1 0 1 ++ record4 3 1 1 1 ++ record4 4 0 0 0 ++ record4 4 0 1 0 ++ record4 4 1 0 1 ++ record4 4 1 1 1

-- FIRST: 1030 1100 2000 3000 3100 4001
abbrev pub first_table : List ℕ
first_table = record4 1 0 3 0 ++ record4 1 1 0 0 ++ record4 2 0 0 0 ++ record4 3 0 0 0 ++ record4 3 1 0 0 ++ record4 4 0 0 1

-- the lent buffers before a call
abbrev pub winners_before : List ℕ
winners_before = replicate 16 9

abbrev pub controller_before : List ℕ
controller_before = replicate 64 9

-- a call: solving a table, solving what joining two gives, or solving two by parts; then K and N
pub data Call : Type 0 where
  solving : List ℕ → ℕ → ℕ → Call
  solving_joined : List ℕ → List ℕ → ℕ → ℕ → Call
  by_parts : List ℕ → List ℕ → ℕ → ℕ → Call

unfoldable pub outcome : Call → Solved
outcome (solving bytes K N) = solve bytes K N winners_before controller_before
outcome (solving_joined one two K N) =
    let made = join one two (replicate 4160 0) in
    solve (take made.answer.place made.out_after) K N winners_before controller_before
outcome (by_parts one two K N) = parts one two K N winners_before controller_before

-- an outcome that writes these winners and rows
abbrev pub told : Verdict → ℕ → ℕ → List ℕ → List ℕ → Solved
told verdict rounds number win rows =
    record {
      answer = record { verdict = verdict; place = 0; which = 0; rounds = rounds; winners = number };
      winners_after = written win winners_before;
      controller_after = written rows controller_before;
    }

-- a refusal at a place: nothing is written
abbrev pub denied : Verdict → ℕ → Solved
denied verdict place =
    record {
      answer = record { verdict = verdict; place = place; which = 0; rounds = 0; winners = 0 };
      winners_after = winners_before;
      controller_after = controller_before;
    }

abbrev pub calls : List Call
calls =
    solving owed 0 1
    ∷ solving silent 0 1
    ∷ solving_joined owed silent 0 2
    ∷ solving_joined owed silent 0 1
    ∷ by_parts owed silent 0 2
    ∷ solving first_table 0 1
    ∷ solving first_table 1 1
    ∷ solving owed 8 1
    ∷ solving owed 7 0
    ∷ solving [] 0 1
    ∷ solving (owed_but_two ++ record4 4 1 1 1 ++ record4 4 1 0 1) 0 2
    ∷ solving (owed_but_two ++ record4 4 1 0 1) 0 2
    ∷ by_parts owed first_table 0 2
    ∷ []

-- the winners of C3 and C5: 00 00 01 then five 00, and 01 01 then six 00
abbrev pub winners_of_both : List ℕ
winners_of_both = 0 ∷ 0 ∷ 1 ∷ replicate 5 0 ++ (1 ∷ 1 ∷ replicate 6 0)

abbrev pub expected : List Solved
expected =
    told (Realizable 0) 0 1 (1 ∷ 1 ∷ replicate 6 0) (record4 0 1 0 0 ++ record4 0 1 1 0)
    ∷ told (Realizable 0) 1 1 (1 ∷ replicate 7 0) (record4 0 0 0 0 ++ record4 0 0 1 0)
    ∷ told Unrealizable 2 2 winners_of_both []
    ∷ denied (Refused Full) 0
    ∷ told Unrealizable 2 2 winners_of_both []
    ∷ told Unrealizable 0 1 (1 ∷ 1 ∷ replicate 6 0) []
    ∷ told (Realizable 0) 0 1 (2 ∷ 2 ∷ replicate 6 0) (record4 0 0 0 0)
    ∷ denied (Refused Bound) 0
    ∷ denied (Refused Room) 0
    ∷ denied (Refused Length) 0
    ∷ denied (Refused Order) 12
    ∷ denied (Refused Gap) 0
    ∷ denied (Refused Letters) 0
    ∷ []

pub C1_to_C12 : map outcome calls ≡ expected
unfolding flat_map records_of bytes_of limits limit outside ascends same of_kind letters mark_in start_in mark_of starts_of edge_of table_of
    plus forward safe below back start_position all_safe set_a set_b set_w positions equal rounds winning maximal maximal_members
    width_of_round full winners position_bytes winners_bytes covering after_round leads_back output_of start_state state_order row_bytes
    rows_of_state rows_from controller_rows by_kind upward renumber joined pairs refused bound room room_to_join wrong_size descent
    misnumbered no_start dangling total gap table_checks stage_checks unsolved answered solved_from solve_checks solve other_letters
    too_large pair_checks join_checks join parts_stages parts_checks parts outcome
C1_to_C12 = refl
