-- `checked_parts`: the call goes by 2, 3 and the checks of the two tables in their order, each by the law of a call that solves
-- (game/proofs/InOrder.antt), and comes to the stages in turn where all pass. Assumes nothing.
use mathlib.Core.Path.{◌≡◌, sym, ◌∙◌}
use mathlib.Core.Bool.{true, false}
use mathlib.Core.List.{List, ◌++◌}
use Prim.Native.Nat.{ℕ, ◌≤◌, ◌<◌}
use Rattle.std.specs.Prelude.{Result, Err}
use Rattle.std.specs.Result.{IsErrAnd}
use Rattle.meaning.specs.declared.Answer.{Answer}
use Rattle.meaning.specs.declared.Fault.{Fault}
use Rattle.meaning.specs.declared.Refusal.TheVariants.{Bound, Room}
use Rattle.meaning.specs.Table.{stated}
use Rattle.meaning.specs.Join.{joined_table, pairs}
use Rattle.meaning.specs.Checks.{Check, check, room, pair_checks, parts_checks, parts_stages}
use Rattle.meaning.specs.Answers.{Solved, solved, solved_from, parts, told, fault_of}
use Rattle.game.proofs.InOrder.{bound-refused, room-refused, opened-on, fault-refused, read-on}
use Rattle.joined.specs.declared.pair.Tables.{Tables}
use Rattle.joined.specs.declared.pair.Unpaired.{Unpaired}
use Rattle.joined.specs.Joined.{tables_in, pair_of, ReadBoth}
use Rattle.joined.proofs.Paired.{pair-told, read-passes}
use Rattle.join.specs.Parts.{in_turn}
use Rattle.join.proofs.checked_parts.Goals as goal

module _ (one two : List ℕ) (K N : ℕ) (win con : List ℕ) where
  -- the stages, and what comes if no check fails
  abbrev stages : List Check
  stages = parts_stages one two K N

  abbrev grant : Solved
  grant = solved_from K (joined_table one two) (pairs K (stated one) (stated two)) win con

  impatient : 7 < K → {fault : Fault} → fault ≡ fault_of (check Bound 0 0 true)
      → solved (told (Err fault)) win con ≡ parts one two K N win con
  unfolding parts parts_checks
  impatient = bound-refused K N win con (pair_checks one two ++ stages) grant

  module _ (patient : K ≤ 7) where
    cramped : (room N win con).failed ≡ true → {fault : Fault} → fault ≡ fault_of (check Room 0 0 true)
        → solved (told (Err fault)) win con ≡ parts one two K N win con
    unfolding parts parts_checks
    cramped = room-refused K N win con (pair_checks one two ++ stages) grant patient

    module _ (roomy : (room N win con).failed ≡ false) where
      faulty : {unpaired : Unpaired} → Err unpaired ≡ pair_of one two → (result : Result Answer Fault)
          → IsErrAnd result (λ f. f ≡ unpaired.fault)
          → solved (told result) win con ≡ parts one two K N win con
      unfolding parts parts_checks
      faulty f result e =
          fault-refused (pair_checks one two) (tables_in one two) win con stages grant (pair-told one two f) result e
          ∙ opened-on K N win con (pair_checks one two ++ stages) grant patient roomy

      admitted : {tables : Tables} → ReadBoth one two tables → in_turn one two K N win con ≡ parts one two K N win con
      unfolding parts parts_checks in_turn
      admitted both =
          read-on (pair_checks one two) (tables_in one two) win con stages grant (read-passes one two both)
          ∙ opened-on K N win con (pair_checks one two ++ stages) grant patient roomy

pub returns-then-k-gt7 : goal.returns-then-k-gt7
returns-then-k-gt7 c =
    let given = c.args in
    impatient given.first.now given.second.now given.k given.room given.winners.now given.controller.now c.if-k-gt7.true c.at.ensures

pub returns-then-small_room : goal.returns-then-small_room
unfolding room
returns-then-small_room c =
    let given = c.args in
    cramped given.first.now given.second.now given.k given.room given.winners.now given.controller.now c.if-k-gt7.false
    (sym c.small_room.ensures ∙ c.if-small_room.true) c.at-then-small_room.ensures

pub returns-in_err-tables : goal.returns-in_err-tables
unfolding room
returns-in_err-tables c =
    let given = c.args in
    faulty given.first.now given.second.now given.k given.room given.winners.now given.controller.now c.if-k-gt7.false
    (sym c.small_room.ensures ∙ c.if-small_room.false) c.in_err-tables.ensures _ c.from_residual.ensures.1

pub in_turn-requires : goal.in_turn-requires
unfolding room
in_turn-requires c = (
  c.if-k-gt7.false,
  sym c.small_room.ensures ∙ c.if-small_room.false,
  record { both_read = sym c.in_ok-tables.ensures },
)

pub returns : goal.returns
unfolding room
returns c =
    let given = c.args in
    c.in_turn.ensures
    ∙ admitted given.first.now given.second.now given.k given.room given.winners.now given.controller.now c.if-k-gt7.false
    (sym c.small_room.ensures ∙ c.if-small_room.false) (record { both_read = sym c.in_ok-tables.ensures })
