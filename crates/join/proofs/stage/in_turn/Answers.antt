-- `in_turn`: each return is one stage's: FULL of a table alone, FULL of the list of pairs, and the last stage. The tables that were read
-- are those of the bytes, so the two lists of winners alone, paired, are the list of pairs that the last stage begins with. Assumes
-- nothing.
use mathlib.Core.Path.{◌≡◌, refl, sym, ap, ◌∙◌}
use mathlib.Core.Bool.{true}
use mathlib.Core.List.{List}
use Prim.Native.Nat.{ℕ}
use native.Mathlib.Omega.{arith}
use borrow.Author.Rules.{rules}
use borrow.Author.Tests.{tests}
use lib.ListN.{length}
use Rattle.std.specs.Prelude.{Result, is_ok, is_err}
use Rattle.std.specs.Result.{IsErrAnd}
use Rattle.meaning.specs.declared.Answer.{Answer}
use Rattle.meaning.specs.declared.Fault.{Fault}
use Rattle.meaning.specs.declared.Refusal.TheVariants as R
use Rattle.meaning.specs.Checks.{check}
use Rattle.meaning.specs.Answers.{told, fault_of, solved, unsolved}
use Rattle.meaning.specs.Counting.{Position}
use Rattle.meaning.specs.Rounds.{all_safe}
use Rattle.meaning.specs.Table.{stated}
use Rattle.meaning.proofs.Sound.{passes-small}
use Rattle.meaning.proofs.Buffers.{room-grants}
use Rattle.table.specs.declared.Table as T
use Rattle.table.specs.Packed.{packed, table_in}
use Rattle.lists.specs.Members.{positions}
use Rattle.lists.proofs.Members.{positions-length}
use Rattle.tops.specs.declared.Full.{Full}
use Rattle.tops.proofs.Held.{full-held, fits-held}
use Rattle.rounds.specs.Rounds.{Settles}
use Rattle.joined.specs.declared.pair.Tables.{Tables}
use Rattle.joined.specs.Joined.{ReadBoth}
use Rattle.joined.proofs.Paired.{read-passes, read-joinable, read_first, first-stated, second-stated}
use Rattle.game.proofs.InOrder.{told-passed}
use Rattle.join.specs.Beside.{all_beside}
use Rattle.join.proofs.Settles.{told-full, told-ended}
use Rattle.join.proofs.Stages.{Alone, first-full, second-full, Listed, alone_listed, first-output, second-output}
use Rattle.join.proofs.stage.in_turn.Goals as goal
use Rattle.join.proofs.stage.in_turn.Goals.{In_ok-map_err-2}

-- FULL of a table
abbrev full : ℕ → Fault
full which = fault_of (check R.Full 0 which true)

-- what is left where it is passed on
left : (which : ℕ) (win con : List ℕ) (result : Result Answer Fault) (fault : Fault) → IsErrAnd result (λ f. f ≡ fault)
    → fault ≡ full which → solved (told result) win con ≡ unsolved win con (check R.Full 0 which true)
unfolding unsolved
left which win con result fault e same =
    ap (λ (a : Answer). solved a win con) (told-passed result fault e)
    ∙ ap (λ (f : Fault). unsolved win con (check f.refusal f.place f.which true)) same

module _ (one two : List ℕ) {tables : Tables} (both : ReadBoth one two tables) where
  -- the first table's number of states
  states : tables.first.controllers ≡ (stated one).controllers
  unfolding packed
  states = ap {B = ℕ} (λ (t : T.Table). t.controllers) (read_first one two both)

  -- the tables that were read are those of the bytes
  module _ {K N : ℕ} {out : List ℕ} {settled : Result ℕ Full} where
    alone-first : Settles K (table_in tables.first) (all_safe K (table_in tables.first).controllers) N out settled
        → Alone K N one out settled
    alone-first h = rw (first-stated one two both) at h

    alone-second : Settles K (table_in tables.second) (all_safe K (table_in tables.second).controllers) N out settled
        → Alone K N two out settled
    alone-second h = rw (second-stated one two both) at h

pub settle_all-requires : goal.settle_all-requires
settle_all-requires c =
    let one = c.args.first.now in
    let two = c.args.second.now in
    let room = room-grants c.args.room c.args.winners.now c.args.controller.now c.requires.1 in
    rw (first-stated one two c.requires.2) (
      omega arith,
      (
        c.requires.0,
        room.some,
        room.within,
        passes-small 0 one (read-joinable one two c.requires.2).first,
        first-output one two (read-passes one two c.requires.2),
        room.within,
      ),
    )

pub returns-in_err-map_err : goal.returns-in_err-map_err
returns-in_err-map_err c =
    let one = c.args.first.now in
    let two = c.args.second.now in
    let win = c.args.winners.now in
    let con = c.args.controller.now in
    let stopped = told-full _ 1 (λ f g k. search (rules, tests)) _ c.map_err.result c.map_err.ensures.cases c.in_err-map_err.was in
    left 1 win con _ _ c.from_residual.ensures.1 stopped.2
    ∙ sym (first-full one two c.args.k c.args.room win con (read-passes one two c.requires.2)
    (alone-first one two c.requires.2 c.settle_all.ensures) stopped.1)

pub settle_all-requires-2 : goal.settle_all-requires-2
settle_all-requires-2 c =
    let one = c.args.first.now in
    let two = c.args.second.now in
    let room = room-grants c.args.room c.args.winners.now c.args.controller.now c.requires.1 in
    rw (second-stated one two c.requires.2) (
      omega arith,
      (
        c.requires.0,
        room.some,
        room.within,
        passes-small 0 two (read-joinable one two c.requires.2).second,
        second-output one two (read-passes one two c.requires.2),
        room.within,
      ),
    )

-- after the second table's rounds have ended, what the two came to
module _ (c : In_ok-map_err-2) where
  abbrev one : List ℕ
  one = c.args.first.now

  abbrev two : List ℕ
  two = c.args.second.now

  abbrev win : List ℕ
  win = c.args.winners.now

  abbrev con : List ℕ
  con = c.args.controller.now

  -- the pairs of the winners alone
  abbrev paired : List Position
  paired = all_beside c.args.tables.first.controllers (positions c.settle_all.new.out.items) (positions c.settle_all-2.new.out.items)

  pairs-listed : Listed one two c.args.k c.args.room win con paired
  pairs-listed =
      alone_listed one two c.args.k c.args.room win con (read-passes one two c.requires.2)
      (alone-first one two c.requires.2 c.settle_all.ensures)
      (told-ended _ _ c.map_err.result c.map_err.ensures.cases c.in_ok-map_err.was)
      (alone-second one two c.requires.2 c.settle_all-2.ensures)
      (told-ended _ _ c.map_err-2.result c.map_err-2.ensures.cases c.in_ok-map_err-2.was) _ (states one two c.requires.2)

pub returns-in_err-map_err-2 : goal.returns-in_err-map_err-2
returns-in_err-map_err-2 c =
    let one = c.args.first.now in
    let two = c.args.second.now in
    let win = c.args.winners.now in
    let con = c.args.controller.now in
    let stopped = told-full _ 2 (λ f g k. search (rules, tests)) _ c.map_err-2.result c.map_err-2.ensures.cases c.in_err-map_err-2.was in
    left 2 win con _ _ c.from_residual-in_err-map_err-2.ensures.1 stopped.2
    ∙ sym (second-full one two c.args.k c.args.room win con (read-passes one two c.requires.2)
    (alone-first one two c.requires.2 c.settle_all.ensures)
    (told-ended _ _ c.map_err.result c.map_err.ensures.cases c.in_ok-map_err.was)
    (alone-second one two c.requires.2 c.settle_all-2.ensures) stopped.1)

pub pairs-requires : goal.pairs-requires
pairs-requires c =
    let room = room-grants c.args.room c.args.winners.now c.args.controller.now c.requires.1 in
    (omega arith, (c.deref.ensures.1, c.deref-2.ensures.1, room.within))

pub returns-in_err-pairs : goal.returns-in_err-pairs
returns-in_err-pairs c =
    left 0 c.args.winners.now c.args.controller.now _ (full 0) c.from_residual-in_err-pairs.ensures.1 refl
    ∙ sym ((pairs-listed (goal.at.returns-in_err-pairs c).In_ok-map_err-2).crowded
    (rw (c.deref.ensures.0, c.deref-2.ensures.0) at (full-held c.pairs.ensures (ap is_err c.in_err-pairs.was))))

pub last-requires-clause-pairs : goal.last-requires-clause-pairs
last-requires-clause-pairs c =
    let held = rw (c.deref.ensures.0, c.deref-2.ensures.0) at (fits-held c.pairs.ensures (ap is_ok c.in_ok-pairs.was)) in
    rw (c.deref-3.ensures.0, held.1) (pairs-listed (goal.at.last-requires-clause-pairs c).In_ok-map_err-2).stands

pub returns : goal.returns
returns c =
    let held = rw (c.deref.ensures.0, c.deref-2.ensures.0) at (fits-held c.pairs.ensures (ap is_ok c.in_ok-pairs.was)) in
    c.last.ensures
    ∙ sym ((pairs-listed (goal.at.returns c).In_ok-map_err-2).roomy
    (omega (arith, held.0, ap length held.1, positions-length c.pairs.new.out.items)))
