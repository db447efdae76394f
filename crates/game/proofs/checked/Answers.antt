-- `checked` answers with the first check that fails. After the checks 2 to 10 one fact stands: what is left to judge are 11 and 12 of the
-- one stage. The table that was read states the table of the bytes, and the brim alone covers all safe positions of it, so the stage from
-- the brim is what is left. Assumes nothing.
use mathlib.Core.List.{List, [], ◌∷◌}
use mathlib.Core.Path.{◌≡◌, sym, ◌∙◌, ap}
use mathlib.Core.Bool.{Bool, false, ◌||◌}
use Prim.Native.Nat.{ℕ, ◌*◌}
use lib.Dec.{eqb, ltb}
use lib.ListN.{length}
use Rattle.std.specs.Prelude.{Ok}
use Rattle.meaning.specs.Answers.{staged}
use Rattle.meaning.specs.Checks.{room}
use Rattle.meaning.specs.Table.{stated, Table}
use Rattle.meaning.specs.Written.{position_bytes}
use Rattle.meaning.specs.Counting.{Position}
use Rattle.counts.specs.Words.{counts_in}
use Rattle.table.specs.declared.Table.{Table as Packed}
use Rattle.table.specs.Checked.{reading_of}
use Rattle.table.specs.Packed.{table_in}
use Rattle.table.proofs.Judged.{passes-none-fails, table-read}
use Rattle.lists.specs.Members.{positions}
use Rattle.sets.specs.Engine.{brim}
use Rattle.rounds.proofs.First.{brim-covered, brim-first}
use Rattle.game.proofs.InOrder.{passes_fit}
use Rattle.game.proofs.Solved.{solve-bound, solve-room, solve-table, solve-stage}
use Rattle.game.proofs.checked.Goals as goal

-- 3 passes
room-passes : (room_asked : ℕ) (win con : List ℕ) {small : Bool}
    → small ≡ (eqb room_asked 0 || ltb 256 room_asked || ltb (length win) (8 * room_asked) || ltb (length con) (32 * room_asked))
    → small ≡ false → (room room_asked win con).failed ≡ false
unfolding room
room-passes room_asked win con told passed = sym told ∙ passed

-- the list of the brim alone, where the table was read
brim-listed : (bytes : List ℕ) (t : Packed) → reading_of bytes ≡ Ok t → (k p : ℕ) → counts_in p ≡ position_bytes (brim k t.controllers)
    → positions (p ∷ []) ≡ position_bytes (brim k (stated bytes).controllers) ∷ []
unfolding positions table_in
brim-listed bytes t told k p e =
    ap (λ (F : Position). F ∷ []) e ∙ ap (λ (t : Table). position_bytes (brim k t.controllers) ∷ []) (table-read bytes told)

pub returns-then-k-gt7 : goal.returns-then-k-gt7
returns-then-k-gt7 c =
    let given = c.args in
    solve-bound given.table.now given.k given.room given.winners.now given.controller.now c.if-k-gt7.true c.at.ensures

pub returns-then-small_room : goal.returns-then-small_room
unfolding room
returns-then-small_room c =
    let given = c.args in
    solve-room given.table.now given.k given.room given.winners.now given.controller.now c.if-k-gt7.false
    (sym c.small_room.ensures ∙ c.if-small_room.true) c.at-then-small_room.ensures

pub returns-in_err-table : goal.returns-in_err-table
returns-in_err-table c =
    let given = c.args in
    solve-table given.table.now given.k given.room given.winners.now given.controller.now c.if-k-gt7.false
    (room-passes given.room given.winners.now given.controller.now c.small_room.ensures c.if-small_room.false)
    (sym c.in_err-table.ensures) _ c.from_residual.ensures.1

pub stage-requires-clause-bounds : goal.stage-requires-clause-bounds
stage-requires-clause-bounds c =
    let given = c.args in
    let told = sym c.in_ok-table.ensures in (
      c.if-k-gt7.false,
      room-passes given.room given.winners.now given.controller.now c.small_room.ensures c.if-small_room.false,
      rw (table-read given.table.now told) (passes_fit 0 given.table.now (passes-none-fails given.table.now told 0)),
    )

pub stage-requires-clause-list : goal.stage-requires-clause-list
stage-requires-clause-list c =
    let given = c.args in
    let bytes = given.table.now in
    let told = sym c.in_ok-table.ensures in
    let fit = passes_fit 0 bytes (passes-none-fails bytes told 0) in
    rw (table-read bytes told, brim-listed bytes _ told given.k _ c.brim.ensures)
    (brim-first given.k (stated bytes) fit.small fit.good.some-output)

pub returns : goal.returns
unfolding staged
returns c =
    let given = c.args in
    let bytes = given.table.now in
    let told = sym c.in_ok-table.ensures in
    let passes = passes-none-fails bytes told 0 in
    (rw (
      table-read bytes told,
      brim-listed bytes _ told given.k _ c.brim.ensures,
      brim-covered given.k (stated bytes) (passes_fit 0 bytes passes).small,
    ) at c.stage.ensures)
    ∙ (solve-stage bytes given.k given.room given.winners.now given.controller.now c.if-k-gt7.false
    (room-passes given.room given.winners.now given.controller.now c.small_room.ensures c.if-small_room.false) passes)
