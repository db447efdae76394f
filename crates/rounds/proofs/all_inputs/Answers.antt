-- `all_inputs`: the brim alone is the first list; a turn's cut is the next one, or it is past the room and so is the widest. Assumes
-- nothing.
use mathlib.Core.Path.{◌≡◌, ap, ◌∙◌}
use mathlib.Core.List.{List, [], ◌∷◌}
use Prim.Native.Nat.{ℕ, suc}
use native.Mathlib.Numerals.{add-one}
use native.Mathlib.Omega.{arith}
use Rattle.std.specs.Prelude.{Result, is_ok, is_err}
use Rattle.meaning.specs.Table.{Table, Half, on_input}
use Rattle.meaning.specs.Counting.{Position}
use Rattle.table.specs.Packed.{table_in}
use Rattle.lists.specs.Members.{positions}
use Rattle.tops.specs.Held.{Holds}
use Rattle.tops.specs.declared.Full.{Full}
use Rattle.sets.specs.Engine.{list_a, cut_by}
use Rattle.sets.proofs.Rounded.{list_a_ready}
use Rattle.rounds.specs.Rounds.{widest_a}
use Rattle.rounds.proofs.Runs.{runs_none, runs_few, runs_more, runs_whole, runs_full}
use Rattle.rounds.proofs.all_inputs.Goals as goal

-- one input more: the list that is cut is the next one
cut_list : (k room i : ℕ) (t : Table) (ws l : List Position) {half : Half} {out : List ℕ} {found : Result (Unit {0}) Full}
    → l ≡ list_a k t ws i
    → half ≡ on_input t i → Holds room (cut_by k half ws l) out found → Holds room (list_a k t ws (suc i)) out found
unfolding list_a
cut_list k room i t ws l held e h = rw (← held, ← e) h

pub loop-input-init : goal.loop-input-init
unfolding list_a table_in positions
loop-input-init c =
    let given = c.args in
    let only = rw c.clear.ensures at c.push.ensures.items in
    runs_none _ (omega arith) (ap positions only ∙ ap (λ (F : Position). F ∷ []) c.brim.ensures)

pub cut-requires : goal.cut-requires
cut-requires c =
    let given = c.args in
    let few = runs_few _ c.loop-input.invariant in (
      omega arith,
      (
        (omega arith, omega arith, omega (arith, few), omega arith, omega arith),
        rw c.loop-input.invariant.holds
            (list_a_ready given.k (table_in given.table) (positions given.w.now) c.loop-input.input).own,
      ),
    )

pub returns-in_err-cut : goal.returns-in_err-cut
unfolding table_in widest_a
returns-in_err-cut c =
    let given = c.args in
    runs_full (list_a given.k (table_in given.table) (positions given.w.now))
    (cut_list given.k given.room c.loop-input.input (table_in given.table) (positions given.w.now) _
    c.loop-input.invariant.holds c.on_input.ensures c.cut.ensures)
    (ap is_err c.in_err-cut.was) c.from_residual.ensures.0 (omega arith)

pub loop-input-preserved : goal.loop-input-preserved
unfolding table_in
loop-input-preserved c =
    let given = c.args in
    rw (add-one c.loop-input.input) (runs_more _ c.loop-input.invariant
    (cut_list given.k given.room c.loop-input.input (table_in given.table) (positions given.w.now) _
    c.loop-input.invariant.holds c.on_input.ensures c.cut.ensures) (ap is_ok c.in_ok-cut.was))

pub returns : goal.returns
unfolding table_in widest_a
returns c =
    let e : c.loop-input.input ≡ c.args.table.inputs = omega arith in
    rw e at (runs_whole _ c.loop-input.invariant)
