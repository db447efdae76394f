-- `all_outputs`: no position is the first list; a turn's widening is the next one, or it is past the room and so is the widest. Assumes
-- nothing.
use mathlib.Core.Path.{◌≡◌, ap}
use mathlib.Core.List.{List}
use Prim.Native.Nat.{ℕ, suc}
use native.Mathlib.Numerals.{add-one}
use native.Mathlib.Omega.{arith}
use Rattle.std.specs.Prelude.{Result, is_ok, is_err}
use Rattle.meaning.specs.Table.{Table, Half, on_output}
use Rattle.meaning.specs.Counting.{Position}
use Rattle.table.specs.Packed.{table_in}
use Rattle.lists.specs.Members.{positions}
use Rattle.tops.specs.Held.{Holds}
use Rattle.tops.specs.declared.Full.{Full}
use Rattle.sets.specs.Engine.{list_b, widen_by}
use Rattle.sets.proofs.Rounded.{list_b_ready}
use Rattle.rounds.specs.Rounds.{widest_b}
use Rattle.rounds.proofs.Runs.{runs_none, runs_few, runs_more, runs_whole, runs_full}
use Rattle.rounds.proofs.all_outputs.Goals as goal

-- one output more: the list that is widened is the next one
widened : (k room i : ℕ) (t : Table) (vs l : List Position) {half : Half} {out : List ℕ} {found : Result (Unit {0}) Full}
    → l ≡ list_b k t vs i
    → half ≡ on_output t i → Holds room (widen_by k half vs l) out found → Holds room (list_b k t vs (suc i)) out found
unfolding list_b
widened k room i t vs l held e h = rw (← held, ← e) h

pub loop-output-init : goal.loop-output-init
unfolding list_b table_in positions
loop-output-init c =
    let given = c.args in
    runs_none _ (omega arith) (ap positions c.clear.ensures)

pub widen-requires : goal.widen-requires
widen-requires c =
    let given = c.args in
    let few = runs_few _ c.loop-output.invariant in (
      omega arith,
      (
        (omega arith, omega arith, omega (arith, few), omega arith, omega arith),
        rw c.loop-output.invariant.holds
            (list_b_ready given.k (table_in given.table) (positions given.v.now) c.loop-output.output).own,
      ),
    )

pub returns-in_err-widen : goal.returns-in_err-widen
unfolding table_in widest_b
returns-in_err-widen c =
    let given = c.args in
    runs_full (list_b given.k (table_in given.table) (positions given.v.now))
    (widened given.k given.room c.loop-output.output (table_in given.table) (positions given.v.now) _
    c.loop-output.invariant.holds c.on_output.ensures c.widen.ensures)
    (ap is_err c.in_err-widen.was) c.from_residual.ensures.0 (omega arith)

pub loop-output-preserved : goal.loop-output-preserved
unfolding table_in
loop-output-preserved c =
    let given = c.args in
    rw (add-one c.loop-output.output) (runs_more _ c.loop-output.invariant
    (widened given.k given.room c.loop-output.output (table_in given.table) (positions given.v.now) _
    c.loop-output.invariant.holds c.on_output.ensures c.widen.ensures) (ap is_ok c.in_ok-widen.was))

pub returns : goal.returns
unfolding table_in widest_b
returns c =
    let e : c.loop-output.output ≡ c.args.table.outputs = omega arith in
    rw e at (runs_whole _ c.loop-output.invariant)
