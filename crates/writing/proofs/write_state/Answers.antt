-- `write_state`: the output and the next state that the calls give are there, since each winner's output leads back into the winners, and
-- they are those of the state's row for this input. Their numbers fit a byte, since there are at most 256 winners and 8 letters; the row
-- that is written is one row more. Assumes nothing.
use mathlib.Core.Path.{◌≡◌, refl, sym, ap, ap₂, ◌∙◌}
use mathlib.Core.List.{List, [], ◌∷◌, flat_map}
use Prim.Native.Nat.{ℕ, ◌<◌}
use native.Mathlib.Omega.{arith}
use lib.ListN.{length, get_or}
use Rattle.std.specs.Prelude.{Option, Some}
use Rattle.std.specs.Option.{is_some}
use Rattle.meaning.specs.Lists.{tab, written}
use Rattle.meaning.specs.Table.{Table}
use Rattle.meaning.specs.Counting.{Position, covered}
use Rattle.meaning.specs.Written.{position_bytes, covering, after_round, output_of, row_bytes, rows_of_state}
use Rattle.counts.specs.Words.{counts_in}
use Rattle.table.specs.Packed.{table_in}
use Rattle.lists.specs.Members.{positions}
use Rattle.lists.proofs.Members.{positions-length}
use Rattle.writing.specs.Playable.{within, Playable}
use Rattle.writing.proofs.Chains.{within-some}
use Rattle.writing.proofs.Stepped.{covering_stepped}
use Rattle.writing.proofs.Bytes.{position-counts}
use Rattle.writing.proofs.Rows.{output_on, next_on, row_on, row_written, next-inside}
use Rattle.writing.proofs.write_state.Goals as goal

-- for a state of the list: the output that is found for it, and the next state that is found for one input
module _ (k : ℕ) (t : Table) (all : List ℕ) (state : ℕ) (one : state < length all) (playable : Playable k t (positions all)) where
  state_fits : state < 256
  state_fits = omega (arith, playable.winners, positions-length all)

  output_inside : output_on k t (positions all) state < t.outputs
  output_inside = playable.leads state (omega (arith, positions-length all))

  module _ (found : Option ℕ)
      (told : found ≡ within t.outputs (output_of k t (covered (positions all)) (counts_in (get_or all state 0)))) where
    output_found : found ≡ Some (output_on k t (positions all) state)
    output_found =
        told
        ∙ ap (λ (F : Position). within t.outputs (output_of k t (covered (positions all)) F)) (sym (position-counts all state one))
        ∙ within-some t.outputs (output_on k t (positions all) state) output_inside

    module _ (output : ℕ) (is : found ≡ Some output) where
      output_stated : output ≡ output_on k t (positions all) state
      output_stated = let e = output_found in cc

      module _ (i : ℕ) (inside : i < t.inputs) (after : Position)
          (stands : after ≡ position_bytes (after_round k t output i (counts_in (get_or all state 0)))) (next : Option ℕ)
          (covers : next ≡ within (length all) (covering (positions all) after)) where
        next_found : next ≡ Some (next_on k t (positions all) state i)
        next_found =
            covers
            ∙ ap (within (length all))
            (covering_stepped k t playable.bounded output i (counts_in (get_or all state 0)) (positions all) after stands
            ∙ ap₂ (λ (o : ℕ) (G : Position). covering (positions all) (after_round k t o i G)) output_stated
            (sym (position-counts all state one)))
            ∙ within-some (length all) (next_on k t (positions all) state i)
            (omega (
              arith,
              next-inside k t (positions all) playable state i (omega (arith, positions-length all)) inside,
              positions-length all,
            ))

        module _ (place : ℕ) (at : next ≡ Some place) where
          next_stated : place ≡ next_on k t (positions all) state i
          next_stated = let e = next_found in cc

          next_fits : place < 256
          next_fits =
              omega (
                arith,
                next-inside k t (positions all) playable state i (omega (arith, positions-length all)) inside,
                playable.winners,
                next_stated,
              )

          row_stated : state ∷ output ∷ i ∷ place ∷ []
              ≡ state ∷ output_on k t (positions all) state ∷ i ∷ next_on k t (positions all) state i ∷ []
          row_stated = ap₂ (λ (o s : ℕ). state ∷ o ∷ i ∷ s ∷ []) output_stated next_stated

pub unwrap-output-requires : goal.unwrap-output-requires
unfolding table_in
unwrap-output-requires c = ap is_some (output_found _ _ _ _ c.requires.0 c.requires.1 _ c.output_of.ensures)

pub loop-input-init : goal.loop-input-init
unfolding row_bytes flat_map
loop-input-init c = refl

pub unwrap-next-requires : goal.unwrap-next-requires
unfolding table_in
unwrap-next-requires c =
    ap is_some
    (next_found _ _ _ _ c.requires.0 c.requires.1 _ c.output_of.ensures _ c.unwrap-output.ensures _ c.loop-input-test.true _
    c.after_round.ensures _ c.covering.ensures)

pub overflow_cast-row : goal.overflow_cast-row
overflow_cast-row c = omega (arith, state_fits _ _ _ _ c.requires.0 c.requires.1)

pub overflow_cast-row-in-loop-input-3 : goal.overflow_cast-row-in-loop-input-3
unfolding table_in
overflow_cast-row-in-loop-input-3 c =
    omega (
      arith,
      next_fits _ _ _ _ c.requires.0 c.requires.1 _ c.output_of.ensures _ c.unwrap-output.ensures _ c.loop-input-test.true _
          c.after_round.ensures _ c.covering.ensures _ c.unwrap-next.ensures,
    )

pub loop-input-preserved : goal.loop-input-preserved
unfolding table_in
loop-input-preserved c =
    let given = c.args in
    let row = row_on given.k (table_in given.table) (positions given.list.now) given.state in
    row_written given.controller.now row c.loop-input.input c.loop-input.controller c.copy_from_slice.new.self c.loop-input.invariant
    (c.copy_from_slice.ensures.after
    ∙ row_stated _ _ _ _ c.requires.0 c.requires.1 _ c.output_of.ensures _ c.unwrap-output.ensures _ c.loop-input-test.true _
    c.after_round.ensures _ c.covering.ensures _ c.unwrap-next.ensures)

pub returns : goal.returns
unfolding rows_of_state table_in
returns c =
    let given = c.args in
    let row = row_on given.k (table_in given.table) (positions given.list.now) given.state in
    let e : c.loop-input.input ≡ given.table.inputs = omega arith in
    c.loop-input.invariant ∙ ap (λ (n : ℕ). written (row_bytes (tab n row)) given.controller.now) e
