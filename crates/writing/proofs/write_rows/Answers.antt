-- `write_rows`: a state takes at most 32 bytes, so that there is room for the rows of one more, and what `write_state` writes is the next
-- block; the blocks of all the states are the rows. Assumes nothing.
use mathlib.Core.Path.{◌≡◌, refl, ap, ◌∙◌}
use mathlib.Core.List.{List, flat_map}
use Prim.Native.Nat.{ℕ}
use native.Mathlib.Omega.{arith}
use lib.ListN.{length, length-take, length-drop}
use Rattle.meaning.specs.Lists.{written}
use Rattle.meaning.specs.Written.{row_bytes}
use Rattle.table.specs.Packed.{table_in}
use Rattle.lists.specs.Members.{positions}
use Rattle.lists.proofs.Members.{positions-length}
use Rattle.writing.proofs.Blocks.{state-inside, blocks, blocks_fit, blocks-next, blocks-whole}
use Rattle.writing.proofs.write_rows.Goals as goal

pub loop-b-init : goal.loop-b-init
unfolding row_bytes flat_map
loop-b-init c = refl

pub write_state-requires : goal.write_state-requires
unfolding table_in
write_state-requires c =
    let given = c.args in (
      rw c.state_at.ensures (state-inside given.start (length given.list.now) c.loop-b.b c.requires.0 c.loop-b-test.true),
      c.requires.1,
      simp (length-take, length-drop)
          (omega (arith, blocks_fit c.loop-b.b given.table.inputs c.requires.1.inputs, c.requires.1.inputs)),
    )

pub loop-b-preserved : goal.loop-b-preserved
unfolding table_in
loop-b-preserved c =
    let given = c.args in
    blocks-next given.k (table_in given.table) (positions given.list.now) given.start given.controller.now c.loop-b.b c.state_at.result
    c.loop-b.controller c.write_state.new.controller c.loop-b.invariant c.state_at.ensures c.write_state.ensures

pub returns : goal.returns
returns c =
    let given = c.args in
    let ws = positions given.list.now in
    let e : c.loop-b.b ≡ length ws = omega (arith, positions-length given.list.now) in
    c.loop-b.invariant
    ∙ ap (λ (l : List ℕ). written l given.controller.now)
    (ap (blocks given.k (table_in given.table) ws given.start) e
    ∙ blocks-whole given.k (table_in given.table) ws given.start (omega (arith, c.requires.0, positions-length given.list.now)))
