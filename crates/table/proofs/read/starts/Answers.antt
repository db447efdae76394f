-- `starts`: a controller-turn state is the next one, and its bit is set if it is a start; any other record changes nothing. Assumes
-- nothing.
use mathlib.Core.Path.{sym, ap, ap₂, ◌∙◌}
use mathlib.Core.Bool.{◌||◌}
use mathlib.Core.List.{List}
use Prim.Native.Nat.{ℕ, ◌+◌}
use native.Mathlib.Omega.{arith}
use borrow.Author.Rules.{rules}
use lib.Dec.{eqb}
use lib.ListN.{length, take}
use Rattle.meaning.specs.Records.{Record, records_of, of_kind, controller}
use Rattle.meaning.specs.Table.{starts_of, bit, start_in}
use Rattle.masks.specs.Mask.{mask}
use Rattle.table.specs.Packed.{record_in}
use Rattle.table.proofs.Records.{next_record, all_records}
use Rattle.table.proofs.OneMore.{of_kind-few, of_kind_other, states_this, starts_this, starts_none, starts_other}
use Rattle.table.proofs.read.starts.Goals as goal
use Rattle.table.proofs.read.starts.Goals.{else-r-eq-CONTROLLER, then-r-eq-CONTROLLER, then-is_start, else-is_start}

pub loop-r-init : goal.loop-r-init
unfolding mask starts_of start_in of_kind
loop-r-init c = search rules

pub overflow_add-q : goal.overflow_add-q
overflow_add-q c =
    omega (arith, of_kind-few controller c.loop-r.r-index (records_of c.args.bytes.now))

pub loop-r-preserved : goal.loop-r-preserved
loop-r-preserved c =
    let bytes = c.args.bytes.now in
    let i = c.loop-r.r-index in
    let rs = take i (records_of bytes) in
    let r = record_in c.from-r.result in
    let next = next_record c.records-r-items.result.now c.records-r-items.ensures i r c.loop-r-test.true c.from-r.ensures in
    rw next
    (elim c.if-r-eq-CONTROLLER.branch [
      | then-r-eq-CONTROLLER w ↦ (
        w.q-is ∙ ap (λ (n : ℕ). n + 1) c.loop-r.invariant.0 ∙ sym (states_this controller rs r w.if-r-eq-CONTROLLER.true),
        w.set-is ∙ elim w.if-is_start.branch [
          | then-is_start v ↦ v.set-is ∙ v.with_state-set.ensures
              ∙ ap₂ (λ (m n : ℕ). mask 8 (λ k. bit m k || eqb k n)) c.loop-r.invariant.1 c.loop-r.invariant.0
              ∙ starts_this rs r w.if-r-eq-CONTROLLER.true (sym w.is_start.ensures ∙ v.if-is_start.true)
          | else-is_start v ↦ v.set-is ∙ c.loop-r.invariant.1
              ∙ starts_none rs r w.if-r-eq-CONTROLLER.true (sym w.is_start.ensures ∙ v.if-is_start.false)
        ],
      )
      | else-r-eq-CONTROLLER w ↦ (
        w.q-is ∙ c.loop-r.invariant.0 ∙ ap (λ (l : List Record). length l) (sym (of_kind_other controller rs r w.if-r-eq-CONTROLLER.false)),
        w.set-is ∙ c.loop-r.invariant.1 ∙ starts_other rs r w.if-r-eq-CONTROLLER.false,
      )
    ])

pub returns : goal.returns
returns c =
    c.loop-r.invariant.1
    ∙ ap (λ (l : List Record). mask 8 (starts_of l))
    (all_records c.records-r-items.result.now c.records-r-items.ensures c.loop-r.r-index c.loop-r-test.false)
