-- `marks`: a state of the side is the next one, and its mark is written at its number if there is room; any other record changes nothing.
-- Assumes nothing.
use mathlib.Core.Path.{sym, ap, ◌∙◌, ap₂}
use mathlib.Core.List.{List}
use Prim.Native.Nat.{ℕ, ◌+◌}
use native.Mathlib.Omega.{arith}
use borrow.Author.Rules.{rules}
use lib.ListN.{length, take, set}
use Rattle.meaning.specs.Records.{Record, records_of, of_kind}
use Rattle.meaning.specs.Table.{mark_of, mark_in}
use Rattle.table.specs.Packed.{record_in, marks as marks'}
use Rattle.table.proofs.Records.{next_record, all_records}
use Rattle.table.proofs.OneMore.{of_kind-few, of_kind_other, states_this, marks_this, marks-full, marks_other}
use Rattle.table.proofs.read.marks.Goals as goal
use Rattle.table.proofs.read.marks.Goals.{else-r-kind, then-r-kind, then-q-lt8, else-q-lt8}

pub loop-r-init : goal.loop-r-init
unfolding marks' mark_of mark_in of_kind
loop-r-init c = search rules

pub overflow_add-q : goal.overflow_add-q
overflow_add-q c =
    omega (arith, of_kind-few c.args.kind c.loop-r.r-index (records_of c.args.bytes.now))

pub loop-r-preserved : goal.loop-r-preserved
loop-r-preserved c =
    let bytes = c.args.bytes.now in
    let kind = c.args.kind in
    let i = c.loop-r.r-index in
    let q = c.loop-r.q in
    let rs = take i (records_of bytes) in
    let r = record_in c.from-r.result in
    let next = next_record c.records-r-items.result.now c.records-r-items.ensures i r c.loop-r-test.true c.from-r.ensures in
    rw next
    (elim c.if-r-kind.branch [
      | then-r-kind w ↦ (
        w.q-is ∙ ap (λ (n : ℕ). n + 1) c.loop-r.invariant.0 ∙ sym (states_this kind rs r w.if-r-kind.true),
        w.marks-is ∙ elim w.if-q-lt8.branch [
          | then-q-lt8 v ↦ v.marks-is ∙ ap₂ (λ (l : List ℕ) (m : ℕ). set l q m) c.loop-r.invariant.1 v.mark.ensures
              ∙ marks_this kind rs r q w.if-r-kind.true c.loop-r.invariant.0 v.if-q-lt8.true
          | else-q-lt8 v ↦ v.marks-is ∙ c.loop-r.invariant.1
              ∙ marks-full kind rs r w.if-r-kind.true (omega (arith, v.if-q-lt8.false, c.loop-r.invariant.0))
        ],
      )
      | else-r-kind w ↦ (
        w.q-is ∙ c.loop-r.invariant.0 ∙ ap (λ (l : List Record). length l) (sym (of_kind_other kind rs r w.if-r-kind.false)),
        w.marks-is ∙ c.loop-r.invariant.1 ∙ marks_other kind rs r w.if-r-kind.false,
      )
    ])

pub returns : goal.returns
returns c =
    let args = c.args in
    c.loop-r.invariant.1
    ∙ ap (λ (l : List Record). marks' (mark_of args.kind l))
    (all_records c.records-r-items.result.now c.records-r-items.ensures c.loop-r.r-index c.loop-r-test.false)
