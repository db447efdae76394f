-- `targets`: an edge sets the bit of its target in the byte of its letter and state, which is one of the 64; any other record changes none.
-- Assumes nothing.
use mathlib.Core.Path.{◌≡◌, sym, ap, ◌∙◌}
use mathlib.Core.Bool.{true, ◌||◌}
use mathlib.Core.List.{List, [], ◌∷◌, ◌++◌}
use Prim.Native.Nat.{ℕ, ◌<◌, ◌+◌, ◌*◌}
use native.Mathlib.Omega.{arith}
use borrow.Author.Rules.{rules}
use lib.Dec.{eqb}
use lib.ListN.{take, set, get_or}
use Rattle.meaning.specs.Records.{Record, records_of}
use Rattle.meaning.specs.Table.{edge_of, bit}
use Rattle.masks.specs.Mask.{mask}
use Rattle.table.specs.Packed.{record_in, targets as targets_of}
use Rattle.table.proofs.Records.{next_record, all_records}
use Rattle.table.proofs.Edges.{is_edge, edge-from, edge-letter, targets_this, targets_other}
use Rattle.table.proofs.read.targets.Goals as goal
use Rattle.table.proofs.read.targets.Goals.{else-is_edge, then-is_edge}

pub loop-r-init : goal.loop-r-init
unfolding targets_of mask edge_of
loop-r-init c = search rules

-- an edge's byte is one of the 64
edge-byte : (r : Record) (kind : ℕ) → is_edge r kind ≡ true → r.letter * 8 + r.from < 64
edge-byte r kind edge = omega (arith, edge-from r kind edge, edge-letter r kind edge)

pub overflow_mul-k : goal.overflow_mul-k
overflow_mul-k c = omega (arith, edge-byte (record_in c.from-r.result) c.args.kind (sym c.is_edge.ensures ∙ c.if-is_edge.true))

pub overflow_add-k : goal.overflow_add-k
overflow_add-k c = omega (arith, edge-byte (record_in c.from-r.result) c.args.kind (sym c.is_edge.ensures ∙ c.if-is_edge.true))

pub bounds-masks-k : goal.bounds-masks-k
bounds-masks-k c = omega (arith, edge-byte (record_in c.from-r.result) c.args.kind (sym c.is_edge.ensures ∙ c.if-is_edge.true))

pub bounds-masks-k-then-is_edge : goal.bounds-masks-k-then-is_edge
bounds-masks-k-then-is_edge c =
    omega (arith, edge-byte (record_in c.from-r.result) c.args.kind (sym c.is_edge.ensures ∙ c.if-is_edge.true))

byte-set : (kind : ℕ) (rs : List Record) (r : Record) (masks : List ℕ) (k to : ℕ) → masks ≡ targets_of (edge_of kind rs)
    → k ≡ r.letter * 8 + r.from → to ≡ r.to → is_edge r kind ≡ true
    → set masks k (mask 8 (λ q. bit (get_or masks k 0) q || eqb q to)) ≡ targets_of (edge_of kind (rs ++ (r ∷ [])))
byte-set kind rs r masks k to before here there edge = rw (before, here, there) (targets_this kind rs r edge)

pub loop-r-preserved : goal.loop-r-preserved
loop-r-preserved c =
    let kind = c.args.kind in
    let i = c.loop-r.r-index in
    let rs = take i (records_of c.args.bytes.now) in
    let r = record_in c.from-r.result in
    let masks = c.loop-r.masks in
    rw (next_record c.records-r-items.result.now c.records-r-items.ensures i r c.loop-r-test.true c.from-r.ensures)
    (elim c.if-is_edge.branch [
      | then-is_edge w ↦
          let k = w.from.result * 8 + w.from-then-is_edge.result in
          w.masks-is ∙ ap (set masks k) w.with_state.ensures
          ∙ byte-set kind rs r masks k w.from-then-is_edge-2.result c.loop-r.invariant (omega (
            arith,
            w.from.ensures,
            w.from-then-is_edge.ensures,
          )) w.from-then-is_edge-2.ensures (sym c.is_edge.ensures ∙ w.if-is_edge.true)
      | else-is_edge w ↦ w.masks-is ∙ c.loop-r.invariant ∙ targets_other kind rs r (sym c.is_edge.ensures ∙ w.if-is_edge.false)
    ])

pub returns : goal.returns
returns c =
    let args = c.args in
    c.loop-r.invariant
    ∙ ap (λ (l : List Record). targets_of (edge_of args.kind l))
    (all_records c.records-r-items.result.now c.records-r-items.ensures c.loop-r.r-index c.loop-r-test.false)
