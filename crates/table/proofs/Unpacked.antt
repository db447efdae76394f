-- A table of at most eight states a side and eight letters is what its masks and marks state. Each field by the laws of masks, then the
-- table as one equation. Assumes nothing.
use mathlib.Core.Path.{◌≡◌, sym, ap, ap₂, ◌∙◌}
use mathlib.Core.Bool.{Bool, true, false, ◌&&◌, and-false}
use mathlib.Core.List.{List}
use Prim.Native.Nat.{ℕ, ◌+◌, ◌*◌, ◌/◌, ◌%◌, ◌≤◌, ◌<◌}
use native.Mathlib.Decide.{dec_lt}
use native.Mathlib.Omega.{arith}
use lib.ListN.{length, get_or, get_or-eq_default}
use lib.Dec.{ltb}
use borrow.Author.Tests.{ltb-true, lt-ltb, le-ltb}
use Rattle.meaning.specs.Table as T
use Rattle.meaning.specs.Table.{bit}
use Rattle.meaning.proofs.Tests.{both_left, both_right, clash, same_test}
use Rattle.meaning.proofs.Lists.{tab-at, tab_beyond}
use Rattle.masks.specs.Mask.{mask}
use Rattle.masks.proofs.Masks.{bit_beyond, bit_below, bit-none, bit-of-mask}
use Rattle.table.specs.Packed.{marks, targets, edge_in, table_in, packed}
use Rattle.table.proofs.Edges.{targets-at, targets-length}

-- 64 bytes of targets have no edge from a ninth state, and none on a ninth letter
pub no_ninth_state : (bytes : List ℕ) (l p q : ℕ) → 8 ≤ p → edge_in bytes l p q ≡ false
no_ninth_state bytes l p q h = ap (λ (b : Bool). b && bit (get_or bytes (l * 8 + p) 0) q) (le-ltb p 8 h)

pub no_ninth_letter : (bytes : List ℕ) (l p q : ℕ) → length bytes ≡ 64 → 8 ≤ l → edge_in bytes l p q ≡ false
no_ninth_letter bytes l p q e h =
    ap (λ (m : ℕ). ltb p 8 && bit m q) (get_or-eq_default bytes 0 (omega arith))
    ∙ ap (λ (b : Bool). ltb p 8 && b) (bit-none q)
    ∙ and-false (ltb p 8)

-- a table of at most eight states a side and eight letters
pub record InEight (t : T.Table) : Type 0 where
  pub starts : (q : ℕ) → 8 ≤ q → t.starts q ≡ false
  pub controller_marks : (q : ℕ) → 8 ≤ q → t.controller_mark q ≡ 0
  pub world_marks : (q : ℕ) → 8 ≤ q → t.world_mark q ≡ 0
  pub output_edges : (l p q : ℕ) → t.output_edge l p q ≡ true → (l < 8) × (p < 8) × (q < 8)
  pub input_edges : (l p q : ℕ) → t.input_edge l p q ≡ true → (l < 8) × (p < 8) × (q < 8)

bit-back : (f : ℕ → Bool) → ((q : ℕ) → 8 ≤ q → f q ≡ false) → (q : ℕ) → bit (mask 8 f) q ≡ f q
bit-back f beyond q = go (dec_lt q 8)
  where
    go : Dec (q < 8) → bit (mask 8 f) q ≡ f q
    go (yes h) = bit-of-mask f q h
    go (no h) = bit_beyond (mask 8 f) q (omega arith) ∙ sym (beyond q (omega arith))

mark-back : (f : ℕ → ℕ) → ((q : ℕ) → 8 ≤ q → f q ≡ 0) → (q : ℕ) → get_or (marks f) q 0 ≡ f q
unfolding marks
mark-back f beyond q = go (dec_lt q 8)
  where
    go : Dec (q < 8) → get_or (marks f) q 0 ≡ f q
    go (yes h) = tab-at 8 f q 0 h
    go (no h) = tab_beyond 8 f q 0 (omega arith) ∙ sym (beyond q (omega arith))

module _ (edge : ℕ → ℕ → ℕ → Bool) (within : (l p q : ℕ) → edge l p q ≡ true → (l < 8) × (p < 8) × (q < 8)) where
  edge-within : (l p q : ℕ) → l < 8 → p < 8 → q < 8 → edge_in (targets edge) l p q ≡ edge l p q
  edge-within l p q hl hp hq =
      let k = l * 8 + p in
      let letter : k / 8 ≡ l = omega arith in
      let state : k % 8 ≡ p = omega arith in
      ap₂ (λ (b : Bool) (m : ℕ). b && bit m q) (lt-ltb p 8 hp) (targets-at edge k (omega arith))
      ∙ bit-of-mask (edge (k / 8) (k % 8)) q hq
      ∙ ap₂ (λ (i j : ℕ). edge i j q) letter state

  edge-back : (l p q : ℕ) → edge_in (targets edge) l p q ≡ edge l p q
  edge-back l p q =
      same_test (edge_in (targets edge) l p q) (edge l p q)
      (λ e.
      let m = get_or (targets edge) (l * 8 + p) 0 in
      let hp : p < 8 = ltb-true p 8 (both_left (ltb p 8) (bit m q) e) in
      let hq : q < 8 = bit_below m q (both_right (ltb p 8) (bit m q) e) in
      sym (edge-within l p q (letter e (dec_lt l 8)) hp hq) ∙ e)
      (λ e. let w = within l p q e in edge-within l p q w.0 w.1 w.2 ∙ e)
    where
      letter : edge_in (targets edge) l p q ≡ true → Dec (l < 8) → l < 8
      letter e (yes h) = h
      letter e (no h) =
          absurd (clash (edge_in (targets edge) l p q) e (no_ninth_letter (targets edge) l p q (targets-length edge) (omega arith)))

-- the table that a table's masks and marks state is that table
pub unpacked : (t : T.Table) → InEight t → table_in (packed t) ≡ t
unfolding table_in packed
unpacked t h = λ i. record {
  controllers = t.controllers;
  worlds = t.worlds;
  outputs = t.outputs;
  inputs = t.inputs;
  starts = λ q. bit-back t.starts h.starts q i;
  controller_mark = λ q. mark-back t.controller_mark h.controller_marks q i;
  world_mark = λ q. mark-back t.world_mark h.world_marks q i;
  output_edge = λ l p q. edge-back t.output_edge h.output_edges l p q i;
  input_edge = λ l p q. edge-back t.input_edge h.input_edges l p q i;
}
