-- A table whose records are within the limits and whose states are numbered in turn, as checks 5 and 7 find out, has at most eight states a
-- side and eight letters: no limit is over 7. So its masks and marks state the table itself. Assumes nothing.
use mathlib.Core.Path.{◌≡◌, ap, ◌∙◌}
use mathlib.Core.Bool.{true}
use mathlib.Core.List.{List, Memᴰ}
use Prim.Native.Nat.{ℕ, ◌≤◌, ◌<◌}
use native.Mathlib.Omega.{arith}
use lib.ListN.{length, get_or-eq_default}
use Rattle.meaning.specs.Records.{Record, records_of, at, blank, of_kind, controller, world, output, input}
use Rattle.meaning.specs.Table.{table_of, mark_of, starts_of, edge_of, start_in, mark_in}
use Rattle.meaning.specs.Checks.{table_checks, Passes}
use Rattle.meaning.proofs.Records.{edge_record, edge-member, Inside, inside-bytes}
use Rattle.meaning.proofs.Sound.{Numbered, states-top, passes_sound}
use Rattle.table.specs.declared.Table.{Table}
use Rattle.table.specs.Packed.{table_in, packed}
use Rattle.table.proofs.Unpacked.{InEight, unpacked}

module _ (rs : List Record) (within : (r : Record) → Memᴰ r rs → Inside r) where
  -- an edge joins two of eight states on one of eight letters
  near_edges : (kind l p q : ℕ) → edge_of kind rs l p q ≡ true → (l < 8) × (p < 8) × (q < 8)
  near_edges kind l p q e =
      let edge = edge_record kind l p q in
      let low = inside-bytes edge (within edge (edge-member kind rs l p q e)) in
      omega (arith, low.0, low.1, low.2)

  module _ (controllers : Numbered (of_kind controller rs)) (worlds : Numbered (of_kind world rs)) where
    pub in_eight : InEight (table_of rs)
    unfolding table_of starts_of start_in mark_of mark_in
    in_eight =
        let beyond : (kind : ℕ) → length (of_kind kind rs) ≤ 8 → (q : ℕ) → 8 ≤ q → at (of_kind kind rs) q ≡ blank =
        λ kind few q h. get_or-eq_default (of_kind kind rs) blank (omega arith) in
        let controller-beyond = beyond controller (states-top controller rs within controllers) in
        let world-beyond = beyond world (states-top world rs within worlds) in
        record {
          starts = λ q h. ap start_in (controller-beyond q h);
          controller_marks = λ q h. ap mark_in (controller-beyond q h);
          world_marks = λ q h. ap mark_in (world-beyond q h);
          output_edges = near_edges output;
          input_edges = near_edges input;
        }

    -- the table that masks and marks state is that of the records
    pub checked_table : table_in (packed (table_of rs)) ≡ table_of rs
    checked_table = unpacked (table_of rs) in_eight

-- and so of what is read from any bytes that pass 4 to 10
pub good-table : (which : ℕ) (bytes : List ℕ) (t : Table) → t ≡ packed (table_of (records_of bytes)) → Passes (table_checks which bytes)
    → table_in t ≡ table_of (records_of bytes)
good-table which bytes t e p =
    let s = passes_sound which bytes p in ap table_in e ∙ checked_table (records_of bytes) s.within s.controllers s.worlds
