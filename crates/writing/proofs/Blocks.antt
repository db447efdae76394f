-- The controller's buffer while the rows are written state by state: the blocks of the first b states are there, and what is beyond them
-- stays. A block takes 4 bytes for each of at most 8 inputs. Assumes nothing.
use mathlib.Core.Path.{◌≡◌, sym, ap, ◌∙◌}
use mathlib.Core.Bool.{cond}
use mathlib.Core.List.{List, [], ◌∷◌, ◌++◌, flat_map}
use Prim.Native.Nat.{ℕ, zero, suc, ◌+◌, ◌-◌, ◌*◌, ◌≤◌, ◌<◌}
use native.Mathlib.Numerals.{add-one}
use native.Mathlib.Omega.{arith}
use Rattle.std.proofs.Math.Nat.{mul-le-mul_left}
use lib.Dec.{eqb, leb}
use lib.ListN.{length, take, drop, length-append}
use Rattle.meaning.specs.Lists.{tab, written}
use Rattle.meaning.specs.Table.{Table}
use Rattle.meaning.specs.Counting.{Position, covered}
use Rattle.meaning.specs.Written.{Row, row_bytes, rows_of_state, rows_from}
use Rattle.meaning.proofs.Tests.{cond_cases}
use Rattle.meaning.proofs.Stores.{tab-more, written_part}
use Rattle.meaning.proofs.Lists.{flat_map-append, flat_map-more}
use Rattle.writing.specs.Playable.{state_at}
use Rattle.writing.proofs.Rows.{row_on, rows_on, rows-length}
use Rattle.writing.proofs.Orders.{order_tab}

-- each block is that of one of the states
pub state-inside : (start number b : ℕ) → start < number → b < number → state_at start b < number
unfolding state_at
state-inside start number b s l =
    cond_cases (eqb b 0) start (cond (leb b start) (b - 1) b) (λ r. r < number) (λ _. s)
    (λ _. cond_cases (leb b start) (b - 1) b (λ r. r < number) (λ _. omega arith) (λ _. l))

-- b blocks of at most eight rows take at most 32 bytes each
pub blocks_fit : (b inputs : ℕ) → inputs ≤ 8 → b * inputs * 4 ≤ 32 * b
blocks_fit b inputs few = omega (arith, mul-le-mul_left b few)

module _ (K : ℕ) (t : Table) (ws : List Position) (start : ℕ) where
  -- the bytes of one state's rows, and of the first b in their order
  abbrev pub block : ℕ → List ℕ
  block s = row_bytes (rows_of_state K t (covered ws) ws s)

  abbrev pub blocks : ℕ → List ℕ
  blocks b = row_bytes (flat_map (rows_of_state K t (covered ws) ws) (tab b (state_at start)))

  block-length : (s : ℕ) → length (block s) ≡ t.inputs * 4
  block-length s = ap (λ (rows : List Row). length (row_bytes rows)) (rows_on K t ws s) ∙ rows-length (row_on K t ws s) t.inputs

  blocks_more : (b : ℕ) → blocks (b + 1) ≡ blocks b ++ block (state_at start b)
  unfolding row_bytes
  blocks_more b =
      ap (λ (states : List ℕ). row_bytes (flat_map (rows_of_state K t (covered ws) ws) states)) (tab-more b (state_at start))
      ∙ ap row_bytes (flat_map-more (rows_of_state K t (covered ws) ws) (tab b (state_at start)) (state_at start b))
      ∙ flat_map-append (λ (r : Row). r.state ∷ r.output ∷ r.input ∷ r.next ∷ []) _ (rows_of_state K t (covered ws) ws (state_at start b))

  pub blocks-whole : start < length ws → blocks (length ws) ≡ row_bytes (rows_from K t (covered ws) ws start)
  unfolding rows_from
  blocks-whole h = ap (λ (states : List ℕ). row_bytes (flat_map (rows_of_state K t (covered ws) ws) states))
      (sym (order_tab start (length ws) h))

  pub blocks-length : (b : ℕ) → length (blocks b) ≡ b * t.inputs * 4
  unfolding row_bytes flat_map
  blocks-length zero = omega arith
  blocks-length (suc b) =
      ap (λ (n : ℕ). length (blocks n)) (sym (add-one b)) ∙ ap length (blocks_more b) ∙ length-append (blocks b) (block (state_at start b))
      ∙ omega (arith, blocks-length b, block-length (state_at start b))

  -- the buffer after one block more
  pub blocks-next : (old : List ℕ) (b state : ℕ) (controller part : List ℕ) → controller ≡ written (blocks b) old → state ≡ state_at start b
      → part ≡ written (block state) (take (length controller - b * t.inputs * 4) (drop (b * t.inputs * 4) controller))
      → take (b * t.inputs * 4) controller
      ++ (part ++ drop (length controller - b * t.inputs * 4) (drop (b * t.inputs * 4) controller))
      ≡ written (blocks (b + 1)) old
  blocks-next old b state controller part before e p =
      written_part old (blocks b) (block state) controller part (b * t.inputs * 4) (blocks-length b) before p
      ∙ ap (λ (l : List ℕ). written l old) (ap (λ (s : ℕ). blocks b ++ block s) e ∙ sym (blocks_more b))
