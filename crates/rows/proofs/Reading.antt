-- Which bytes row number i is made of, and that a state and a next state read from bytes are below 256. By the laws of records. Assumes
-- nothing.
use mathlib.Core.Path.{◌≡◌, ap, ◌∙◌}
use mathlib.Core.List.{List}
use Prim.Native.Nat.{ℕ, ◌+◌, ◌*◌, ◌/◌, ◌≤◌, ◌<◌}
use native.Mathlib.Decide.{dec_lt}
use native.Mathlib.Omega.{arith}
use lib.ListN.{length, get_or}
use Rattle.meaning.specs.Play.{rows_in, row}
use Rattle.meaning.proofs.Records.{records_at, records_beyond}
use Rattle.meaning.proofs.Lookups.{no_row}
use Rattle.meaning.proofs.Formed.{row_from, row_from_lem}

pub row_read : (bytes : List ℕ) (i : ℕ) → i < length bytes / 4
    → row (rows_in bytes) i ≡ record {
      state = get_or bytes (4 * i) 0;
      output = get_or bytes (4 * i + 1) 0;
      input = get_or bytes (4 * i + 2) 0;
      next = get_or bytes (4 * i + 3) 0;
    }
row_read bytes i h = row_from_lem bytes i ∙ ap row_from (records_at bytes i h)

pub row_beyond : (bytes : List ℕ) (i : ℕ) → length bytes / 4 ≤ i → row (rows_in bytes) i ≡ no_row
row_beyond bytes i h = row_from_lem bytes i ∙ ap row_from (records_beyond bytes i h)

-- of a row of bytes, a state and a next state are below 256
pub row-low : (bytes : List ℕ) → ((j : ℕ) → get_or bytes j 0 < 256) → (i : ℕ)
    → ((row (rows_in bytes) i).state < 256) × ((row (rows_in bytes) i).next < 256)
row-low bytes low i = go (dec_lt i (length bytes / 4))
  where
    go : Dec (i < length bytes / 4) → ((row (rows_in bytes) i).state < 256) × ((row (rows_in bytes) i).next < 256)
    go (yes l) = rw (row_read bytes i l) (low (4 * i), low (4 * i + 3))
    go (no l) = rw (row_beyond bytes i (omega arith)) (omega arith, omega arith)
