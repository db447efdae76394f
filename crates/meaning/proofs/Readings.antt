-- Reading back what a call wrote: winner number i from the winners' bytes, and the rows from the controller's bytes. Each winner takes 8
-- bytes, so number i begins at byte 8 i; its first bytes are its counts.
use mathlib.Core.Path.{◌≡◌, ap, ◌∙◌}
use mathlib.Core.List.{List, [], ◌∷◌, ◌++◌, flat_map, append_assoc}
use Prim.Native.Nat.{ℕ, zero, suc, ◌+◌, ◌*◌, ◌≤◌, ◌<◌}
use native.Mathlib.Nat.{le_of_suc-le-suc, not-suc-le-zero}
use native.Mathlib.Omega.{arith}
use lib.ListN.{length, get_or, take, drop, length-take}
use lib.Seq.{take_at, take-append-le, drop-append-add, get_or-take, ext_get_or}
use Rattle.meaning.specs.Lists.{written}
use Rattle.meaning.specs.Table.{Table}
use Rattle.meaning.specs.Counting.{Position, count}
use Rattle.meaning.specs.Rounds.{Set, positions, maximal, maximal_members, winning}
use Rattle.meaning.specs.Written.{winners, position_bytes, winners_bytes, Row, row_bytes}
use Rattle.meaning.specs.Play.{rows_in}
use Rattle.meaning.specs.Calls.{winner_in}
use Rattle.meaning.proofs.Lists.{tab-at, member-at, keep-member}
use Rattle.meaning.proofs.Positions.{all_safe-length, positions-safe}
use Rattle.meaning.proofs.Rows.{rows_back}
use Rattle.meaning.proofs.Buffers.{position_bytes_lem, rows-bytes}

-- each winner is a position of the table
pub winner_length : (K : ℕ) (t : Table) (X : Set) (i : ℕ) → i < length (winners K t X) → length (get_or (winners K t X) i [])
    ≡ t.controllers
unfolding winners maximal_members
winner_length K t X i h =
    let n = t.controllers in
    let F = get_or (winners K t X) i [] in
    all_safe-length K n F
    (positions-safe K n F (keep-member (maximal K n (winning K t X)) (positions K n) F (member-at (winners K t X) i [] h)))

-- a position's bytes are its counts
pub bytes-at : (F : Position) (q : ℕ) → q < 8 → get_or (position_bytes F) q 0 ≡ count F q
unfolding position_bytes
bytes-at F q h = tab-at 8 (count F) q 0 h

-- a position's bytes begin with its counts
pub position_read : (n : ℕ) (F : Position) (rest : List ℕ) → length F ≡ n → n ≤ 8 → take n (position_bytes F ++ rest) ≡ F
position_read n F rest e few =
    let size = position_bytes_lem F in
    take-append-le n (position_bytes F) rest (omega arith)
    ∙ ext_get_or 0 (take n (position_bytes F)) F (omega (arith, length-take n (position_bytes F)))
    (λ q l.
    let h : q < n = omega (arith, length-take n (position_bytes F)) in
    get_or-take n (position_bytes F) q 0 h ∙ bytes-at F q (omega arith))

-- the bytes from byte 8 i on are those of position number i and of the ones after it
pub block_read : (ws : List Position) (rest : List ℕ) (i : ℕ) → i < length ws
    → (after : List ℕ) × (drop (i * 8) (winners_bytes ws ++ rest) ≡ position_bytes (get_or ws i []) ++ after)
unfolding winners_bytes flat_map
block_read [] rest i h = absurd (not-suc-le-zero h)
block_read (F ∷ ws) rest zero h = (winners_bytes ws ++ rest, append_assoc (position_bytes F) (winners_bytes ws) rest)
block_read (F ∷ ws) rest (suc i) h =
    let b = block_read ws rest i (le_of_suc-le-suc h) in
    let skip : suc i * 8 ≡ length (position_bytes F) + i * 8 = omega (arith, position_bytes_lem F) in (
      b.0,
      rw (append_assoc, skip) (drop-append-add (position_bytes F) (winners_bytes ws ++ rest) (i * 8) ∙ b.1),
    )

pub winner_read : (K : ℕ) (t : Table) (X : Set) (win : List ℕ) → t.controllers ≤ 8 → (i : ℕ) → i < length (winners K t X)
    → winner_in t.controllers (written (winners_bytes (winners K t X)) win) i ≡ get_or (winners K t X) i []
winner_read K t X win few i h =
    let ws = winners K t X in
    let b = block_read ws (drop (length (winners_bytes ws)) win) i h in
    ap (take t.controllers) b.1 ∙ position_read t.controllers (get_or ws i []) b.0 (winner_length K t X i h) few

pub rows-read : (rows : List Row) (con : List ℕ) → rows_in (take (length rows * 4) (written (row_bytes rows) con)) ≡ rows
rows-read rows con =
    ap rows_in (take_at (row_bytes rows) (drop (length (row_bytes rows)) con) (length rows * 4) (rows-bytes rows)) ∙ rows_back rows
