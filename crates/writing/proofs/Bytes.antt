-- The winners' bytes one by one: byte b is the count of state b % 8 of winner b / 8. By induction on the list. Assumes nothing.
use mathlib.Core.Path.{◌≡◌, ap, ◌∙◌}
use mathlib.Core.List.{List, [], ◌∷◌, flat_map}
use Prim.Native.Nat.{ℕ, suc, ◌+◌, ◌-◌, ◌*◌, ◌/◌, ◌%◌, ◌<◌}
use native.Mathlib.Decide.{dec_lt}
use native.Mathlib.Omega.{arith}
use lib.ListN.{length, get_or, get_or-append}
use lib.Seq.{get_or-append-add}
use Rattle.meaning.specs.Counting.{Position, count}
use Rattle.meaning.specs.Written.{position_bytes, winners_bytes}
use Rattle.meaning.proofs.Lists.{get_or-inside}
use Rattle.counts.specs.Words.{counts_in}
use Rattle.counts.proofs.Wide.{wide_length, wide_at}
use Rattle.lists.specs.Members.{positions}
use Rattle.lists.proofs.Members.{positions-length, positions-at}

-- the position that word i holds
pub position-counts : (all : List ℕ) (i : ℕ) → i < length all → get_or (positions all) i [] ≡ counts_in (get_or all i 0)
position-counts all i h =
    get_or-inside (positions all) i [] (counts_in 0) (omega (arith, positions-length all)) ∙ positions-at all i

-- byte b of the winners
pub bytes-at : (ws : List Position) (b : ℕ) → b < 8 * length ws → get_or (winners_bytes ws) b 0 ≡ count (get_or ws (b / 8) []) (b % 8)
unfolding winners_bytes flat_map
bytes-at [] b h = absurd (omega arith)
bytes-at (F ∷ ws) b h = go (dec_lt b 8) (bytes-at ws (b - 8))
  where
    go : Dec (b < 8) → (b - 8 < 8 * length ws → get_or (winners_bytes ws) (b - 8) 0 ≡ count (get_or ws ((b - 8) / 8) []) ((b - 8) % 8))
        → get_or (winners_bytes (F ∷ ws)) b 0 ≡ count (get_or (F ∷ ws) (b / 8) []) (b % 8)
    go (yes l) rest =
        let winner : b / 8 ≡ 0 = omega arith in
        let state : b % 8 ≡ b = omega arith in
        rw (winner, state) (get_or-append (position_bytes F) (winners_bytes ws) 0 b (rw (wide_length F) l) ∙ wide_at F b l)
    go (no l) rest =
        let winner : b / 8 ≡ suc ((b - 8) / 8) = omega arith in
        let state : b % 8 ≡ (b - 8) % 8 = omega arith in
        let past : b ≡ length (position_bytes F) + (b - 8) = omega (arith, wide_length F) in
        rw (winner, state)
        (ap (λ (i : ℕ). get_or (winners_bytes (F ∷ ws)) i 0) past
        ∙ get_or-append-add (position_bytes F) (winners_bytes ws) (b - 8) 0
        ∙ rest (omega arith))
