-- The lesser counts of two positions are the highest position below both, and widening to eight counts keeps them; and what the greater
-- counts are. Each is read off count by count. Assumes nothing.
use mathlib.Core.Path.{◌≡◌, sym, ◌∙◌}
use mathlib.Core.Bool.{true}
use Prim.Native.Nat.{ℕ, ◌≤◌, ◌<◌, max, min}
use native.Mathlib.Decide.{dec_lt}
use native.Mathlib.Omega.{arith}
use lib.ListN.{length}
use Rattle.meaning.specs.Counting.{Position, count, below}
use Rattle.meaning.specs.Written.{position_bytes}
use Rattle.meaning.proofs.Lists.{tab-length, tab-at, tab_beyond}
use Rattle.meaning.proofs.Steps.{count_beyond, same-counts, below_at, below_of, below_trans}
use Rattle.counts.specs.Halves.{lesser_counts, greater_counts}
use Rattle.counts.proofs.Wide.{wide_at, wide_length}

-- lesser counts
pub lesser_length : (F G : Position) → length (lesser_counts F G) ≡ length F
unfolding lesser_counts
lesser_length F G = tab-length (length F) _

pub lesser_at : (F G : Position) (q : ℕ) → count (lesser_counts F G) q ≡ min (count F q) (count G q)
unfolding lesser_counts
lesser_at F G q = go (dec_lt q (length F))
  where
    go : Dec (q < length F) → count (lesser_counts F G) q ≡ min (count F q) (count G q)
    go (yes l) = tab-at (length F) _ q 0 l
    go (no l) =
        let h : length F ≤ q = omega arith in
        omega (arith, tab_beyond (length F) (λ i. min (count F i) (count G i)) q 0 h, count_beyond F q h)

pub lesser_left : (F G : Position) → below (lesser_counts F G) F ≡ true
lesser_left F G = below_of (lesser_counts F G) F (λ q l. omega (arith, lesser_at F G q))

pub lesser_right : (F G : Position) → below (lesser_counts F G) G ≡ true
lesser_right F G = below_of (lesser_counts F G) G (λ q l. omega (arith, lesser_at F G q))

pub lesser_of : (F G H : Position) → below H F ≡ true → below H G ≡ true → below H (lesser_counts F G) ≡ true
lesser_of F G H b c = below_of H (lesser_counts F G) (λ q l. omega (arith, lesser_at F G q, below_at H F b q, below_at H G c q))

pub lesser_mono : (F G H : Position) → below G H ≡ true → below (lesser_counts F G) (lesser_counts F H) ≡ true
lesser_mono F G H b =
    lesser_of F H (lesser_counts F G) (lesser_left F G) (below_trans (lesser_counts F G) G H (lesser_right F G) b)

-- and widening keeps them
pub wide_lesser : (F G : Position) → position_bytes (lesser_counts F G) ≡ lesser_counts (position_bytes F) (position_bytes G)
wide_lesser F G =
    same-counts (position_bytes (lesser_counts F G)) (lesser_counts (position_bytes F) (position_bytes G))
    (wide_length (lesser_counts F G) ∙ sym (wide_length F) ∙ sym (lesser_length (position_bytes F) (position_bytes G)))
    (λ q l. let k : q < 8 = rw (wide_length (lesser_counts F G)) at l in
    omega (
      arith,
      wide_at (lesser_counts F G) q k,
      lesser_at F G q,
      lesser_at (position_bytes F) (position_bytes G) q,
      wide_at F q k,
      wide_at G q k,
    ))

-- greater counts
pub greater-length : (F G : Position) → length (greater_counts F G) ≡ length F
unfolding greater_counts
greater-length F G = tab-length (length F) _

pub greater-at : (F G : Position) → length F ≡ length G → (q : ℕ) → count (greater_counts F G) q ≡ max (count F q) (count G q)
unfolding greater_counts
greater-at F G same q = go (dec_lt q (length F))
  where
    go : Dec (q < length F) → count (greater_counts F G) q ≡ max (count F q) (count G q)
    go (yes l) = tab-at (length F) _ q 0 l
    go (no l) =
        let h : length F ≤ q = omega arith in
        let k : length G ≤ q = omega arith in
        omega (arith, tab_beyond (length F) (λ i. max (count F i) (count G i)) q 0 h, count_beyond F q h, count_beyond G q k)
