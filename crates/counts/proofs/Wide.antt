-- A position of at most eight states, widened to eight counts: it has the same counts, so every definition that reads counts alone says
-- the same of both, and widening loses nothing. A word w with `counts_in w ≡ position_bytes F` stands for F: these laws carry what the code
-- gives for w over to F. By the laws of a tab; the order of byte strings by induction. Assumes nothing.
use mathlib.Core.Path.{◌≡◌, sym, ap, ◌∙◌}
use mathlib.Core.Bool.{Bool, false, cond, ◌&&◌, ◌||◌}
use mathlib.Core.List.{[], ◌∷◌}
use Prim.Native.Nat.{ℕ, zero, suc, ◌+◌, ◌-◌, ◌≤◌, ◌<◌}
use native.Mathlib.Nat.{le_of_suc-le-suc, not-suc-le-zero}
use native.Mathlib.Decide.{dec_lt}
use native.Mathlib.Omega.{arith}
use lib.Dec.{ltb, eqb}
use lib.ListN.{length}
use Rattle.meaning.specs.Lists.{before, smallest, tab}
use Rattle.meaning.specs.Table.{Half}
use Rattle.meaning.specs.Counting.{Position, count, below, forward, back}
use Rattle.meaning.specs.Written.{position_bytes}
use Rattle.meaning.proofs.Tests.{refuted, largest-same, smallest-top, smallest-same, same_test}
use Rattle.meaning.proofs.Lists.{tab-length, tab-at, tab_beyond, tab-same}
use Rattle.meaning.proofs.Ascending.{before_irrefl}
use Rattle.meaning.proofs.Steps.{count_beyond, same-counts, below_at, below_of, back-length, back_at}
use Rattle.meaning.proofs.Buffers.{position_bytes_lem}
use Rattle.meaning.proofs.Readings.{bytes-at}
use Rattle.counts.specs.Halves.{back_under}

-- its length and its counts
pub wide_length : (F : Position) → length (position_bytes F) ≡ 8
wide_length = position_bytes_lem

pub wide_at : (F : Position) (q : ℕ) → q < 8 → count (position_bytes F) q ≡ count F q
wide_at = bytes-at

-- from 8 on neither has a run
pub wide_count : (F : Position) → length F ≤ 8 → (q : ℕ) → count (position_bytes F) q ≡ count F q
wide_count F few q = go (dec_lt q 8)
  where
    go : Dec (q < 8) → count (position_bytes F) q ≡ count F q
    go (yes l) = wide_at F q l
    go (no l) = count_beyond (position_bytes F) q (rw (wide_length F) (omega arith)) ∙ sym (count_beyond F q (omega arith))

pub wide_counts : (F G : Position) → ((q : ℕ) → q < 8 → count F q ≡ count G q) → position_bytes F ≡ position_bytes G
unfolding position_bytes
wide_counts F G e = tab-same 8 (count F) (count G) e

pub wide_of_wide : (F : Position) → position_bytes (position_bytes F) ≡ position_bytes F
wide_of_wide F = wide_counts (position_bytes F) F (wide_at F)

-- the position is known from its eight counts and its length
pub wide_same : (F G : Position) → position_bytes F ≡ position_bytes G → length F ≡ length G → length F ≤ 8 → F ≡ G
wide_same F G e same few =
    same-counts F G same (λ q _. sym (wide_count F few q) ∙ ap (λ (H : Position). count H q) e ∙ wide_count G (rw (sym same) few) q)

-- tests and steps read counts alone: positions with the same counts are alike to them
pub below-counts : (F F' G G' : Position) → ((q : ℕ) → count F q ≡ count F' q) → ((q : ℕ) → count G q ≡ count G' q)
    → below F G ≡ below F' G'
below-counts F F' G G' f g =
    same_test (below F G) (below F' G')
    (λ b. below_of F' G' (λ q _. rw (← f q, ← g q) (below_at F G b q)))
    (λ b. below_of F G (λ q _. rw (f q, g q) (below_at F' G' b q)))

pub forward-counts : (K : ℕ) (h : Half) (F G : Position) → ((q : ℕ) → count F q ≡ count G q) → forward K h F ≡ forward K h G
unfolding forward
forward-counts K h F G e = tab-same h.targets _ _ (λ q _. largest-same h.sources _ _ (λ p _. rw (e p)))

-- a step back reads the counts of its targets alone
pub back_reads : (K : ℕ) (h : Half) (F G : Position) → ((q : ℕ) → q < h.targets → count F q ≡ count G q) → back K h F ≡ back K h G
unfolding back
back_reads K h F G e = tab-same h.sources _ _ (λ p _. smallest-same (K + 1) h.targets _ _ (λ q l. rw (e q l)))

pub back-counts : (K : ℕ) (h : Half) (F G : Position) → ((q : ℕ) → count F q ≡ count G q) → back K h F ≡ back K h G
back-counts K h F G e = back_reads K h F G (λ q _. e q)

-- under the one maximal safe position, in eight counts, the step back is the definition's, in eight counts
module _ (K : ℕ) (h : Half) (F : Position) where
  -- what p has under a top
  abbrev least : ℕ → ℕ → ℕ
  least top p = smallest top h.targets (λ q. cond (h.edge p q) (count F q - h.mark q) top)

  least-back : (p : ℕ) → Dec (p < h.sources) → least (count (tab h.sources (λ _. K + 1)) p) p ≡ count (back K h F) p
  least-back p (yes l) = rw (tab-at h.sources (λ _. K + 1) p 0 l) (sym (back_at K h F p l))
  least-back p (no l) =
      let beyond : h.sources ≤ p = omega arith in
      let none : count (back K h F) p ≡ 0 = count_beyond (back K h F) p (rw (back-length K h F) beyond) in
      rw (tab_beyond h.sources (λ _. K + 1) p 0 beyond)
      (omega (arith, smallest-top 0 h.targets (λ q. cond (h.edge p q) (count F q - h.mark q) 0)))

  pub back_under_brim : back_under (position_bytes (tab h.sources (λ _. K + 1))) h F ≡ position_bytes (back K h F)
  unfolding back_under
  back_under_brim =
      let top = tab h.sources (λ _. K + 1) in
      let long = wide_length top in
      let under : ℕ → ℕ = λ p. least (count (position_bytes top) p) p in
      let short : length (tab (length (position_bytes top)) under) ≡ 8 = tab-length (length (position_bytes top)) under ∙ long in
      same-counts (tab (length (position_bytes top)) under) (position_bytes (back K h F)) (short ∙ sym (wide_length (back K h F)))
      (λ p b. let l : p < 8 = rw short at b in
      tab-at (length (position_bytes top)) under p 0 (rw long l)
      ∙ ap (λ c. least c p) (wide_at top p l) ∙ least-back p (dec_lt p h.sources) ∙ sym (wide_at (back K h F) p l))

-- so they do not see that a position was widened
pub below_wide : (F G : Position) → length F ≤ 8 → length G ≤ 8 → below (position_bytes F) (position_bytes G) ≡ below F G
below_wide F G f g = below-counts (position_bytes F) F (position_bytes G) G (wide_count F f) (wide_count G g)

pub forward_wide : (K : ℕ) (h : Half) (F : Position) → length F ≤ 8 → forward K h (position_bytes F) ≡ forward K h F
forward_wide K h F f = forward-counts K h (position_bytes F) F (wide_count F f)

pub back_wide_lem : (K : ℕ) (h : Half) (F : Position) → length F ≤ 8 → back K h (position_bytes F) ≡ back K h F
back_wide_lem K h F f = back-counts K h (position_bytes F) F (wide_count F f)

-- no position comes before itself
pub before-itself : (F : Position) → before F F ≡ false
before-itself F = refuted (before F F) (before_irrefl F)

-- widening keeps the order of a side's positions: they differ within the side or not at all
pub before_wide : (F G : Position) → length F ≡ length G → length F ≤ 8 → before (position_bytes F) (position_bytes G) ≡ before F G
unfolding position_bytes before
before_wide F G e few = go 8 F G e few
  where
    go : (n : ℕ) (F G : Position) → length F ≡ length G → length F ≤ n → before (tab n (count F)) (tab n (count G)) ≡ before F G
    go n [] [] e l = before-itself (tab n (count []))
    go n [] (d ∷ G) e l = absurd (let none : 0 ≡ suc (length G) = e in omega arith)
    go n (c ∷ F) [] e l = absurd (let none : suc (length F) ≡ 0 = e in omega arith)
    go zero (c ∷ F) (d ∷ G) e l = absurd (not-suc-le-zero l)
    go (suc n) (c ∷ F) (d ∷ G) e l =
        let same : suc (length F) ≡ suc (length G) = e in
        ap (λ (rest : Bool). ltb c d || eqb c d && rest) (go n F G (omega arith) (le_of_suc-le-suc l))
