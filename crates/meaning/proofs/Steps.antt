-- Positions and steps, over any K, half and marks: below is an order, safe goes down, forward is monotone, and forward H is below F
-- exactly if H is below back F. A count of forward is the smallest that all its edges' counts fit under (`forward-brings`,
-- `forward_under`), and one of back the largest that fits under all its edges' (`back_fits`, `back-over`); what is left is about one edge,
-- and there the step back undoes the step forward (`plus_minus`).
use mathlib.Core.Path.{◌≡◌, refl, sym, ◌∙◌, subst⁻¹}
use mathlib.Core.Logic.{⊎_elim, ◌↔◌}
use mathlib.Core.Bool.{Bool, true, false, cond}
use Prim.Native.Nat.{ℕ, zero, suc, ◌+◌, ◌-◌, ◌≤◌, ◌<◌, zero-le}
use native.Mathlib.Nat.{eq-zero-or-pos, le_refl, le_trans, le_antisymm, not-suc-le-zero}
use native.Mathlib.Decide.{dec_lt}
use native.Mathlib.Omega.{arith}
use lib.ListN.{length, length-replicate, get_or-eq_default}
use lib.Seq.{ext_get_or}
use borrow.Author.Tests.{leb-true, le-leb}
use Rattle.meaning.specs.Lists.{largest, smallest}
use Rattle.meaning.specs.Table.{Half}
use Rattle.meaning.specs.Counting.{Position, nowhere, count, plus, forward, safe, below, back}
use Rattle.meaning.proofs.Restated.{brings, allows}
use Rattle.meaning.proofs.Tests.{cond_cases, each_at, each_of, largest-at, largest-of, largest_is, smallest-top, smallest-at}
use Rattle.meaning.proofs.Tests.{smallest-of}
use Rattle.meaning.proofs.Lists.{tab-length, tab-at}

pub count-nowhere : (n q : ℕ) → count (nowhere n) q ≡ 0
count-nowhere zero q = refl
count-nowhere (suc n) zero = refl
count-nowhere (suc n) (suc q) = count-nowhere n q

-- a count beyond the side's states is 0: no run is there
pub count_beyond : (F : Position) (q : ℕ) → length F ≤ q → count F q ≡ 0
count_beyond F q h = get_or-eq_default F 0 h

-- what holds of every count within the side, and of 0 beyond it, holds of every count
pub every-count : (F : Position) (P : ℕ → ℕ → Type 0) → ((q : ℕ) → P q 0) → ((q : ℕ) → q < length F → P q (count F q))
    → (q : ℕ) → P q (count F q)
every-count F P beyond within q = go (dec_lt q (length F))
  where
    go : Dec (q < length F) → P q (count F q)
    go (yes l) = within q l
    go (no l) = subst⁻¹ (P q) (count_beyond F q (omega arith)) (beyond q)

-- where a run is, there is a state
pub run-within : (F : Position) (q : ℕ) → 0 < count F q → q < length F
run-within F = every-count F (λ q c. 0 < c → q < length F) (λ q c. absurd (not-suc-le-zero c)) (λ q l c. l)

-- two positions with the same counts are equal
pub same-counts : (F G : Position) → length F ≡ length G → ((q : ℕ) → q < length F → count F q ≡ count G q) → F ≡ G
same-counts F G e p = ext_get_or 0 F G e p

-- below: a test of the side's counts, and so of every count
pub below_at : (F G : Position) → below F G ≡ true → (q : ℕ) → count F q ≤ count G q
unfolding below
below_at F G b =
    every-count F (λ q c. c ≤ count G q) (λ q. zero-le)
    (λ q l. leb-true (count F q) (count G q) (each_at (length F) _ b q l))

pub below_of : (F G : Position) → ((q : ℕ) → q < length F → count F q ≤ count G q) → below F G ≡ true
unfolding below
below_of F G p = each_of (length F) _ (λ q l. le-leb (count F q) (count G q) (p q l))

pub below_refl : (F : Position) → below F F ≡ true
below_refl F = below_of F F (λ q l. le_refl (count F q))

pub below_trans : (F G H : Position) → below F G ≡ true → below G H ≡ true → below F H ≡ true
below_trans F G H b c = below_of F H (λ q l. le_trans (below_at F G b q) (below_at G H c q))

pub below_antisym : (F G : Position) → length F ≡ length G → below F G ≡ true → below G F ≡ true → F ≡ G
below_antisym F G e b c = same-counts F G e (λ q l. le_antisymm (below_at F G b q) (below_at G F c q))

-- safe: likewise
pub safe_at : (K : ℕ) (F : Position) → safe K F ≡ true → (q : ℕ) → count F q ≤ K + 1
unfolding safe
safe_at K F s =
    every-count F (λ q c. c ≤ K + 1) (λ q. zero-le)
    (λ q l. leb-true (count F q) (K + 1) (each_at (length F) _ s q l))

pub safe-of : (K : ℕ) (F : Position) → ((q : ℕ) → q < length F → count F q ≤ K + 1) → safe K F ≡ true
unfolding safe
safe-of K F p = each_of (length F) _ (λ q l. le-leb (count F q) (K + 1) (p q l))

-- only states that have a count matter to safety
pub safe_where : (K : ℕ) (F : Position) → ((q : ℕ) → 0 < count F q → count F q ≤ K + 1) → safe K F ≡ true
safe_where K F p = safe-of K F (λ q _. ⊎_elim (λ (e : count F q ≡ 0). omega arith) (λ c. p q c) (eq-zero-or-pos (count F q)))

pub safe-down : (K : ℕ) (F G : Position) → below F G ≡ true → safe K G ≡ true → safe K F ≡ true
safe-down K F G b s = safe-of K F (λ q l. le_trans (below_at F G b q) (safe_at K G s q))

pub safe-nowhere : (K n : ℕ) → safe K (nowhere n) ≡ true
safe-nowhere K n = safe-of K (nowhere n) (λ q l. rw (count-nowhere n q) zero-le)

-- one count
pub plus_mono : (K mark c d : ℕ) → c ≤ d → plus K mark c ≤ plus K mark d
unfolding plus
plus_mono K mark zero d h = zero-le
plus_mono K mark (suc c) zero h = absurd (not-suc-le-zero h)
plus_mono K mark (suc c) (suc d) h = omega arith

-- at most the sum of the count and the mark
pub plus-most : (K mark c : ℕ) → plus K mark c ≤ c + mark
unfolding plus
plus-most K mark zero = omega arith
plus-most K mark (suc c) = omega arith

-- a safe sum is not capped
pub plus-exact : (K mark c : ℕ) → 0 < c → c + mark ≤ K + 1 → plus K mark c ≡ c + mark
unfolding plus
plus-exact K mark zero h l = absurd (not-suc-le-zero h)
plus-exact K mark (suc c) h l = omega arith

-- and a safe result is no capped sum
pub plus-safe : (K mark c : ℕ) → 0 < c → plus K mark c ≤ K + 1 → c + mark ≤ K + 1
unfolding plus
plus-safe K mark zero h l = absurd (not-suc-le-zero h)
plus-safe K mark (suc c) h l = omega arith

-- a safe result came from a safe count
pub plus-from-safe : (K mark c : ℕ) → plus K mark c ≤ K + 1 → c ≤ K + 1
plus-from-safe K mark zero l = zero-le
plus-from-safe K mark (suc c) l = omega (arith, plus-safe K mark (suc c) (omega arith) l)

-- the step back undoes one count's step forward: c plus the mark fits under d exactly if c fits under d less the mark
pub plus_minus : (K mark c d : ℕ) → d ≤ K + 1 → (plus K mark c ≤ d) ↔ (c ≤ d - mark)
unfolding plus
plus_minus K mark zero d h = ((λ _. zero-le), (λ _. zero-le))
plus_minus K mark (suc c) d h = ((λ l. omega arith), (λ l. omega arith))

-- -1 stays -1, and only a run brings a run
pub plus_none : (K mark : ℕ) → plus K mark 0 ≡ 0
unfolding plus
plus_none K mark = refl

pub plus-run : (K mark c : ℕ) → 0 < plus K mark c → 0 < c
unfolding plus
plus-run K mark zero l = l
plus-run K mark (suc c) l = omega arith

-- a run came over an edge
pub run-over-edge : (b : Bool) (x : ℕ) → 0 < cond b x 0 → (b ≡ true) × (cond b x 0 ≡ x)
run-over-edge true x c = (refl, refl)
run-over-edge false x c = absurd (not-suc-le-zero c)

-- forward
pub forward-length : (K : ℕ) (h : Half) (F : Position) → length (forward K h F) ≡ h.targets
unfolding forward
forward-length K h F = tab-length h.targets _

pub forward-at : (K : ℕ) (h : Half) (F : Position) (q : ℕ) → q < h.targets
    → count (forward K h F) q ≡ largest h.sources (brings K h F q)
unfolding forward
forward-at K h F q l = tab-at h.targets _ q 0 l

-- each edge brings its source's count to its target
pub forward-brings : (K : ℕ) (h : Half) (F : Position) (p q : ℕ) → p < h.sources → q < h.targets → h.edge p q ≡ true
    → plus K (h.mark q) (count F p) ≤ count (forward K h F) q
forward-brings K h F p q lp lq e = rw (forward-at K h F q lq) (rw e at (largest-at h.sources (brings K h F q) p lp))

-- and what all of them fit under, that target's count does too
pub forward_under : (K : ℕ) (h : Half) (F : Position) (q b : ℕ) → q < h.targets
    → ((p : ℕ) → p < h.sources → h.edge p q ≡ true → plus K (h.mark q) (count F p) ≤ b) → count (forward K h F) q ≤ b
forward_under K h F q b lq fits =
    rw (forward-at K h F q lq)
    (largest-of h.sources (brings K h F q) b
    (λ p lp. cond_cases (h.edge p q) (plus K (h.mark q) (count F p)) 0 (λ c. c ≤ b) (fits p lp) (λ _. zero-le)))

-- a run there came over some edge
pub forward-came : (K : ℕ) (h : Half) (F : Position) (q : ℕ) → 0 < count (forward K h F) q
    → (p : ℕ) × (p < h.sources) × (q < h.targets) × (h.edge p q ≡ true) × (0 < count F p)
    × (count (forward K h F) q ≡ plus K (h.mark q) (count F p))
forward-came K h F q c =
    let lq : q < h.targets = rw (forward-length K h F) at (run-within (forward K h F) q c) in
    let e = forward-at K h F q lq in
    let r = largest_is h.sources (brings K h F q) (omega arith) in
    let p = r.0 in
    let came = run-over-edge (h.edge p q) (plus K (h.mark q) (count F p)) (omega arith) in
    (p, r.1, lq, came.0, plus-run K (h.mark q) (count F p) (omega arith), e ∙ sym r.2 ∙ came.1)

-- from a state that has a count, and is at most that count and the mark
pub forward-from : (K : ℕ) (h : Half) (F : Position) (q : ℕ) → 0 < count (forward K h F) q
    → (p : ℕ) × (h.edge p q ≡ true) × (0 < count F p) × (count (forward K h F) q ≤ count F p + h.mark q)
forward-from K h F q c =
    let r = forward-came K h F q c in
    let e : count (forward K h F) q ≡ plus K (h.mark q) (count F r.0) = r.5 in
    (r.0, r.3, r.4, omega (arith, plus-most K (h.mark q) (count F r.0)))

-- an edge brings its source's count and its target's mark, uncapped, to a safe position
pub forward_spends : (K : ℕ) (h : Half) (F : Position) (p q : ℕ) → p < h.sources → q < h.targets → h.edge p q ≡ true → 0 < count F p
    → safe K (forward K h F) ≡ true → count F p + h.mark q ≤ count (forward K h F) q
forward_spends K h F p q lp lq e c s =
    let brought : plus K (h.mark q) (count F p) ≤ count (forward K h F) q = forward-brings K h F p q lp lq e in
    let under : plus K (h.mark q) (count F p) ≤ K + 1 = omega (arith, safe_at K (forward K h F) s q) in
    omega (arith, plus-exact K (h.mark q) (count F p) c (plus-safe K (h.mark q) (count F p) c under))

pub forward_mono : (K : ℕ) (h : Half) (F G : Position) → below F G ≡ true → below (forward K h F) (forward K h G) ≡ true
forward_mono K h F G b =
    below_of (forward K h F) (forward K h G)
    (λ q l. let lq : q < h.targets = rw (forward-length K h F) at l in
    forward_under K h F q (count (forward K h G) q) lq
    (λ p lp e. le_trans (plus_mono K (h.mark q) (count F p) (count G p) (below_at F G b p)) (forward-brings K h G p q lp lq e)))

pub forward-nowhere : (K : ℕ) (h : Half) → forward K h (nowhere h.sources) ≡ nowhere h.targets
forward-nowhere K h =
    let F = forward K h (nowhere h.sources) in
    let e : length F ≡ h.targets = forward-length K h (nowhere h.sources) in
    same-counts F (nowhere h.targets) (e ∙ sym (length-replicate h.targets 0))
    (λ q l. le_antisymm
    (forward_under K h (nowhere h.sources) q (count (nowhere h.targets) q) (rw e at l)
    (λ p lp _. rw (count-nowhere h.sources p, plus_none) zero-le))
    (rw (count-nowhere h.targets q) zero-le))

-- back
pub back-length : (K : ℕ) (h : Half) (F : Position) → length (back K h F) ≡ h.sources
unfolding back
back-length K h F = tab-length h.sources _

pub back_at : (K : ℕ) (h : Half) (F : Position) (p : ℕ) → p < h.sources
    → count (back K h F) p ≡ smallest (K + 1) h.targets (allows K h F p)
unfolding back
back_at K h F p l = tab-at h.sources _ p 0 l

-- each count is safe, and fits under what each target leaves
pub back-top : (K : ℕ) (h : Half) (F : Position) (p : ℕ) → p < h.sources → count (back K h F) p ≤ K + 1
back-top K h F p lp = rw (back_at K h F p lp) (smallest-top (K + 1) h.targets (allows K h F p))

pub back_fits : (K : ℕ) (h : Half) (F : Position) (p q : ℕ) → p < h.sources → q < h.targets → h.edge p q ≡ true
    → count (back K h F) p ≤ count F q - h.mark q
back_fits K h F p q lp lq e = rw (back_at K h F p lp) (rw e at (smallest-at (K + 1) h.targets (allows K h F p) q lq))

-- and it is the largest that does
pub back-over : (K : ℕ) (h : Half) (F : Position) (p b : ℕ) → p < h.sources → b ≤ K + 1
    → ((q : ℕ) → q < h.targets → h.edge p q ≡ true → b ≤ count F q - h.mark q) → b ≤ count (back K h F) p
back-over K h F p b lp top fits =
    rw (back_at K h F p lp)
    (smallest-of (K + 1) h.targets (allows K h F p) b top
    (λ q lq. cond_cases (h.edge p q) (count F q - h.mark q) (K + 1) (λ c. b ≤ c) (fits q lq) (λ _. top)))

pub back-safe : (K : ℕ) (h : Half) (F : Position) → safe K (back K h F) ≡ true
back-safe K h F = safe-of K (back K h F) (λ p l. back-top K h F p (rw (back-length K h F) at l))

pub back_mono : (K : ℕ) (h : Half) (F G : Position) → length F ≡ h.targets → below F G ≡ true → below (back K h F) (back K h G) ≡ true
back_mono K h F G e b =
    below_of (back K h F) (back K h G)
    (λ p l. let lp : p < h.sources = rw (back-length K h F) at l in
    back-over K h G p (count (back K h F) p) lp (back-top K h F p lp)
    (λ q lq edge. omega (arith, back_fits K h F p q lp lq edge, below_at F G b q)))

-- forward H is below F exactly if H is below back F
pub forward-back : (K : ℕ) (h : Half) (H F : Position) → length H ≡ h.sources → length F ≡ h.targets → safe K H ≡ true → safe K F ≡ true
    → (below (forward K h H) F ≡ true) ↔ (below H (back K h F) ≡ true)
forward-back K h H F eH eF sH sF = (to, fro)
  where
    to : below (forward K h H) F ≡ true → below H (back K h F) ≡ true
    to b =
        below_of H (back K h F)
        (λ p l. let lp : p < h.sources = rw eH at l in
        back-over K h F p (count H p) lp (safe_at K H sH p)
        (λ q lq e. (plus_minus K (h.mark q) (count H p) (count F q) (safe_at K F sF q)).0
        (le_trans (forward-brings K h H p q lp lq e) (below_at (forward K h H) F b q))))

    fro : below H (back K h F) ≡ true → below (forward K h H) F ≡ true
    fro b =
        below_of (forward K h H) F
        (λ q l. let lq : q < h.targets = rw (forward-length K h H) at l in
        forward_under K h H q (count F q) lq
        (λ p lp e. (plus_minus K (h.mark q) (count H p) (count F q) (safe_at K F sF q)).1
        (le_trans (below_at H (back K h F) b p) (back_fits K h F p q lp lq e))))

-- "the largest position that steps forward to something below F" is back F, whatever H, where every source has a target on the letter, as
-- check 10 grants: an overrun of H would still be one after the step
pub forward-back-total : (K : ℕ) (h : Half) (H F : Position) → length H ≡ h.sources → length F ≡ h.targets
    → ((p : ℕ) → p < h.sources → (q : ℕ) × (q < h.targets) × (h.edge p q ≡ true)) → safe K F ≡ true
    → (below (forward K h H) F ≡ true) ↔ (below H (back K h F) ≡ true)
forward-back-total K h H F eH eF leads sF = (
  λ b. (forward-back K h H F eH eF (kept b) sF).0 b,
  λ b. (forward-back K h H F eH eF (safe-down K H (back K h F) b (back-safe K h F))
      sF).1 b,
)
  where
    kept : below (forward K h H) F ≡ true → safe K H ≡ true
    kept b =
        safe-of K H
        (λ p l. let lp : p < h.sources = rw eH at l in
        let on = leads p lp in
        plus-from-safe K (h.mark on.0) (count H p)
        (omega (arith, forward-brings K h H p on.0 lp on.1 on.2, below_at (forward K h H) F b on.0, safe_at K F sF on.0)))
