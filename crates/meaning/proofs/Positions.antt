-- The list of all safe positions: it holds exactly the safe positions, (K + 2) ^ n of them, ascending as byte strings. By induction on
-- the number of states: a safe position of one state more is a count up to K + 1 before a safe position.
use mathlib.Core.Path.{◌≡◌, refl, sym, ap, ◌∙◌}
use mathlib.Core.Logic.{◌↔◌}
use mathlib.Core.Bool.{true}
use mathlib.Core.List.Memᴰ
use mathlib.Core.List.{List, [], ◌∷◌, map, flat_map, Memᴰ}
use Prim.Native.Nat.{ℕ, zero, suc, ◌+◌, ◌^◌, ◌≤◌, ◌<◌, zero-le, suc-le-suc}
use native.Mathlib.Nat.{not-suc-le-zero, pow-zero, pow-succ'}
use native.Mathlib.Omega.{arith}
use lib.ListN.{length, length-map}
use lib.Dec.{eqb}
use borrow.Author.Tests.{eqb-true, eq-eqb}
use Rattle.meaning.specs.Lists.{tab, before, Ascending, none, more}
use Rattle.meaning.specs.Counting.{Position, count, safe}
use Rattle.meaning.specs.Rounds.{all_safe, positions}
use Rattle.meaning.proofs.Tests.{both, both_left, both_right}
use Rattle.meaning.proofs.Lists.{tab-length, tab-member, member-tab, flat_map-member, member-flat_map, flat_map-length}
use Rattle.meaning.proofs.Ascending.{before-first, append-ascends, cons-ascends}
use Rattle.meaning.proofs.Steps.{safe_at, safe-of}

-- a safe position of n states: its length and its counts
pub all_safe-length : (K n : ℕ) (F : Position) → all_safe K n F ≡ true → length F ≡ n
unfolding all_safe
all_safe-length K n F a = eqb-true (length F) n (both_left (eqb (length F) n) (safe K F) a)

pub all_safe-safe : (K n : ℕ) (F : Position) → all_safe K n F ≡ true → safe K F ≡ true
unfolding all_safe
all_safe-safe K n F a = both_right (eqb (length F) n) (safe K F) a

pub all_safe-of : (K n : ℕ) (F : Position) → length F ≡ n → safe K F ≡ true → all_safe K n F ≡ true
unfolding all_safe
all_safe-of K n F e s = both (eqb (length F) n) (safe K F) (eq-eqb (length F) n e) s

-- a safe position of one state more: a count and a safe position
pub all_safe-cons : (K n c : ℕ) (F : Position) → (all_safe K (suc n) (c ∷ F) ≡ true) ↔ ((c ≤ K + 1) × (all_safe K n F ≡ true))
all_safe-cons K n c F = (split, join)
  where
    split : all_safe K (suc n) (c ∷ F) ≡ true → (c ≤ K + 1) × (all_safe K n F ≡ true)
    split a =
        let e : suc (length F) ≡ suc n = all_safe-length K (suc n) (c ∷ F) a in
        let s = safe_at K (c ∷ F) (all_safe-safe K (suc n) (c ∷ F) a) in
        (s zero, all_safe-of K n F (omega arith) (safe-of K F (λ q h. s (suc q))))

    count-safe : c ≤ K + 1 → safe K F ≡ true → (q : ℕ) → count (c ∷ F) q ≤ K + 1
    count-safe l s zero = l
    count-safe l s (suc q) = safe_at K F s q

    join : (c ≤ K + 1) × (all_safe K n F ≡ true) → all_safe K (suc n) (c ∷ F) ≡ true
    join p =
        all_safe-of K (suc n) (c ∷ F) (ap suc (all_safe-length K n F p.1))
        (safe-of K (c ∷ F) (λ q h. count-safe p.0 (all_safe-safe K n F p.1) q))

-- each of some positions with each count before it, as the list of positions is made
abbrev pub extended : List Position → List ℕ → List Position
extended rest counts = flat_map (λ (c : ℕ). map (λ (F : Position). c ∷ F) rest) counts

pub extended-member : (rest : List Position) (counts : List ℕ) (F : Position) → Memᴰ F (extended rest counts)
    → (c : ℕ) × (G : Position) × Memᴰ c counts × Memᴰ G rest × (F ≡ c ∷ G)
extended-member rest counts F m =
    let r = member-flat_map (λ (c : ℕ). map (λ (G : Position). c ∷ G) rest) counts F m in
    let s = Memᴰ.of_map (λ (G : Position). r.0 ∷ G) rest r.2 in
    (r.0, s.0, r.1, s.1, sym s.2)

pub positions_hold : (K n : ℕ) (F : Position) → all_safe K n F ≡ true → Memᴰ F (positions K n)
unfolding positions
positions_hold K zero [] a = Memᴰ.head refl
positions_hold K zero (c ∷ F) a = let e : suc (length F) ≡ zero = all_safe-length K zero (c ∷ F) a in absurd (omega arith)
positions_hold K (suc n) [] a = let e : zero ≡ suc n = all_safe-length K (suc n) [] a in absurd (omega arith)
positions_hold K (suc n) (c ∷ F) a =
    let p = (all_safe-cons K n c F).0 a in
    let l : c ≤ K + 1 = p.0 in
    flat_map-member (λ (d : ℕ). map (λ (G : Position). d ∷ G) (positions K n)) (tab (K + 2) (λ d. d)) c (c ∷ F)
    (tab-member (K + 2) (λ d. d) c (omega arith)) (Memᴰ.map (λ (G : Position). c ∷ G) (positions_hold K n F p.1))

pub positions-safe : (K n : ℕ) (F : Position) → Memᴰ F (positions K n) → all_safe K n F ≡ true
unfolding positions
positions-safe K zero F m =
    rw (Memᴰ.eq_of_singleton m) (all_safe-of K zero [] refl (safe-of K [] (λ q h. absurd (not-suc-le-zero h))))
positions-safe K (suc n) F m =
    let r = extended-member (positions K n) (tab (K + 2) (λ d. d)) F m in
    let k = member-tab (K + 2) (λ d. d) r.0 r.2 in
    let l : k.0 < K + 2 = k.1 in
    let e : r.0 ≡ k.0 = k.2 in
    rw r.4 ((all_safe-cons K n r.0 r.1).1 (omega arith, positions-safe K n r.1 r.3))

pub positions-number : (K n : ℕ) → length (positions K n) ≡ (K + 2) ^ n
unfolding positions
positions-number K zero = sym (pow-zero (K + 2))
positions-number K (suc n) =
    flat_map-length (λ (c : ℕ). map (λ (F : Position). c ∷ F) (positions K n)) ((K + 2) ^ n) (tab (K + 2) (λ c. c))
    (λ c. length-map (positions K n) (λ (F : Position). c ∷ F) ∙ positions-number K n)
    ∙ rw (tab-length (K + 2) (λ c. c), pow-succ')

-- ascending counts before ascending positions ascend
extended-ascends : (rest : List Position) (n : ℕ) (g : ℕ → ℕ) → ((i j : ℕ) → i < j → g i < g j) → Ascending rest
    → Ascending (extended rest (tab n g))
unfolding flat_map
extended-ascends rest zero g p a = none
extended-ascends rest (suc n) g p a =
    append-ascends (map (λ (F : Position). g zero ∷ F) rest) (extended rest (tab n (λ i. g (suc i)))) (cons-ascends (g zero) rest a)
    (extended-ascends rest n (λ i. g (suc i)) (λ i j l. p (suc i) (suc j) (suc-le-suc l)) a) smaller_first
  where
    smaller_first : (F G : Position) → Memᴰ F (map (λ (H : Position). g zero ∷ H) rest)
        → Memᴰ G (extended rest (tab n (λ i. g (suc i)))) → before F G ≡ true
    smaller_first F G m k =
        let r = Memᴰ.of_map (λ (H : Position). g zero ∷ H) rest m in
        let s = extended-member rest (tab n (λ i. g (suc i))) G k in
        let t = member-tab n (λ i. g (suc i)) s.0 s.2 in
        let e : s.0 ≡ g (suc t.0) = t.2 in
        rw (← r.2, s.4) (before-first (g zero) s.0 r.0 s.1 (omega (arith, p zero (suc t.0) (suc-le-suc zero-le))))

pub positions_ascend : (K n : ℕ) → Ascending (positions K n)
unfolding positions
positions_ascend K zero = more (λ y m. absurd (Memᴰ.not-nil m)) none
positions_ascend K (suc n) = extended-ascends (positions K n) (K + 2) (λ c. c) (λ i j l. l) (positions_ascend K n)
