-- Laws of tests: of `&&`, `||` and `cond`, of comparing byte by byte, and of the words of specs/Lists.antt about the numbers below n: what
-- each, some, first, largest and smallest say of each of them, and the other way round. By cases of the test, and by induction on n, where
-- a number below n + 1 is the last one or one before it (`below_last`). Facts about a test b are written b ≡ true.
use mathlib.Core.Path.{subst, ◌≡◌, refl, sym, ap₂, ◌∙◌, subst⁻¹}
use mathlib.Core.Logic.{◌⊎◌, inl, inr, ⊎_elim}
use mathlib.Core.Bool.{Bool, true, false, cond, ◌&&◌, ◌||◌, and-true, and_assoc, beq, true≢false}
use Prim.Native.Nat.{◌-◌, ℕ, zero, suc, ◌+◌, ◌≤◌, ◌<◌, max, min, zero-le, suc-le-suc}
use native.Mathlib.Nat.{le_of_suc-le-suc, not-suc-le-zero, eq-or-lt_of_le, le_refl, add-zero, add-suc}
use native.Mathlib.Decide.{dec_lt}
use native.Mathlib.Omega.{arith}
use lib.Dec.{eqb, ltb}
use borrow.Author.Tests.{eqb-true, eq-eqb, ltb-true, lt-ltb}
use Rattle.meaning.specs.Lists.{each, some, first, largest, smallest}

pub both : (a b : Bool) → a ≡ true → b ≡ true → (a && b) ≡ true
both true b p q = q
both false b p q = p

pub both_left : (a b : Bool) → (a && b) ≡ true → a ≡ true
both_left true b p = refl
both_left false b p = p

pub both_right : (a b : Bool) → (a && b) ≡ true → b ≡ true
both_right true b p = p
both_right false b p = absurd (true≢false (sym p))

pub either_left : (a b : Bool) → a ≡ true → (a || b) ≡ true
either_left true b p = refl
either_left false b p = absurd (true≢false (sym p))

pub either-right : (a b : Bool) → b ≡ true → (a || b) ≡ true
either-right true b p = refl
either-right false b p = p

pub either_cases : (a b : Bool) → (a || b) ≡ true → (a ≡ true) ⊎ (b ≡ true)
either_cases true b p = inl refl
either_cases false b p = inr p

pub neither_left : (a b : Bool) → (a || b) ≡ false → a ≡ false
neither_left true b p = absurd (true≢false p)
neither_left false b p = refl

pub neither_right : (a b : Bool) → (a || b) ≡ false → b ≡ false
neither_right true b p = absurd (true≢false p)
neither_right false b p = p

pub clash : (a : Bool) → a ≡ true → a ≡ false → ⊥
clash a p q = true≢false (sym p ∙ q)

pub decided : (a : Bool) → (a ≡ true) ⊎ (a ≡ false)
decided true = inl refl
decided false = inr refl

pub refuted : (a : Bool) → (a ≡ true → ⊥) → a ≡ false
refuted true p = absurd (p refl)
refuted false p = refl

-- two tests that follow from each other are equal
pub same_test : (a b : Bool) → (a ≡ true → b ≡ true) → (b ≡ true → a ≡ true) → a ≡ b
same_test true b p q = sym (p refl)
same_test false true p q = q refl
same_test false false p q = refl

-- two tests are equal exactly if `Bool.beq` says so
pub agreed : (a b : Bool) → beq a b ≡ true → a ≡ b
agreed true true p = refl
agreed true false p = absurd (true≢false (sym p))
agreed false true p = absurd (true≢false (sym p))
agreed false false p = refl

pub agrees : (a b : Bool) → a ≡ b → beq a b ≡ true
agrees true true p = refl
agrees true false p = absurd (true≢false p)
agrees false true p = absurd (true≢false (sym p))
agrees false false p = refl

-- what is shown for either value of a test is shown for `cond`
pub cond_cases : {A : Type 0} (b : Bool) (x y : A) (P : A → Type 0) → (b ≡ true → P x) → (b ≡ false → P y) → P (cond b x y)
cond_cases true x y P p q = p refl
cond_cases false x y P p q = q refl

-- compared byte by byte: one byte decides, or they are equal and the rest does
pub ordered_cases : (a b : ℕ) (rest : Bool) → (ltb a b || eqb a b && rest) ≡ true → (a < b) ⊎ ((a ≡ b) × (rest ≡ true))
ordered_cases a b rest p =
    ⊎_elim (λ q. inl (ltb-true a b q)) (λ q. inr (eqb-true a b (both_left (eqb a b) rest q), both_right (eqb a b) rest q))
    (either_cases (ltb a b) (eqb a b && rest) p)

pub ordered_of : (a b : ℕ) (rest : Bool) → a ≤ b → (a ≡ b → rest ≡ true) → (ltb a b || eqb a b && rest) ≡ true
ordered_of a b rest h p =
    ⊎_elim (λ (e : a ≡ b). either-right (ltb a b) (eqb a b && rest) (both (eqb a b) rest (eq-eqb a b e) (p e)))
    (λ l. either_left (ltb a b) (eqb a b && rest) (lt-ltb a b l)) (eq-or-lt_of_le h)

-- the step that an induction over the numbers below n needs: the last one, or one before it
pub below_last {ℓ} : {P : ℕ → Type ℓ} (n : ℕ) → ((i : ℕ) → i < n → P i) → P n → (i : ℕ) → i < suc n → P i
below_last {P = P} n before last i h = ⊎_elim (λ (e : i ≡ n). subst⁻¹ P e last) (λ l. before i l) (eq-or-lt_of_le (le_of_suc-le-suc h))

-- each
pub each_at : (n : ℕ) (f : ℕ → Bool) → each n f ≡ true → (i : ℕ) → i < n → f i ≡ true
each_at zero f p = λ i h. absurd (not-suc-le-zero h)
each_at (suc n) f p = below_last n (each_at n f (both_left (each n f) (f n) p)) (both_right (each n f) (f n) p)

pub each_of : (n : ℕ) (f : ℕ → Bool) → ((i : ℕ) → i < n → f i ≡ true) → each n f ≡ true
each_of zero f p = refl
each_of (suc n) f p = both (each n f) (f n) (each_of n f (λ i h. p i (omega arith))) (p n (omega arith))

pub each_same : (n : ℕ) (f g : ℕ → Bool) → ((i : ℕ) → i < n → f i ≡ g i) → each n f ≡ each n g
each_same zero f g p = refl
each_same (suc n) f g p = ap₂ ◌&&◌ (each_same n f g (λ i h. p i (omega arith))) (p n (omega arith))

-- some
pub some_at : (n : ℕ) (f : ℕ → Bool) → some n f ≡ true → (i : ℕ) × (i < n) × (f i ≡ true)
some_at zero f p = absurd (true≢false (sym p))
some_at (suc n) f p = go (some_at n f) (either_cases (some n f) (f n) p)
  where
    go : (some n f ≡ true → (i : ℕ) × (i < n) × (f i ≡ true)) → (some n f ≡ true) ⊎ (f n ≡ true) → (i : ℕ) × (i < suc n) × (f i ≡ true)
    go before (inl q) = let r = before q in let l : r.0 < n = r.1 in (r.0, omega arith, r.2)
    go before (inr q) = (n, omega arith, q)

pub some_of : (n : ℕ) (f : ℕ → Bool) (i : ℕ) → i < n → f i ≡ true → some n f ≡ true
some_of zero f i h p = absurd (not-suc-le-zero h)
some_of (suc n) f i h p =
    below_last {P = λ (j : ℕ). f j ≡ true → (some n f || f n) ≡ true} n
    (λ j l q. either_left (some n f) (f n) (some_of n f j l q))
    (λ q. either-right (some n f) (f n) q) i h p

pub some_same : (n : ℕ) (f g : ℕ → Bool) → ((i : ℕ) → i < n → f i ≡ g i) → some n f ≡ some n g
some_same zero f g p = refl
some_same (suc n) f g p = ap₂ ◌||◌ (some_same n f g (λ i h. p i (omega arith))) (p n (omega arith))

-- first
pub first-le : (n : ℕ) (f : ℕ → Bool) → first n f ≤ n
first-le zero f = zero-le
first-le (suc n) f =
    cond_cases (f zero) zero (suc (first n (λ i. f (suc i)))) (λ r. r ≤ suc n) (λ _. zero-le)
    (λ _. suc-le-suc (first-le n (λ i. f (suc i))))

pub first_holds : (n : ℕ) (f : ℕ → Bool) → first n f < n → f (first n f) ≡ true
first_holds zero f = λ h. absurd (not-suc-le-zero h)
first_holds (suc n) f =
    cond_cases (f zero) zero (suc (first n (λ i. f (suc i)))) (λ r. r < suc n → f r ≡ true) (λ p _. p)
    (λ _ h. first_holds n (λ i. f (suc i)) (le_of_suc-le-suc h))

pub first-before : (n : ℕ) (f : ℕ → Bool) (i : ℕ) → i < first n f → f i ≡ false
first-before zero f i = λ h. absurd (not-suc-le-zero h)
first-before (suc n) f i =
    cond_cases (f zero) zero (suc (first n (λ j. f (suc j)))) (λ r. i < r → f i ≡ false) (λ _ h. absurd (not-suc-le-zero h))
    (λ p h. go i p h (first-before n (λ j. f (suc j))))
  where
    go : (i : ℕ) → f zero ≡ false → i < suc (first n (λ j. f (suc j))) → ((j : ℕ) → j < first n (λ j. f (suc j)) → f (suc j) ≡ false)
        → f i ≡ false
    go zero p h rest = p
    go (suc i) p h rest = rest i (le_of_suc-le-suc h)

pub first_found : (n : ℕ) (f : ℕ → Bool) (i : ℕ) → i < n → f i ≡ true → first n f ≤ i
first_found zero f i h p = absurd (not-suc-le-zero h)
first_found (suc n) f zero h p =
    cond_cases (f zero) zero (suc (first n (λ j. f (suc j)))) (λ r. r ≤ zero) (λ _. zero-le) (λ q. absurd (clash (f zero) p q))
first_found (suc n) f (suc i) h p =
    cond_cases (f zero) zero (suc (first n (λ j. f (suc j)))) (λ r. r ≤ suc i) (λ _. zero-le)
    (λ _. suc-le-suc (first_found n (λ j. f (suc j)) i (le_of_suc-le-suc h) p))

pub first-same : (n : ℕ) (f g : ℕ → Bool) → ((i : ℕ) → i < n → f i ≡ g i) → first n f ≡ first n g
first-same zero f g p = refl
first-same (suc n) f g p =
    ap₂ (λ (b : Bool) (r : ℕ). cond b zero (suc r)) (p zero (omega arith))
    (first-same n (λ i. f (suc i)) (λ i. g (suc i)) (λ i h. p (suc i) (suc-le-suc h)))

-- the smallest number is the only one that holds and has none before it
pub first_is : (n : ℕ) (f : ℕ → Bool) (i : ℕ) → i < n → f i ≡ true → ((j : ℕ) → j < i → f j ≡ false) → first n f ≡ i
first_is n f i h p before =
    ⊎_elim (λ (e : first n f ≡ i). e)
    (λ l. absurd (clash (f (first n f)) (first_holds n f (omega (arith, first_found n f i h p))) (before (first n f) l)))
    (eq-or-lt_of_le (first_found n f i h p))

-- largest and smallest
pub largest-at : (n : ℕ) (f : ℕ → ℕ) (i : ℕ) → i < n → f i ≤ largest n f
largest-at zero f = λ i h. absurd (not-suc-le-zero h)
largest-at (suc n) f = below_last n (λ i h. omega (arith, largest-at n f i h)) (omega arith)

pub largest-of : (n : ℕ) (f : ℕ → ℕ) (b : ℕ) → ((i : ℕ) → i < n → f i ≤ b) → largest n f ≤ b
largest-of zero f b p = zero-le
largest-of (suc n) f b p = omega (arith, largest-of n f b (λ i h. p i (omega arith)), p n (omega arith))

pub largest_is : (n : ℕ) (f : ℕ → ℕ) → 0 < largest n f → (i : ℕ) × (i < n) × (f i ≡ largest n f)
largest_is zero f h = absurd (not-suc-le-zero h)
largest_is (suc n) f h = go (dec_lt (f n) (largest n f)) (largest_is n f)
  where
    go : Dec (f n < largest n f) → (0 < largest n f → (i : ℕ) × (i < n) × (f i ≡ largest n f))
        → (i : ℕ) × (i < suc n) × (f i ≡ max (largest n f) (f n))
    go (yes l) before =
        let r = before (omega arith) in
        let h : r.0 < n = r.1 in
        let e : f r.0 ≡ largest n f = r.2 in
        (r.0, omega arith, omega arith)
    go (no l) before = (n, omega arith, omega arith)

pub largest-same : (n : ℕ) (f g : ℕ → ℕ) → ((i : ℕ) → i < n → f i ≡ g i) → largest n f ≡ largest n g
largest-same zero f g p = refl
largest-same (suc n) f g p = ap₂ max (largest-same n f g (λ i h. p i (omega arith))) (p n (omega arith))

-- where the largest of the numbers up to n passes N, one of them does
pub largest-passes : (N n : ℕ) (f : ℕ → ℕ) → N < largest (suc n) f → (i : ℕ) × (i ≤ n) × (N < f i)
largest-passes N n f h =
    let r = largest_is (suc n) f (omega arith) in
    let l : r.0 < suc n = r.1 in
    let e : f r.0 ≡ largest (suc n) f = r.2 in
    (r.0, omega arith, omega arith)

pub passes-largest : (N n : ℕ) (f : ℕ → ℕ) (i : ℕ) → i ≤ n → N < f i → N < largest (suc n) f
passes-largest N n f i l h = omega (arith, largest-at (suc n) f i (omega arith))

pub smallest-top : (top n : ℕ) (f : ℕ → ℕ) → smallest top n f ≤ top
smallest-top top zero f = le_refl top
smallest-top top (suc n) f = omega (arith, smallest-top top n f)

pub smallest-at : (top n : ℕ) (f : ℕ → ℕ) (i : ℕ) → i < n → smallest top n f ≤ f i
smallest-at top zero f = λ i h. absurd (not-suc-le-zero h)
smallest-at top (suc n) f = below_last n (λ i h. omega (arith, smallest-at top n f i h)) (omega arith)

pub smallest-of : (top n : ℕ) (f : ℕ → ℕ) (b : ℕ) → b ≤ top → ((i : ℕ) → i < n → b ≤ f i) → b ≤ smallest top n f
smallest-of top zero f b h p = h
smallest-of top (suc n) f b h p = omega (arith, smallest-of top n f b h (λ i l. p i (omega arith)), p n (omega arith))

pub smallest-same : (top n : ℕ) (f g : ℕ → ℕ) → ((i : ℕ) → i < n → f i ≡ g i) → smallest top n f ≡ smallest top n g
smallest-same top zero f g p = refl
smallest-same top (suc n) f g p = ap₂ min (smallest-same top n f g (λ i h. p i (omega arith))) (p n (omega arith))

-- a number below a sum is one below n, or n and a number below m
pub below_sum : (P : ℕ → Type 0) (n m : ℕ) → ((i : ℕ) → i < n → P i) → ((i : ℕ) → i < m → P (n + i)) → (i : ℕ) → i < n + m → P i
below_sum P n m first second i h = go (dec_lt i n)
  where
    go : Dec (i < n) → P i
    go (yes l) = first i l
    go (no l) = let e : n + (i - n) ≡ i = omega arith in subst P e (second (i - n) (omega arith))

-- over the numbers below a sum: first those below n, then the others
pub each_sum : (n m : ℕ) (f g k : ℕ → Bool) → ((i : ℕ) → i < n → f i ≡ g i) → ((i : ℕ) → i < m → f (n + i) ≡ k i)
    → each (n + m) f ≡ (each n g && each m k)
each_sum n zero f g k p q = rw (add-zero, and-true (each n g)) (each_same n f g p)
each_sum n (suc m) f g k p q =
    rw (add-suc, each_sum n m f g k p (λ i l. q i (omega arith)), q m (omega arith), and_assoc (each n g))

pub largest_sum : (n m : ℕ) (f g k : ℕ → ℕ) → ((i : ℕ) → i < n → f i ≡ g i) → ((i : ℕ) → i < m → f (n + i) ≡ k i)
    → largest (n + m) f ≡ max (largest n g) (largest m k)
largest_sum n zero f g k p q = rw add-zero (omega (arith, largest-same n f g p))
largest_sum n (suc m) f g k p q = rw add-suc (omega (arith, largest_sum n m f g k p (λ i l. q i (omega arith)), q m (omega arith)))

pub largest-zero : (n : ℕ) → largest n (λ i. 0) ≡ 0
largest-zero zero = refl
largest-zero (suc n) = omega (arith, largest-zero n)
