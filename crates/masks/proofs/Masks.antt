-- Masks: the bits of the mask of a test are what the test says, a mask is the mask of its bits, and setting bit q adds q to the test. By
-- induction on the number of bits, from the last one up. Assumes nothing.
use mathlib.Core.Path.{◌≡◌, refl, sym, ap, ap₂, ◌∙◌}
use mathlib.Core.Bool.{Bool, true, false, cond, ◌&&◌, ◌||◌, and-false, or-true, or-false}
use Prim.Native.Nat.{ℕ, zero, suc, ◌+◌, ◌*◌, ◌/◌, ◌%◌, ◌^◌, ◌≤◌, ◌<◌, max}
use native.Mathlib.Nat.{not-suc-le-zero, le_of_suc-le-suc, zero-div, div-one, div-div-eq-div-mul, pow-succ', pow-suc}
use native.Mathlib.Omega.{arith}
use lib.Dec.{eqb, ltb, eqb-zero-suc, eqb-suc-zero, eqb-suc-suc}
use lib.Bits.{bit_or, or_step, or_zero_r}
use borrow.Author.Tests.{ltb-true, lt-ltb, le-ltb, eq-eqb, ne_eqb, eqb-true, eqb-false}
use Rattle.meaning.specs.Table.{bit}
use Rattle.meaning.proofs.Tests.{both_left}
use Rattle.masks.specs.Mask.{mask}

-- binary digit q of a number
abbrev pub digit : ℕ → ℕ → Bool
digit m q = eqb (m / 2 ^ q % 2) 1

digit-first : (m : ℕ) → digit m zero ≡ eqb (m % 2) 1
digit-first m = ap (λ (x : ℕ). eqb (x % 2) 1) (div-one m)

digit-later : (m q : ℕ) → digit m (suc q) ≡ digit (m / 2) q
digit-later m q =
    ap (λ (x : ℕ). eqb (x % 2) 1) (ap (λ (y : ℕ). m / y) (pow-succ' 2 q) ∙ sym (div-div-eq-div-mul m 2 (2 ^ q)))

-- a last digit put to others, and taken off again
last-digit : (m : ℕ) (b : Bool) → eqb ((m * 2 + cond b 1 0) % 2) 1 ≡ b
last-digit m true = eq-eqb ((m * 2 + 1) % 2) 1 (omega arith)
last-digit m false = ne_eqb ((m * 2 + 0) % 2) 1 (λ e. omega arith)

other_digits : (m : ℕ) (b : Bool) → (m * 2 + cond b 1 0) / 2 ≡ m
other_digits m true = omega arith
other_digits m false = omega arith

-- the last digit as a number
last-number : (m : ℕ) → cond (eqb (m % 2) 1) 1 0 ≡ m % 2
last-number m = go (eqb (m % 2) 1) refl
  where
    go : (b : Bool) → eqb (m % 2) 1 ≡ b → cond b 1 0 ≡ m % 2
    go true e = sym (eqb-true (m % 2) 1 e)
    go false e = let differ : m % 2 ≡ 1 → ⊥ = eqb-false (m % 2) 1 e in omega arith

half-below : (n m : ℕ) → m < 2 ^ suc n → m / 2 < 2 ^ n
half-below n m h = omega (arith, pow-suc 2 n)

pub mask-same : (n : ℕ) (f g : ℕ → Bool) → ((q : ℕ) → q < n → f q ≡ g q) → mask n f ≡ mask n g
unfolding mask
mask-same zero f g p = refl
mask-same (suc n) f g p =
    ap₂ (λ (m : ℕ) (b : Bool). m * 2 + cond b 1 0)
    (mask-same n (λ q. f (suc q)) (λ q. g (suc q)) (λ q h. p (suc q) (omega arith))) (p zero (omega arith))

digit-of-mask : (n : ℕ) (f : ℕ → Bool) (q : ℕ) → q < n → digit (mask n f) q ≡ f q
unfolding mask
digit-of-mask zero f q h = absurd (not-suc-le-zero h)
digit-of-mask (suc n) f zero h = digit-first (mask (suc n) f) ∙ last-digit (mask n (λ q. f (suc q))) (f zero)
digit-of-mask (suc n) f (suc q) h =
    digit-later (mask (suc n) f) q
    ∙ ap (λ (m : ℕ). digit m q) (other_digits (mask n (λ q. f (suc q))) (f zero))
    ∙ digit-of-mask n (λ q. f (suc q)) q (le_of_suc-le-suc h)

mask-of-digits : (n m : ℕ) → m < 2 ^ n → mask n (digit m) ≡ m
unfolding mask
mask-of-digits zero m h = omega arith
mask-of-digits (suc n) m h =
    let others : mask n (λ q. digit m (suc q)) ≡ m / 2 =
    mask-same n (λ q. digit m (suc q)) (digit (m / 2)) (λ q _. digit-later m q) ∙ mask-of-digits n (m / 2) (half-below n m h) in
    let last : cond (digit m zero) 1 0 ≡ m % 2 = ap (λ (b : Bool). cond b 1 0) (digit-first m) ∙ last-number m in
    omega arith

-- setting digit q
or_digit : (n m q : ℕ) → m < 2 ^ n → q < n → bit_or m (2 ^ q) ≡ mask n (λ k. digit m k || eqb k q)
unfolding mask
or_digit zero m q h l = absurd (not-suc-le-zero l)
or_digit (suc n) m zero h l =
    let others : mask n (λ k. digit m (suc k) || eqb (suc k) zero) ≡ m / 2 =
    mask-same n (λ k. digit m (suc k) || eqb (suc k) zero) (digit (m / 2))
    (λ k _. ap (λ (b : Bool). digit m (suc k) || b) (eqb-suc-zero k) ∙ or-false (digit m (suc k)) ∙ digit-later m k)
    ∙ mask-of-digits n (m / 2) (half-below n m h) in
    let last : cond (digit m zero || true) 1 (zero) ≡ suc zero = ap (λ (b : Bool). cond b 1 0) (or-true (digit m zero)) in
    let step : bit_or m (2 ^ zero) ≡ bit_or (m / 2) zero * 2 + max (m % 2) 1 = or_step m 1 in
    let none : bit_or (m / 2) zero ≡ m / 2 = or_zero_r (m / 2) in
    omega arith
or_digit (suc n) m (suc q) h l =
    let others : mask n (λ k. digit m (suc k) || eqb (suc k) (suc q)) ≡ bit_or (m / 2) (2 ^ q) =
    mask-same n (λ k. digit m (suc k) || eqb (suc k) (suc q)) (λ k. digit (m / 2) k || eqb k q)
    (λ k _. ap₂ ◌||◌ (digit-later m k) (eqb-suc-suc k q))
    ∙ sym (or_digit n (m / 2) q (half-below n m h) (le_of_suc-le-suc l)) in
    let last : cond (digit m zero || eqb zero (suc q)) 1 zero ≡ m % 2 =
    ap (λ (b : Bool). cond b 1 0) (ap (λ (b : Bool). digit m zero || b) (eqb-zero-suc q) ∙ or-false (digit m zero) ∙ digit-first m)
    ∙ last-number m in
    let power : 2 ^ suc q ≡ 2 ^ q * 2 = pow-suc 2 q in
    let half : 2 ^ suc q / 2 ≡ 2 ^ q = omega arith in
    let step : bit_or m (2 ^ suc q) ≡ bit_or (m / 2) (2 ^ suc q / 2) * 2 + max (m % 2) (2 ^ suc q % 2) = or_step m (2 ^ suc q) in
    let stepped : bit_or (m / 2) (2 ^ suc q / 2) ≡ bit_or (m / 2) (2 ^ q) = ap (λ (x : ℕ). bit_or (m / 2) x) half in
    omega arith

-- the same of eight bits
pub bit-digit : (m q : ℕ) → q < 8 → bit m q ≡ digit m q
unfolding bit
bit-digit m q h = ap (λ (b : Bool). b && digit m q) (lt-ltb q 8 h)

pub bit_beyond : (m q : ℕ) → 8 ≤ q → bit m q ≡ false
unfolding bit
bit_beyond m q h = ap (λ (b : Bool). b && digit m q) (le-ltb q 8 h)

pub bit_below : (m q : ℕ) → bit m q ≡ true → q < 8
unfolding bit
bit_below m q p = ltb-true q 8 (both_left (ltb q 8) (digit m q) p)

-- the empty mask
pub bit-none : (q : ℕ) → bit 0 q ≡ false
unfolding bit
bit-none q = ap (λ (m : ℕ). ltb q 8 && eqb (m % 2) 1) (zero-div (2 ^ q)) ∙ and-false (ltb q 8)

pub bit-of-mask : (f : ℕ → Bool) (q : ℕ) → q < 8 → bit (mask 8 f) q ≡ f q
bit-of-mask f q h = bit-digit (mask 8 f) q h ∙ digit-of-mask 8 f q h

-- a mask with q set; past the eighth bit nothing is
pub set-bit : (m q : ℕ) → m < 256 → q < 8 → bit_or m (2 ^ q) ≡ mask 8 (λ k. bit m k || eqb k q)
set-bit m q h l =
    or_digit 8 m q h l
    ∙ mask-same 8 (λ k. digit m k || eqb k q) (λ k. bit m k || eqb k q) (λ k j. ap (λ (b : Bool). b || eqb k q) (sym (bit-digit m k j)))

pub set_beyond : (m q : ℕ) → m < 256 → 8 ≤ q → m ≡ mask 8 (λ k. bit m k || eqb k q)
set_beyond m q h l =
    sym (mask-of-digits 8 m h)
    ∙ mask-same 8 (digit m) (λ k. bit m k || eqb k q)
    (λ k j. sym (ap₂ ◌||◌ (bit-digit m k j) (ne_eqb k q (λ e. omega arith)) ∙ or-false (digit m k)))
