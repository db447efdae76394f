-- The edges that masks state. From 8 on there is no bit and no mask. So the largest and the
-- smallest over a side's states are those over the eight states of an array, whatever the side's size. Assumes nothing.
use mathlib.Core.Path.{◌≡◌}
use mathlib.Core.Bool.{false, cond, and-false}
use mathlib.Core.List.{List}
use Prim.Native.Nat.{ℕ, ◌+◌, ◌≤◌, ◌<◌, ◌^◌, zero-le, max, min}
use native.Mathlib.Nat.{le_antisymm, zero-div}
use native.Mathlib.Decide.{dec_lt}
use native.Mathlib.Numerals.{add-one}
use native.Mathlib.Omega.{arith}
use borrow.Author.Tests.{ltb-true, lt-ltb, le-ltb}
use lib.Dec.{ltb}
use lib.ListN.{length, get_or, get_or-eq_default}
use Rattle.meaning.specs.Lists.{largest, smallest}
use Rattle.meaning.specs.Table.{bit}
use Rattle.meaning.proofs.Tests.{cond_cases, largest-at, largest-of, smallest-top, smallest-at, smallest-of}

-- eight bits: no edge leads to a state from 8 on
pub bit_beyond : (mask q : ℕ) → 8 ≤ q → bit mask q ≡ false
unfolding bit
bit_beyond mask q l = rw (le-ltb q 8 l)

-- and eight masks: none comes from a state from 8 on
pub mask_beyond : (masks : List ℕ) (p q : ℕ) → length masks ≡ 8 → 8 ≤ p → bit (get_or masks p 0) q ≡ false
unfolding bit
mask_beyond masks p q e l = rw (get_or-eq_default masks 0 {n = p} (omega arith), zero-div (2 ^ q)) (and-false (ltb q 8))

-- f at the numbers below n, and the default from there on
abbrev pub within : ℕ → ℕ → (ℕ → ℕ) → ℕ → ℕ
within n default f i = cond (ltb i n) (f i) default

-- one number more
pub largest-next : (f : ℕ → ℕ) (i c : ℕ) → f i ≡ c → largest (i + 1) f ≡ max (largest i f) c
largest-next f i c e = rw (add-one i, e)

pub smallest-next : (top : ℕ) (f : ℕ → ℕ) (i c : ℕ) → f i ≡ c → smallest top (i + 1) f ≡ min (smallest top i f) c
smallest-next top f i c e = rw (add-one i, e)

-- where nothing counts from e on, the numbers below e are enough
module _ (e n : ℕ) (f : ℕ → ℕ) where
  pub largest-within : ((i : ℕ) → e ≤ i → f i ≡ 0) → largest e (within n 0 f) ≡ largest n f
  largest-within none =
      le_antisymm
      (largest-of e (within n 0 f) (largest n f)
      (λ i _. cond_cases (ltb i n) (f i) 0 (λ c. c ≤ largest n f) (λ t. largest-at n f i (ltb-true i n t)) (λ _. zero-le)))
      (largest-of n f (largest e (within n 0 f)) (λ i l. go i l (dec_lt i e)))
    where
      go : (i : ℕ) → i < n → Dec (i < e) → f i ≤ largest e (within n 0 f)
      go i l (yes b) = rw (lt-ltb i n l) at (largest-at e (within n 0 f) i b)
      go i l (no b) = rw (none i (omega arith)) zero-le

  pub smallest-within : (top : ℕ) → ((i : ℕ) → e ≤ i → f i ≡ top) → smallest top e (within n top f) ≡ smallest top n f
  smallest-within top none =
      le_antisymm
      (smallest-of top n f (smallest top e (within n top f)) (smallest-top top e (within n top f)) (λ i l. go i l (dec_lt i e)))
      (smallest-of top e (within n top f) (smallest top n f) (smallest-top top n f)
      (λ i _. cond_cases (ltb i n) (f i) top (λ c. smallest top n f ≤ c)
      (λ t. smallest-at top n f i (ltb-true i n t)) (λ _. smallest-top top n f)))
    where
      go : (i : ℕ) → i < n → Dec (i < e) → smallest top e (within n top f) ≤ f i
      go i l (yes b) = rw (lt-ltb i n l) at (smallest-at top e (within n top f) i b)
      go i l (no b) = rw (none i (omega arith)) (smallest-top top e (within n top f))
