-- Words about numbers and lists that the other pages use. Each is over the numbers below n, or over a list, from its front.
use Rattle.std.specs.Prelude.{◌≡◌, Bool, true, false, cond, ◌&&◌, ◌||◌, ℕ, zero, suc, max, min, length, drop, eqb, ltb}
use mathlib.Core.List.{List, [], ◌∷◌, ◌++◌, Memᴰ}

-- f holds of each number below n
abbrev pub each : ℕ → (ℕ → Bool) → Bool
each zero f = true
each (suc n) f = let r = f n in each n f && r

-- f holds of some number below n
abbrev pub some : ℕ → (ℕ → Bool) → Bool
some zero f = false
some (suc n) f = let r = f n in some n f || r

-- the smallest number below n of which f holds, or n
abbrev pub first : ℕ → (ℕ → Bool) → ℕ
first zero f = zero
first (suc n) f = let r = suc (first n (λ i. f (suc i))) in cond (f zero) zero r

-- the largest of f at the numbers below n, or 0
abbrev pub largest : ℕ → (ℕ → ℕ) → ℕ
largest zero f = zero
largest (suc n) f = max (largest n f) (f n)

-- the smallest of top and of f at the numbers below n
abbrev pub smallest : ℕ → ℕ → (ℕ → ℕ) → ℕ
smallest top zero f = top
smallest top (suc n) f = min (smallest top n f) (f n)

module _ {A : Type 0} where
  -- f at 0, 1, .. up to n - 1
  abbrev pub tab : ℕ → (ℕ → A) → List A
  tab zero f = []
  tab (suc n) f = let x = f zero in x ∷ tab n (λ i. f (suc i))

  -- the members of which f holds, in their order
  abbrev pub keep : (A → Bool) → List A → List A
  keep f [] = []
  keep f (x ∷ xs) = let r = keep f xs in cond (f x) (x ∷ r) r

  -- f holds of every member
  abbrev pub every : (A → Bool) → List A → Bool
  every f [] = true
  every f (x ∷ xs) = let r = every f xs in f x && r

  -- f holds of some member
  abbrev pub any : (A → Bool) → List A → Bool
  any f [] = false
  any f (x ∷ xs) = let r = any f xs in f x || r

  -- the place of the first member of which f holds, or the length
  abbrev pub place : (A → Bool) → List A → ℕ
  place f [] = zero
  place f (x ∷ xs) = let r = suc (place f xs) in cond (f x) zero r

-- "compared as byte strings": at the first byte in which they differ the one that comes before is smaller, or it ends there
unfoldable pub before : List ℕ → List ℕ → Bool
before xs [] = false
before [] (y ∷ ys) = true
before (x ∷ xs) (y ∷ ys) = ltb x y || eqb x y && before xs ys

-- "ascending as byte strings": each member comes before all later ones, so no two are the same
pub data Ascending : List (List ℕ) → Type 0 where
  none : Ascending []
  more : {x : List ℕ} {xs : List (List ℕ)} → ((y : List ℕ) → Memᴰ y xs → before x y ≡ true) → Ascending xs → Ascending (x ∷ xs)

-- "Bytes beyond those written stay as they were."
abbrev pub written : List ℕ → List ℕ → List ℕ
written new old = new ++ drop (length new) old
