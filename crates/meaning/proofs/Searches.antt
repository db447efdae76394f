-- What a loop that tries one number after the other knows: one more number tried, the first that holds, and none that holds. By the laws of
-- the words themselves. Assumes nothing.
use mathlib.Core.Path.{◌≡◌, subst⁻¹}
use mathlib.Core.Logic.{⊎_elim}
use mathlib.Core.Bool.{Bool, true, false}
use mathlib.Core.List.{List}
use Prim.Native.Nat.{ℕ, ◌+◌, ◌<◌}
use native.Mathlib.Nat.{eq-or-lt_of_le}
use native.Mathlib.Decide.{ℕ_discrete}
use native.Mathlib.Numerals.{add-one}
use native.Mathlib.Omega.{arith}
use lib.ListN.{length, get_or}
use Rattle.meaning.specs.Lists.{each, some, first, place}
use Rattle.meaning.proofs.Tests.{clash, refuted, each_at, some_at, first-le, first_holds}
use Rattle.meaning.proofs.Lists.{place-le, place-holds, place_found}

-- what holds at one number, and at every other
pub at_each : (P : ℕ → Type 0) (k : ℕ) → P k → ((j : ℕ) → (j ≡ k → ⊥) → P j) → (j : ℕ) → P j
at_each P k here elsewhere j = go (ℕ_discrete j k)
  where
    go : Dec (j ≡ k) → P j
    go (yes e) = subst⁻¹ P e here
    go (no e) = elsewhere j e

-- each, one number further, and each and some at an end
pub each_more : (n : ℕ) (f : ℕ → Bool) → each n f ≡ true → f n ≡ true → each (n + 1) f ≡ true
each_more n f before last = rw (add-one n, before) last

pub some-none : (n : ℕ) (f : ℕ → Bool) → ((i : ℕ) → i < n → f i ≡ false) → some n f ≡ false
some-none n f none = refuted (some n f) (λ q. let r = some_at n f q in clash (f r.0) r.2 (none r.0 r.1))

pub each-fails : (n : ℕ) (f : ℕ → Bool) (i : ℕ) → i < n → f i ≡ false → each n f ≡ false
each-fails n f i h p = refuted (each n f) (λ q. clash (f i) (each_at n f q i h) p)

-- a number is the first if none before it holds, and it does or is past the last
pub first-none : (n : ℕ) (f : ℕ → Bool) → ((j : ℕ) → j < n → f j ≡ false) → first n f ≡ n
first-none n f none =
    ⊎_elim (λ (e : first n f ≡ n). e) (λ l. absurd (clash (f (first n f)) (first_holds n f l) (none (first n f) l)))
    (eq-or-lt_of_le (first-le n f))

module _ {A : Type 0} (f : A → Bool) (xs : List A) (d : A) where
  pub place_is : (i : ℕ) → i < length xs → f (get_or xs i d) ≡ true → ((j : ℕ) → j < i → f (get_or xs j d) ≡ false) → place f xs ≡ i
  place_is i h p none =
      let found = place_found f xs d i h p in
      ⊎_elim (λ (e : place f xs ≡ i). e)
      (λ l. absurd (clash (f (get_or xs (place f xs) d)) (place-holds f xs d (omega arith)) (none (place f xs) l))) (eq-or-lt_of_le found)

  pub place_none : ((j : ℕ) → j < length xs → f (get_or xs j d) ≡ false) → place f xs ≡ length xs
  place_none none =
      ⊎_elim (λ (e : place f xs ≡ length xs). e)
      (λ l. absurd (clash (f (get_or xs (place f xs) d)) (place-holds f xs d l) (none (place f xs) l))) (eq-or-lt_of_le (place-le f xs))
