-- How many members of a list pass a test: at most all of them, no more than pass a wider test, and fewer where the two tests differ at a
-- member. By induction on the list; one member is a case split on its two tests.
use mathlib.Core.Path.{◌≡◌, refl, sym}
use mathlib.Core.Bool.{Bool, true, false, cond, ◌&&◌, beq, true≢false}
use mathlib.Core.List.{List, [], ◌∷◌, Memᴰ}
use Prim.Native.Nat.{suc, ◌≤◌, ◌<◌, zero-le, suc-le-suc}
use native.Mathlib.Omega.{arith}
use lib.ListN.{length}
use Rattle.meaning.specs.Lists.{keep, every}
use Rattle.meaning.proofs.Lists.{at-member, keep_one_lem, keep-of}

module _ {A : Type 0} where
  -- at most all members pass
  pub keep-length : (f : A → Bool) (xs : List A) → length (keep f xs) ≤ length xs
  keep-length f [] = zero-le
  keep-length f (x ∷ xs) =
      keep_one_lem (f x) x (keep f xs) (λ l. length l ≤ suc (length xs)) (λ _. suc-le-suc (keep-length f xs))
      (λ _. omega (arith, keep-length f xs))

  -- a member that passes is counted
  pub keep-counted : (f : A → Bool) (xs : List A) (x : A) → Memᴰ x xs → f x ≡ true → 0 < length (keep f xs)
  keep-counted f xs x m p = omega (arith, (at-member (keep f xs) x x (keep-of f xs x m p)).1)

  -- one member more, before the members r of the wider test and s of the narrower one
  one_no_more : (wide narrow : Bool) (x : A) (r s : List A) → (narrow ≡ true → wide ≡ true) → length s ≤ length r
      → length (cond narrow (x ∷ s) s) ≤ length (cond wide (x ∷ r) r)
  one_no_more true true x r s i le = suc-le-suc le
  one_no_more true false x r s i le = omega arith
  one_no_more false true x r s i le = absurd (true≢false (sym (i refl)))
  one_no_more false false x r s i le = le

  one_fewer : (wide narrow rest : Bool) (x : A) (r s : List A) → (narrow ≡ true → wide ≡ true) → length s ≤ length r
      → (rest ≡ false → length s < length r) → (beq wide narrow && rest) ≡ false
      → length (cond narrow (x ∷ s) s) < length (cond wide (x ∷ r) r)
  one_fewer true true rest x r s i le lt p = suc-le-suc (lt p)
  one_fewer true false rest x r s i le lt p = suc-le-suc le
  one_fewer false true rest x r s i le lt p = absurd (true≢false (sym (i refl)))
  one_fewer false false rest x r s i le lt p = lt p

  module _ (f g : A → Bool) (within : (x : A) → g x ≡ true → f x ≡ true) where
    pub keep_no_more : (xs : List A) → length (keep g xs) ≤ length (keep f xs)
    keep_no_more [] = zero-le
    keep_no_more (x ∷ xs) = one_no_more (f x) (g x) x (keep f xs) (keep g xs) (within x) (keep_no_more xs)

    -- where the tests do not agree at every member, fewer pass the narrower one
    pub keep_fewer : (xs : List A) → every (λ x. beq (f x) (g x)) xs ≡ false → length (keep g xs) < length (keep f xs)
    keep_fewer [] p = absurd (true≢false p)
    keep_fewer (x ∷ xs) p =
        one_fewer (f x) (g x) (every (λ y. beq (f y) (g y)) xs) x (keep f xs) (keep g xs) (within x) (keep_no_more xs)
        (keep_fewer xs) p
