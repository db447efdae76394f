-- What a run over a list knows of it: whether a test holds of any, the place of the first of which it does, and those of which it does,
-- when one more member is seen at the list's end. Each by induction on the list. Assumes nothing.
use mathlib.Core.Path.{◌≡◌, refl, ap, ◌∙◌}
use mathlib.Core.Bool.{Bool, true, false, cond, ◌||◌}
use mathlib.Core.List.{List, [], ◌∷◌, ◌++◌, append-nil}
use Prim.Native.Nat.{ℕ, zero, suc}
use Rattle.meaning.specs.Lists.{any, place, keep}
use Rattle.meaning.proofs.Lists.{keep_append}

module _ {A : Type 0} (f : A → Bool) where
  -- one of which the test fails or holds at the end
  pub any_past : (xs : List A) (x : A) → f x ≡ false → any f (xs ++ x ∷ []) ≡ any f xs
  any_past [] x q = rw q refl
  any_past (y ∷ xs) x q = ap (λ (r : Bool). f y || r) (any_past xs x q)

  pub none_more : (xs : List A) (x : A) → any f xs ≡ false → f x ≡ false → any f (xs ++ x ∷ []) ≡ false
  none_more xs x p q = any_past xs x q ∙ p

  pub place_past : (xs : List A) (x : A) → f x ≡ true → place f (xs ++ x ∷ []) ≡ place f xs
  place_past [] x q = rw q refl
  place_past (y ∷ xs) x q = ap (λ (r : ℕ). cond (f y) zero (suc r)) (place_past xs x q)

  -- those of which it holds
  pub keep-more : (xs : List A) (x : A) → f x ≡ true → keep f (xs ++ x ∷ []) ≡ keep f xs ++ x ∷ []
  keep-more xs x p = rw (keep_append f xs (x ∷ []), p)

  pub keep_past : (xs : List A) (x : A) → f x ≡ false → keep f (xs ++ x ∷ []) ≡ keep f xs
  keep_past xs x p = rw (keep_append f xs (x ∷ []), p) (append-nil (keep f xs))
