-- Lists that ascend as byte strings: two of them with the same members are equal. The order has no loops, so the first member of one is
-- the first of the other, and the rest follows by induction.
use mathlib.Core.Path.{◌≡◌, refl, sym, ap₂, ◌∙◌}
use mathlib.Core.Logic.{◌⊎◌, inl, inr, ⊎_elim}
use mathlib.Core.Bool.{Bool, true, true≢false}
use mathlib.Core.List.Memᴰ
use mathlib.Core.List.{List, [], ◌∷◌, ◌++◌, map, Memᴰ}
use Prim.Native.Nat.{ℕ, ◌<◌}
use native.Mathlib.Omega.{arith}
use Rattle.meaning.specs.Lists.{keep, before, Ascending, none, more}
use Rattle.meaning.proofs.Tests.{ordered_cases, ordered_of}
use Rattle.meaning.proofs.Lists.{keep_one_lem, keep-member}

-- the first bytes decide, or are equal and the rest decides
pub before_cases : (x y : ℕ) (xs ys : List ℕ) → before (x ∷ xs) (y ∷ ys) ≡ true → (x < y) ⊎ ((x ≡ y) × (before xs ys ≡ true))
unfolding before
before_cases x y xs ys b = ordered_cases x y (before xs ys) b

pub before-first : (x y : ℕ) (xs ys : List ℕ) → x < y → before (x ∷ xs) (y ∷ ys) ≡ true
unfolding before
before-first x y xs ys l = ordered_of x y (before xs ys) (omega arith) (λ e. absurd (omega arith))

pub before-rest : (x y : ℕ) (xs ys : List ℕ) → x ≡ y → before xs ys ≡ true → before (x ∷ xs) (y ∷ ys) ≡ true
unfolding before
before-rest x y xs ys e b = ordered_of x y (before xs ys) (omega arith) (λ _. b)

pub before_irrefl : (x : List ℕ) → before x x ≡ true → ⊥
unfolding before
before_irrefl [] b = true≢false (sym b)
before_irrefl (x ∷ xs) b = ⊎_elim (λ (l : x < x). omega arith) (λ r. before_irrefl xs r.1) (before_cases x x xs xs b)

pub before_trans : (x y z : List ℕ) → before x y ≡ true → before y z ≡ true → before x z ≡ true
unfolding before
before_trans xs ys [] b c = c
before_trans [] ys (z ∷ zs) b c = refl
before_trans (x ∷ xs) [] (z ∷ zs) b c = absurd (true≢false (sym b))
before_trans (x ∷ xs) (y ∷ ys) (z ∷ zs) b c = go (before_cases x y xs ys b) (before_cases y z ys zs c) (before_trans xs ys zs)
  where
    go : (x < y) ⊎ ((x ≡ y) × (before xs ys ≡ true)) → (y < z) ⊎ ((y ≡ z) × (before ys zs ≡ true))
        → (before xs ys ≡ true → before ys zs ≡ true → before xs zs ≡ true) → before (x ∷ xs) (z ∷ zs) ≡ true
    go (inl l) (inl m) rest = before-first x z xs zs (omega arith)
    go (inl l) (inr m) rest = before-first x z xs zs (omega arith)
    go (inr l) (inl m) rest = before-first x z xs zs (omega arith)
    go (inr l) (inr m) rest = before-rest x z xs zs (l.0 ∙ m.0) (rest l.1 m.1)

pub keep-ascends : (f : List ℕ → Bool) (xs : List (List ℕ)) → Ascending xs → Ascending (keep f xs)
keep-ascends f [] none = none
keep-ascends f (x ∷ xs) (more p a) =
    keep_one_lem (f x) x (keep f xs) Ascending (λ _. more (λ y m. p y (keep-member f xs y m)) (keep-ascends f xs a))
    (λ _. keep-ascends f xs a)

pub append-ascends : (xs ys : List (List ℕ)) → Ascending xs → Ascending ys
    → ((x y : List ℕ) → Memᴰ x xs → Memᴰ y ys → before x y ≡ true) → Ascending (xs ++ ys)
append-ascends [] ys none b p = b
append-ascends (x ∷ xs) ys (more q a) b p =
    more (λ y m. ⊎_elim (λ k. q y k) (λ k. p x y (Memᴰ.head refl) k) (Memᴰ.append_cases xs m))
    (append-ascends xs ys a b (λ z y k l. p z y (Memᴰ.tail k) l))

-- the same byte before each
pub cons-ascends : (c : ℕ) (xs : List (List ℕ)) → Ascending xs → Ascending (map (λ (x : List ℕ). c ∷ x) xs)
cons-ascends c [] none = none
cons-ascends c (x ∷ xs) (more p a) = more first (cons-ascends c xs a)
  where
    first : (y : List ℕ) → Memᴰ y (map (λ (z : List ℕ). c ∷ z) xs) → before (c ∷ x) y ≡ true
    first y m =
        let r = Memᴰ.of_map (λ (z : List ℕ). c ∷ z) xs m in
        rw (← r.2) (before-rest c c x r.0 refl (p r.0 r.1))

-- the first members of two lists with the same members are equal, if each comes before the rest of its list
same_first : (x y : List ℕ) (xs ys : List (List ℕ)) → ((z : List ℕ) → Memᴰ z xs → before x z ≡ true)
    → ((z : List ℕ) → Memᴰ z ys → before y z ≡ true) → Memᴰ x (y ∷ ys) → Memᴰ y (x ∷ xs) → x ≡ y
same_first x y xs ys p q m k =
    ⊎_elim (λ (e : x ≡ y). e)
    (λ l. ⊎_elim (λ (e : y ≡ x). sym e) (λ j. absurd (before_irrefl x (before_trans x y x (p y j) (q x l)))) (Memᴰ.cases_cons k))
    (Memᴰ.cases_cons m)

-- and the rest of the one is in the rest of the other
rest-within : (x y : List ℕ) (xs ys : List (List ℕ)) → ((z : List ℕ) → Memᴰ z xs → before x z ≡ true) → x ≡ y
    → ((z : List ℕ) → Memᴰ z (x ∷ xs) → Memᴰ z (y ∷ ys)) → (z : List ℕ) → Memᴰ z xs → Memᴰ z ys
rest-within x y xs ys p e f z m =
    ⊎_elim (λ (d : z ≡ y). absurd (before_irrefl x (rw (d ∙ sym e) at (p z m)))) (λ k. k) (Memᴰ.cases_cons (f z (Memᴰ.tail m)))

-- two ascending lists with the same members are equal
pub ascending-equal : (xs ys : List (List ℕ)) → Ascending xs → Ascending ys → ((x : List ℕ) → Memᴰ x xs → Memᴰ x ys)
    → ((y : List ℕ) → Memᴰ y ys → Memᴰ y xs) → xs ≡ ys
ascending-equal [] [] none none f g = refl
ascending-equal [] (y ∷ ys) none (more q b) f g = absurd (Memᴰ.not-nil (g y (Memᴰ.head refl)))
ascending-equal (x ∷ xs) [] (more p a) none f g = absurd (Memᴰ.not-nil (f x (Memᴰ.head refl)))
ascending-equal (x ∷ xs) (y ∷ ys) (more p a) (more q b) f g =
    let e : x ≡ y = same_first x y xs ys p q (f x (Memᴰ.head refl)) (g y (Memᴰ.head refl)) in
    ap₂ (λ (h : List ℕ) (r : List (List ℕ)). h ∷ r) e
    (ascending-equal xs ys a b (rest-within x y xs ys p e f) (rest-within y x ys xs q (sym e) g))
