-- Laws of lists and of the words of specs/Lists.antt about them: what stands at a place of a tab, what a test over a list says of its
-- members and the other way round, what keep leaves, where place finds, and the members and parts of a flat_map. By induction on the list.
use mathlib.Core.Path.{◌≡◌, refl, sym, ap, ap₂, ◌∙◌}
use mathlib.Core.Logic.{◌⊎◌, inl, inr, ⊎_elim}
use mathlib.Core.Bool.{Bool, true, false, cond, true≢false}
use mathlib.Core.List.Memᴰ
use mathlib.Core.List.{List, [], ◌∷◌, ◌++◌, map, flat_map, Memᴰ}
use mathlib.Core.List.{append_assoc, append-nil}
use Prim.Native.Nat.{ℕ, zero, suc, ◌+◌, ◌*◌, ◌≤◌, ◌<◌, zero-le, suc-le-suc}
use native.Mathlib.Nat.{le_of_suc-le-suc, not-suc-le-zero, eq-or-lt_of_le, zero-add, suc-add, zero-mul, suc-mul}
use native.Mathlib.Omega.{arith}
use lib.ListN.{length, get_or, replicate, length-append, get_or-eq_default}
use lib.Dec.{ltb}
use borrow.Author.Tests.{ltb-true, ltb-false}
use Rattle.meaning.specs.Lists.{tab, keep, every, any, place}
use Rattle.meaning.proofs.Tests.{both, both_left, both_right, either_left, either-right, either_cases, clash, refuted, cond_cases}

module _ {A : Type 0} where
  -- tab
  pub tab-length : (n : ℕ) (f : ℕ → A) → length (tab n f) ≡ n
  tab-length zero f = refl
  tab-length (suc n) f = ap suc (tab-length n (λ i. f (suc i)))

  pub tab-at : (n : ℕ) (f : ℕ → A) (i : ℕ) (d : A) → i < n → get_or (tab n f) i d ≡ f i
  tab-at zero f i d h = absurd (not-suc-le-zero h)
  tab-at (suc n) f zero d h = refl
  tab-at (suc n) f (suc i) d h = tab-at n (λ j. f (suc j)) i d (le_of_suc-le-suc h)

  pub tab_beyond : (n : ℕ) (f : ℕ → A) (i : ℕ) (d : A) → n ≤ i → get_or (tab n f) i d ≡ d
  tab_beyond zero f i d h = refl
  tab_beyond (suc n) f zero d h = absurd (not-suc-le-zero h)
  tab_beyond (suc n) f (suc i) d h = tab_beyond n (λ j. f (suc j)) i d (le_of_suc-le-suc h)

  pub tab-same : (n : ℕ) (f g : ℕ → A) → ((i : ℕ) → i < n → f i ≡ g i) → tab n f ≡ tab n g
  tab-same zero f g p = refl
  tab-same (suc n) f g p =
      ap₂ (λ (x : A) (xs : List A). x ∷ xs) (p zero (omega arith))
      (tab-same n (λ i. f (suc i)) (λ i. g (suc i)) (λ i h. p (suc i) (suc-le-suc h)))

  -- over the numbers below a sum: first those below n, then the others
  pub tab_sum : (n m : ℕ) (f g k : ℕ → A) → ((i : ℕ) → i < n → f i ≡ g i) → ((i : ℕ) → i < m → f (n + i) ≡ k i)
      → tab (n + m) f ≡ tab n g ++ tab m k
  tab_sum zero m f g k p q = rw zero-add (tab-same m f k (λ i l. ap f (sym (zero-add i)) ∙ q i l))
  tab_sum (suc n) m f g k p q =
      rw suc-add
      (ap₂ (λ (x : A) (xs : List A). x ∷ xs) (p zero (omega arith))
      (tab_sum n m (λ i. f (suc i)) (λ i. g (suc i)) k (λ i l. p (suc i) (omega arith)) (λ i l. ap f (sym (suc-add n i)) ∙ q i l)))

  -- the members of a tab
  pub tab-member : (n : ℕ) (f : ℕ → A) (i : ℕ) → i < n → Memᴰ (f i) (tab n f)
  tab-member zero f i h = absurd (not-suc-le-zero h)
  tab-member (suc n) f zero h = Memᴰ.head refl
  tab-member (suc n) f (suc i) h = Memᴰ.tail (tab-member n (λ j. f (suc j)) i (le_of_suc-le-suc h))

  pub member-tab : (n : ℕ) (f : ℕ → A) (x : A) → Memᴰ x (tab n f) → (i : ℕ) × (i < n) × (x ≡ f i)
  member-tab zero f x m = absurd (Memᴰ.not-nil m)
  member-tab (suc n) f x m = go (Memᴰ.cases_cons m) (member-tab n (λ j. f (suc j)) x)
    where
      go : (x ≡ f zero) ⊎ Memᴰ x (tab n (λ j. f (suc j)))
          → (Memᴰ x (tab n (λ j. f (suc j))) → (i : ℕ) × (i < n) × (x ≡ f (suc i))) → (i : ℕ) × (i < suc n) × (x ≡ f i)
      go (inl e) rest = (zero, suc-le-suc zero-le, e)
      go (inr k) rest = let r = rest k in (suc r.0, suc-le-suc r.1, r.2)

  -- a member stands at a place, and what stands at a place is a member
  pub member-at : (xs : List A) (i : ℕ) (d : A) → i < length xs → Memᴰ (get_or xs i d) xs
  member-at [] i d h = absurd (not-suc-le-zero h)
  member-at (x ∷ xs) zero d h = Memᴰ.head refl
  member-at (x ∷ xs) (suc i) d h = Memᴰ.tail (member-at xs i d (le_of_suc-le-suc h))

  pub at-member : (xs : List A) (x d : A) → Memᴰ x xs → (i : ℕ) × (i < length xs) × (get_or xs i d ≡ x)
  at-member [] x d m = absurd (Memᴰ.not-nil m)
  at-member (y ∷ xs) x d m = go (Memᴰ.cases_cons m) (at-member xs x d)
    where
      go : (x ≡ y) ⊎ Memᴰ x xs → (Memᴰ x xs → (i : ℕ) × (i < length xs) × (get_or xs i d ≡ x))
          → (i : ℕ) × (i < suc (length xs)) × (get_or (y ∷ xs) i d ≡ x)
      go (inl e) rest = (zero, suc-le-suc zero-le, sym e)
      go (inr k) rest = let r = rest k in (suc r.0, suc-le-suc r.1, r.2)

  -- the members of a list, each changed by f
  pub map_at : {B : Type 0} (f : A → B) (xs : List A) (i : ℕ) (d : A) (e : B) → i < length xs → get_or (map f xs) i e ≡ f (get_or xs i d)
  map_at f [] i d e h = absurd (not-suc-le-zero h)
  map_at f (x ∷ xs) zero d e h = refl
  map_at f (x ∷ xs) (suc i) d e h = map_at f xs i d e (le_of_suc-le-suc h)

  -- every and any
  pub every-at : (f : A → Bool) (xs : List A) (x : A) → every f xs ≡ true → Memᴰ x xs → f x ≡ true
  every-at f [] x p m = absurd (Memᴰ.not-nil m)
  every-at f (y ∷ xs) x p m =
      ⊎_elim (λ (e : x ≡ y). ap f e ∙ both_left (f y) (every f xs) p) (λ k. every-at f xs x (both_right (f y) (every f xs) p) k)
      (Memᴰ.cases_cons m)

  pub every_of : (f : A → Bool) (xs : List A) → ((x : A) → Memᴰ x xs → f x ≡ true) → every f xs ≡ true
  every_of f [] p = refl
  every_of f (x ∷ xs) p =
      both (f x) (every f xs) (p x (Memᴰ.head refl)) (every_of f xs (λ y m. p y (Memᴰ.tail m)))

  -- and of the default where a place is past them
  pub every_default : (f : A → Bool) (xs : List A) (i : ℕ) (d : A) → f d ≡ true → every f xs ≡ true → f (get_or xs i d) ≡ true
  every_default f [] i d h p = h
  every_default f (x ∷ xs) zero d h p = both_left (f x) (every f xs) p
  every_default f (x ∷ xs) (suc i) d h p = every_default f xs i d h (both_right (f x) (every f xs) p)

  pub any_at : (f : A → Bool) (xs : List A) → any f xs ≡ true → (x : A) × Memᴰ x xs × (f x ≡ true)
  any_at f [] p = absurd (true≢false (sym p))
  any_at f (x ∷ xs) p = go (either_cases (f x) (any f xs) p) (any_at f xs)
    where
      go : (f x ≡ true) ⊎ (any f xs ≡ true) → (any f xs ≡ true → (y : A) × Memᴰ y xs × (f y ≡ true))
          → (y : A) × Memᴰ y (x ∷ xs) × (f y ≡ true)
      go (inl q) rest = (x, Memᴰ.head refl, q)
      go (inr q) rest = let r = rest q in (r.0, Memᴰ.tail r.1, r.2)

  pub any_of : (f : A → Bool) (xs : List A) (x : A) → Memᴰ x xs → f x ≡ true → any f xs ≡ true
  any_of f [] x m p = absurd (Memᴰ.not-nil m)
  any_of f (y ∷ xs) x m p =
      ⊎_elim (λ (e : x ≡ y). either_left (f y) (any f xs) (ap f (sym e) ∙ p)) (λ k. either-right (f y) (any f xs) (any_of f xs x k p))
      (Memᴰ.cases_cons m)

  -- keep
  pub keep_one_lem : (b : Bool) (x : A) (r : List A) (P : List A → Type 0) → (b ≡ true → P (x ∷ r)) → (b ≡ false → P r)
      → P (cond b (x ∷ r) r)
  keep_one_lem b x r P p q = cond_cases b (x ∷ r) r P p q

  pub keep-member : (f : A → Bool) (xs : List A) (x : A) → Memᴰ x (keep f xs) → Memᴰ x xs
  keep-member f [] x = λ m. m
  keep-member f (y ∷ xs) x =
      keep_one_lem (f y) y (keep f xs) (λ l. Memᴰ x l → Memᴰ x (y ∷ xs))
      (λ _ m. ⊎_elim (λ (e : x ≡ y). Memᴰ.head e) (λ k. Memᴰ.tail (keep-member f xs x k)) (Memᴰ.cases_cons m))
      (λ _ m. Memᴰ.tail (keep-member f xs x m))

  pub keep-holds : (f : A → Bool) (xs : List A) (x : A) → Memᴰ x (keep f xs) → f x ≡ true
  keep-holds f [] x = λ m. absurd (Memᴰ.not-nil m)
  keep-holds f (y ∷ xs) x =
      keep_one_lem (f y) y (keep f xs) (λ l. Memᴰ x l → f x ≡ true)
      (λ p m. ⊎_elim (λ (e : x ≡ y). ap f e ∙ p) (λ k. keep-holds f xs x k) (Memᴰ.cases_cons m))
      (λ _ m. keep-holds f xs x m)

  pub keep-of : (f : A → Bool) (xs : List A) (x : A) → Memᴰ x xs → f x ≡ true → Memᴰ x (keep f xs)
  keep-of f [] x m p = m
  keep-of f (y ∷ xs) x m p =
      keep_one_lem (f y) y (keep f xs) (λ l. Memᴰ x l)
      (λ _. ⊎_elim (λ (e : x ≡ y). Memᴰ.head e) (λ k. Memᴰ.tail (keep-of f xs x k p)) (Memᴰ.cases_cons m))
      (λ q. ⊎_elim (λ (e : x ≡ y). absurd (clash (f y) (ap f (sym e) ∙ p) q)) (λ k. keep-of f xs x k p) (Memᴰ.cases_cons m))

  pub keep_same : (f g : A → Bool) (xs : List A) → ((x : A) → Memᴰ x xs → f x ≡ g x) → keep f xs ≡ keep g xs
  keep_same f g [] p = refl
  keep_same f g (x ∷ xs) p =
      ap₂ (λ (b : Bool) (r : List A). cond b (x ∷ r) r) (p x (Memᴰ.head refl)) (keep_same f g xs (λ y m. p y (Memᴰ.tail m)))

  pub keep_append : (f : A → Bool) (xs ys : List A) → keep f (xs ++ ys) ≡ keep f xs ++ keep f ys
  keep_append f [] ys = refl
  keep_append f (x ∷ xs) ys =
      keep_one_lem (f x) x (keep f xs) (λ l. cond (f x) (x ∷ keep f (xs ++ ys)) (keep f (xs ++ ys)) ≡ l ++ keep f ys)
      (λ p. ap {B = List A} (λ b. cond b (x ∷ keep f (xs ++ ys)) (keep f (xs ++ ys))) p
      ∙ ap {B = List A} (λ l. x ∷ l) (keep_append f xs ys))
      (λ p. ap {B = List A} (λ b. cond b (x ∷ keep f (xs ++ ys)) (keep f (xs ++ ys))) p ∙ keep_append f xs ys)

  pub keep-map : {B : Type 0} (f : B → Bool) (g : A → B) (xs : List A) → keep f (map g xs) ≡ map g (keep (λ x. f (g x)) xs)
  keep-map f g [] = refl
  keep-map {B} f g (x ∷ xs) = go (f (g x)) (keep-map f g xs)
    where
      go : (b : Bool) → keep f (map g xs) ≡ map g (keep (λ x. f (g x)) xs)
          → cond b (g x ∷ keep f (map g xs)) (keep f (map g xs)) ≡ map g (cond b (x ∷ keep (λ x. f (g x)) xs) (keep (λ x. f (g x)) xs))
      go true e = ap {B = List B} (λ l. g x ∷ l) e
      go false e = e

  pub keep_all : (f : A → Bool) (xs : List A) → ((x : A) → Memᴰ x xs → f x ≡ true) → keep f xs ≡ xs
  keep_all f [] p = refl
  keep_all f (x ∷ xs) p =
      rw (p x (Memᴰ.head refl)) (ap {B = List A} (λ l. x ∷ l) (keep_all f xs (λ y m. p y (Memᴰ.tail m))))

  pub keep-none : (f : A → Bool) (xs : List A) → ((x : A) → Memᴰ x xs → f x ≡ false) → keep f xs ≡ []
  keep-none f [] p = refl
  keep-none f (x ∷ xs) p = rw (p x (Memᴰ.head refl)) (keep-none f xs (λ y m. p y (Memᴰ.tail m)))

  -- place
  pub place-le : (f : A → Bool) (xs : List A) → place f xs ≤ length xs
  place-le f [] = zero-le
  place-le f (x ∷ xs) = cond_cases (f x) zero (suc (place f xs)) (λ r. r ≤ suc (length xs)) (λ _. zero-le) (λ _. suc-le-suc (place-le f xs))

  pub place-holds : (f : A → Bool) (xs : List A) (d : A) → place f xs < length xs → f (get_or xs (place f xs) d) ≡ true
  place-holds f [] d = λ h. absurd (not-suc-le-zero h)
  place-holds f (x ∷ xs) d =
      cond_cases (f x) zero (suc (place f xs)) (λ r. r < suc (length xs) → f (get_or (x ∷ xs) r d) ≡ true) (λ p _. p)
      (λ _ h. place-holds f xs d (le_of_suc-le-suc h))

  pub place-before : (f : A → Bool) (xs : List A) (d : A) (i : ℕ) → i < place f xs → f (get_or xs i d) ≡ false
  place-before f [] d i = λ h. absurd (not-suc-le-zero h)
  place-before f (x ∷ xs) d i =
      cond_cases (f x) zero (suc (place f xs)) (λ r. i < r → f (get_or (x ∷ xs) i d) ≡ false) (λ _ h. absurd (not-suc-le-zero h))
      (λ p h. go i p h (place-before f xs d))
    where
      go : (i : ℕ) → f x ≡ false → i < suc (place f xs) → ((j : ℕ) → j < place f xs → f (get_or xs j d) ≡ false)
          → f (get_or (x ∷ xs) i d) ≡ false
      go zero p h rest = p
      go (suc i) p h rest = rest i (le_of_suc-le-suc h)

  pub place_found : (f : A → Bool) (xs : List A) (d : A) (i : ℕ) → i < length xs → f (get_or xs i d) ≡ true → place f xs ≤ i
  place_found f [] d i h p = absurd (not-suc-le-zero h)
  place_found f (x ∷ xs) d zero h p =
      cond_cases (f x) zero (suc (place f xs)) (λ r. r ≤ zero) (λ _. zero-le) (λ q. absurd (clash (f x) p q))
  place_found f (x ∷ xs) d (suc i) h p =
      cond_cases (f x) zero (suc (place f xs)) (λ r. r ≤ suc i) (λ _. zero-le)
      (λ _. suc-le-suc (place_found f xs d i (le_of_suc-le-suc h) p))

  -- a test that has no place in a list holds of none of its members
  pub no_place : (f : A → Bool) (xs : List A) → ltb (place f xs) (length xs) ≡ false → (x : A) → Memᴰ x xs → f x ≡ false
  no_place f xs p x m =
      let i = at-member xs x x m in
      refuted (f x)
      (λ h. omega (arith, ltb-false (place f xs) (length xs) p, place_found f xs x i.0 i.1 (ap f i.2 ∙ h), i.1))

  pub placeless : (f : A → Bool) (xs : List A) → ((x : A) → Memᴰ x xs → f x ≡ false) → ltb (place f xs) (length xs) ≡ false
  placeless f [] p = refl
  placeless f (x ∷ xs) p =
      let i = place f (x ∷ xs) in
      refuted (ltb i (length (x ∷ xs)))
      (λ h. let l = ltb-true i (length (x ∷ xs)) h in clash _ (place-holds f (x ∷ xs) x l) (p _ (member-at (x ∷ xs) i x l)))

  -- what a look-up finds: a member, or else the default
  pub found_or_default : (f : A → Bool) (xs : List A) (d : A) → Memᴰ (get_or xs (place f xs) d) xs ⊎ (get_or xs (place f xs) d ≡ d)
  found_or_default f xs d =
      ⊎_elim (λ (e : place f xs ≡ length xs). inr (get_or-eq_default xs d (omega arith))) (λ l. inl (member-at xs (place f xs) d l))
      (eq-or-lt_of_le (place-le f xs))

  -- where some member fits, the look-up finds one that fits
  pub found : (f : A → Bool) (xs : List A) (x d : A) → Memᴰ x xs → f x ≡ true
      → Memᴰ (get_or xs (place f xs) d) xs × (f (get_or xs (place f xs) d) ≡ true)
  found f xs x d m p =
      let i = at-member xs x d m in
      let h : i.0 < length xs = i.1 in
      let l : place f xs < length xs = omega (arith, place_found f xs d i.0 h (ap f i.2 ∙ p)) in
      (member-at xs (place f xs) d l, place-holds f xs d l)

module _ {A B : Type 0} (f : A → List B) where
  -- the members of a flat_map
  pub flat_map-member : (xs : List A) (x : A) (y : B) → Memᴰ x xs → Memᴰ y (f x) → Memᴰ y (flat_map f xs)
  unfolding flat_map
  flat_map-member [] x y m k = absurd (Memᴰ.not-nil m)
  flat_map-member (z ∷ xs) x y m k =
      ⊎_elim (λ (e : x ≡ z). Memᴰ.append_left (flat_map f xs) (rw e at k)) (λ l. Memᴰ.append_right (f z) (flat_map-member xs x y l k))
      (Memᴰ.cases_cons m)

  pub member-flat_map : (xs : List A) (y : B) → Memᴰ y (flat_map f xs) → (x : A) × Memᴰ x xs × Memᴰ y (f x)
  unfolding flat_map
  member-flat_map [] y m = absurd (Memᴰ.not-nil m)
  member-flat_map (x ∷ xs) y m = go (Memᴰ.append_cases (f x) m) (member-flat_map xs y)
    where
      go : Memᴰ y (f x) ⊎ Memᴰ y (flat_map f xs) → (Memᴰ y (flat_map f xs) → (z : A) × Memᴰ z xs × Memᴰ y (f z))
          → (z : A) × Memᴰ z (x ∷ xs) × Memᴰ y (f z)
      go (inl k) rest = (x, Memᴰ.head refl, k)
      go (inr k) rest = let r = rest k in (r.0, Memᴰ.tail r.1, r.2)

  -- lists of one length, one after the other
  pub flat_map-length : (m : ℕ) (xs : List A) → ((x : A) → length (f x) ≡ m) → length (flat_map f xs) ≡ length xs * m
  unfolding flat_map
  flat_map-length m [] p = sym (zero-mul m)
  flat_map-length m (x ∷ xs) p = length-append (f x) (flat_map f xs) ∙ rw (suc-mul, p x, flat_map-length m xs p) (omega arith)

  -- two lists one after the other, and one member more
  pub flat_map-append : (xs ys : List A) → flat_map f (xs ++ ys) ≡ flat_map f xs ++ flat_map f ys
  unfolding flat_map
  flat_map-append [] ys = refl
  flat_map-append (x ∷ xs) ys = rw (flat_map-append xs ys, append_assoc)

  pub flat_map-more : (xs : List A) (x : A) → flat_map f (xs ++ x ∷ []) ≡ flat_map f xs ++ f x
  unfolding flat_map
  flat_map-more xs x = flat_map-append xs (x ∷ []) ∙ ap (λ l. flat_map f xs ++ l) (append-nil (f x))

-- what stands at a place of a list does not depend on what is read beyond its end
pub get_or-inside : {A : Type 0} (l : List A) (i : ℕ) (d e : A) → i < length l → get_or l i d ≡ get_or l i e
get_or-inside [] i d e h = absurd (not-suc-le-zero h)
get_or-inside (x ∷ l) zero d e h = refl
get_or-inside (x ∷ l) (suc i) d e h = get_or-inside l i d e (le_of_suc-le-suc h)

-- a list of one value has it everywhere
pub get_or_alike : {A : Type 0} (n i : ℕ) (a : A) → get_or (replicate n a) i a ≡ a
get_or_alike zero i a = refl
get_or_alike (suc n) zero a = refl
get_or_alike (suc n) (suc i) a = get_or_alike n i a
