-- What the library's words for chains come to in the words of the meaning: all of the numbers below n is `each`, the position of a chunk is
-- the place of its record, the greatest of the letters is the largest, and so on. Each by induction on the number or on the list. Assumes
-- nothing.
use mathlib.Core.Path.{◌≡◌, refl, sym, ap, ◌∙◌}
use mathlib.Core.Bool.{Bool, true, false, cond, not, ◌&&◌, ◌||◌, and_assoc, and-true}
use mathlib.Core.List.{List, [], ◌∷◌, map}
use Prim.Native.Nat.{ℕ, zero, suc, ◌+◌, ◌-◌, ◌<◌, max}
use native.Mathlib.Nat.{zero-add}
use native.Mathlib.Decide.{dec_lt}
use native.Mathlib.Numerals.{add-one}
use native.Mathlib.Omega.{arith}
use lib.ListN.{length, get_or, drop, length-map}
use lib.Dec.{eqb, ltb}
use borrow.Author.Tests.{lt-ltb, le-ltb, ne_eqb}
use Rattle.std.specs.Prelude.{Option, Some, None, position, fold}
use Rattle.std.specs.Option.{MatchOption, IsSomeAnd, option_map, unwrap_or}
use Rattle.std.specs.List.{filter, zip, reduce, list_all, list_any, range_with_len, enumerate_from, position_or_len}
use Rattle.std.proofs.lemmas.List.{get_or-map, length-drop}
use Rattle.std.proofs.lemmas.Slice.Zip.{length-zip}
use Rattle.std.proofs.lemmas.List.FromFn.{length-range_with_len, get_or-range_with_len, length-enumerate_from, get_or-enumerate_from}
use Rattle.meaning.specs.Lists.{each, place, first, largest}
use Rattle.meaning.specs.Records.{Record, of_kind, at, blank, ascends}
use Rattle.meaning.specs.Table.{letters}
use Rattle.meaning.specs.Checks.{descent}
use Rattle.meaning.proofs.Tests.{each_same, largest-same}
use Rattle.table.specs.Packed.{of_bytes}
use Rattle.table.specs.Checked.{below}

-- the first number apart
each_front : (n : ℕ) (f : ℕ → Bool) → (f 0 && each n (λ k. f (suc k))) ≡ each (suc n) f
each_front zero f = and-true (f 0)
each_front (suc n) f =
    sym (and_assoc (f 0) (each n (λ k. f (suc k))) (f (suc n))) ∙ ap (λ (b : Bool). b && f (suc n)) (each_front n f)

-- all of a list, and all of the numbers below n
pub all-each : {A : Type 0} (test : A → Bool) (xs : List A) (d : A) → list_all test xs ≡ each (length xs) (λ i. test (get_or xs i d))
all-each test [] d = refl
all-each test (x ∷ xs) d =
    ap (λ (b : Bool). test x && b) (all-each test xs d) ∙ each_front (length xs) (λ i. test (get_or (x ∷ xs) i d))

pub all-range : (n : ℕ) (test : ℕ → Bool) → list_all test (range_with_len 0 n) ≡ each n test
all-range n test =
    all-each test (range_with_len 0 n) 0
    ∙ rw (length-range_with_len 0 n)
    (each_same n (λ i. test (get_or (range_with_len 0 n) i 0)) test
    (λ i h. ap test (get_or-range_with_len 0 n i 0 h ∙ zero-add i)))

-- the largest of a list
largest_front : (n : ℕ) (f : ℕ → ℕ) → max (f 0) (largest n (λ i. f (suc i))) ≡ largest (suc n) f
largest_front zero f = omega arith
largest_front (suc n) f = omega (arith, largest_front n f)

fold-largest : (top : ℕ) (xs : List ℕ) → fold max top xs ≡ max top (largest (length xs) (λ i. get_or xs i 0))
fold-largest top [] = omega arith
fold-largest top (x ∷ xs) =
    omega (arith, fold-largest (max top x) xs, largest_front (length xs) (λ i. get_or (x ∷ xs) i 0))

pub reduce-largest : (xs : List ℕ) → unwrap_or (reduce max xs) 0 ≡ largest (length xs) (λ i. get_or xs i 0)
reduce-largest [] = refl
reduce-largest (x ∷ xs) = fold-largest x xs ∙ largest_front (length xs) (λ i. get_or (x ∷ xs) i 0)

-- the position of a chunk that states a record, and the place of that record
module _ (test : Record → Bool) where
  place-chunk : (chunks : List (List ℕ)) → position_or_len (λ bytes. test (of_bytes bytes)) chunks ≡ place test (map of_bytes chunks)
  place-chunk [] = refl
  place-chunk (x ∷ xs) = go (test (of_bytes x)) (place-chunk xs)
    where
      go : (b : Bool) → position_or_len (λ bytes. test (of_bytes bytes)) xs ≡ place test (map of_bytes xs)
          → cond (not b) (1 + position_or_len (λ bytes. test (of_bytes bytes)) xs) 0 ≡ cond b zero (suc (place test (map of_bytes xs)))
      go true e = refl
      go false e = omega arith

  pub record-found : (chunks : List (List ℕ)) (rs : List Record) → map of_bytes chunks ≡ rs
      → position (λ bytes. test (of_bytes bytes)) chunks ≡ below rs (place test rs)
  record-found chunks rs e = rw (place-chunk chunks, sym (length-map chunks of_bytes), e)

-- the records of a kind, filtered from the records that chunks state
filtered : (kind : ℕ) (rs : List Record) → filter (λ (r : Record). eqb r.kind kind) rs ≡ of_kind kind rs
unfolding of_kind
filtered kind [] = refl
filtered kind (r ∷ rs) = ap (λ (l : List Record). cond (eqb r.kind kind) (r ∷ l) l) (filtered kind rs)

pub kind-filtered : (kind : ℕ) (chunks : List (List ℕ)) (rs : List Record) → map of_bytes chunks ≡ rs
    → filter (λ (r : Record). eqb r.kind kind) (map of_bytes chunks) ≡ of_kind kind rs
kind-filtered kind chunks rs e = rw e (filtered kind rs)

-- whether a record of a kind is among them
some_of : (kind : ℕ) (rs : List Record) → list_any (λ (r : Record). eqb r.kind kind) rs ≡ not (eqb (length (of_kind kind rs)) 0)
unfolding of_kind
some_of kind [] = refl
some_of kind (r ∷ rs) = go (eqb r.kind kind) (some_of kind rs)
  where
    go : (b : Bool) → list_any (λ (r : Record). eqb r.kind kind) rs ≡ not (eqb (length (of_kind kind rs)) 0)
        → (b || list_any (λ (r : Record). eqb r.kind kind) rs) ≡ not (eqb (length (cond b (r ∷ of_kind kind rs) (of_kind kind rs))) 0)
    go true e = sym (ap not (ne_eqb (suc (length (of_kind kind rs))) 0 (λ z. omega (arith, z))))
    go false e = e

any_chunk : (kind : ℕ) (chunks : List (List ℕ))
    → list_any (λ bytes. eqb (of_bytes bytes).kind kind) chunks ≡ list_any (λ (r : Record). eqb r.kind kind) (map of_bytes chunks)
any_chunk kind [] = refl
any_chunk kind (x ∷ xs) = ap (λ (b : Bool). eqb (of_bytes x).kind kind || b) (any_chunk kind xs)

pub any_of_kind : (kind : ℕ) (chunks : List (List ℕ)) (rs : List Record) → map of_bytes chunks ≡ rs
    → list_any (λ bytes. eqb (of_bytes bytes).kind kind) chunks ≡ not (eqb (length (of_kind kind rs)) 0)
any_of_kind kind chunks rs e = any_chunk kind chunks ∙ rw e (some_of kind rs)

-- so the states of a side each bear their number, and the number of letters is one more than the largest
pub numbered-all : (ss : List Record)
    → list_all (λ (p : ℕ × Record). eqb p.1.from p.0) (enumerate_from 0 ss) ≡ each (length ss) (λ i. eqb (at ss i).from i)
numbered-all ss =
    let test : ℕ × Record → Bool = λ p. eqb p.1.from p.0 in
    let listed = enumerate_from 0 ss in
    all-each test listed (0, blank)
    ∙ rw (length-enumerate_from 0 ss)
    (each_same (length ss) (λ i. test (get_or listed i (0, blank))) (λ i. eqb (at ss i).from i)
    (λ i h. ap test (get_or-enumerate_from 0 ss i (0, blank) h) ∙ ap (eqb (at ss i).from) (zero-add i)))

pub letters-largest : (kind : ℕ) (rs : List Record)
    → unwrap_or (reduce max (map (λ (r : Record). r.letter + 1) (of_kind kind rs))) 0 ≡ letters kind rs
unfolding letters
letters-largest kind rs =
    let es = of_kind kind rs in
    let next : Record → ℕ = λ r. r.letter + 1 in
    reduce-largest (map next es)
    ∙ rw (length-map es next)
    (largest-same (length es) (λ i. get_or (map next es) i 0) (λ i. suc (at es i).letter)
    (λ i h. get_or-map next es i blank 0 h ∙ add-one (at es i).letter))

-- two neighbours: the place of the first record that does not ascend from the one before it
abbrev descends : List Record → ℕ → Bool
descends rs i = not (ascends (at rs i) (at rs (suc i)))

abbrev pub descend : List ℕ × List ℕ → Bool
descend p = not (ascends (of_bytes p.0) (of_bytes p.1))

neighbours : (chunks : List (List ℕ))
    → position_or_len descend (zip chunks (drop 1 chunks)) ≡ first (length chunks - 1) (descends (map of_bytes chunks))
neighbours [] = refl
neighbours (x ∷ []) = refl
neighbours (x ∷ y ∷ rest) =
    let rs = map of_bytes (x ∷ y ∷ rest) in
    let one : suc (length rest) - 1 ≡ length rest = omega arith in
    let two : suc (suc (length rest)) - 1 ≡ suc (length rest) = omega arith in
    let more = rw one at (neighbours (y ∷ rest)) in
    rw two (go (descends rs 0) (position_or_len descend (zip (y ∷ rest) rest)) _ more)
  where
    go : (b : Bool) (p q : ℕ) → p ≡ q → cond (not b) (1 + p) 0 ≡ cond b 0 (suc q)
    go true p q e = refl
    go false p q e = omega arith

pub later : (post : ℕ → ℕ → Type 0) → ((x y : ℕ) → post x y → y ≡ x + 1) → (o r : Option ℕ)
    → MatchOption o (r ≡ None) (λ x. IsSomeAnd r (post x)) → r ≡ option_map (λ x. x + 1) o
later post same None r h = h
later post same (Some x) None h = absurd h
later post same (Some x) (Some y) h = ap Some (same x y h)

one_later : (p n : ℕ)
    → option_map (λ (x : ℕ). x + 1) (cond (ltb p (n - 1)) (Some p) None) ≡ cond (ltb (suc p) n) (Some (suc p)) None
one_later p n = go (dec_lt p (n - 1))
  where
    go : Dec (p < n - 1)
        → option_map (λ (x : ℕ). x + 1) (cond (ltb p (n - 1)) (Some p) None) ≡ cond (ltb (suc p) n) (Some (suc p)) None
    go (yes h) = rw (lt-ltb p (n - 1) h, lt-ltb (suc p) n (omega arith)) (ap Some (add-one p))
    go (no h) = rw (le-ltb p (n - 1) (omega arith), le-ltb (suc p) n (omega arith))

pub descent-found : (chunks : List (List ℕ)) (rs : List Record) → map of_bytes chunks ≡ rs
    → option_map (λ (x : ℕ). x + 1) (position descend (zip chunks (drop 1 chunks))) ≡ below rs (descent rs)
unfolding descent
descent-found chunks rs e =
    let same : length (zip chunks (drop 1 chunks)) ≡ length chunks - 1 =
    omega (arith, length-zip chunks (drop 1 chunks), length-drop 1 chunks) in
    rw (neighbours chunks, same, sym (length-map chunks of_bytes), e) (one_later (first (length rs - 1) (descends rs)) (length rs))
