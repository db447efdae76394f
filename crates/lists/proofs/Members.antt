-- Positions in a list of words: how many there are, that each has eight counts, what stands at a place, and what
-- one more of them is. Positions are the words' counts, so each law is the library's law of map, take, drop or set. Assumes nothing.
use mathlib.Core.Path.{◌≡◌, refl, sym, ap, ◌∙◌}
use mathlib.Core.List.Memᴰ
use mathlib.Core.List.{List, [], ◌∷◌, ◌++◌, map, map-append, reverse, reverse-cons, Memᴰ}
use Prim.Native.Nat.{ℕ, suc, ◌+◌, ◌-◌, ◌≤◌, ◌<◌}
use native.Mathlib.Numerals.{add-one}
use native.Mathlib.Omega.{arith}
use lib.ListN.{length, take, drop, get_or, length-map, length-take, get_or-map}
use lib.Seq.{take-suc, take-take, drop-cons, split_at, get_or-take, length-take-le}
use Rattle.meaning.specs.Counting.{Position}
use Rattle.counts.specs.Words.{counts_in}
use Rattle.counts.proofs.Bytes.{counts_in-length}
use Rattle.lists.specs.Members.{positions}

-- all positions of a list have n counts
abbrev pub Sized : ℕ → List Position → Type 0
Sized n Fs = (F : Position) → Memᴰ F Fs → length F ≡ n

pub positions-length : (set : List ℕ) → length (positions set) ≡ length set
unfolding positions
positions-length set = length-map set counts_in

pub positions_wide : (set : List ℕ) → Sized 8 (positions set)
unfolding positions
positions_wide set F m = let r = Memᴰ.of_map counts_in set m in rw (← r.2) (counts_in-length r.0)

pub positions-at : (set : List ℕ) (i : ℕ) → get_or (positions set) i (counts_in 0) ≡ counts_in (get_or set i 0)
unfolding positions
positions-at set i = get_or-map counts_in set i 0

-- one list after another, and one word more
pub positions-append : (xs ys : List ℕ) → positions (xs ++ ys) ≡ positions xs ++ positions ys
unfolding positions
positions-append xs ys = map-append counts_in xs ys

pub positions-more : (xs : List ℕ) (x : ℕ) → positions (xs ++ x ∷ []) ≡ positions xs ++ counts_in x ∷ []
unfolding positions
positions-more xs x = map-append counts_in xs (x ∷ [])

-- words turned round
pub positions-reverse : (set : List ℕ) → positions (reverse set) ≡ reverse (positions set)
unfolding positions
positions-reverse [] = refl
positions-reverse (x ∷ set) =
    rw (reverse-cons x set, map-append counts_in (reverse set) (x ∷ []), positions-reverse set)
    (sym (reverse-cons (counts_in x) (map counts_in set)))

-- the words before a place, the word there, and those after it
module _ (set : List ℕ) (i : ℕ) (h : i < length set) where
  pub positions-next : positions (take (i + 1) set) ≡ positions (take i set) ++ counts_in (get_or set i 0) ∷ []
  positions-next = rw (add-one i, take-suc set i 0 h) (positions-more (take i set) (get_or set i 0))

  pub positions-split : positions set ≡ positions (take i set) ++ counts_in (get_or set i 0) ∷ positions (drop (i + 1) set)
  unfolding positions
  positions-split =
      ap (map counts_in) (split_at set i 0 h)
      ∙ rw (add-one i) (map-append counts_in (take i set) (get_or set i 0 ∷ drop (suc i) set))

  pub positions-from : positions (drop i set) ≡ counts_in (get_or set i 0) ∷ positions (drop (i + 1) set)
  unfolding positions
  positions-from = rw (add-one i, drop-cons set i 0 h)

-- the first n positions
abbrev pub front : List ℕ → ℕ → List Position
front all n = positions (take n all)

module _ (all : List ℕ) where
  pub front-length : (n : ℕ) → n ≤ length all → length (front all n) ≡ n
  front-length n h = positions-length (take n all) ∙ length-take-le n all h

  -- the last of them
  pub front-last : (i : ℕ) → 0 < i → i ≤ length all → front all i ≡ front all (i - 1) ++ counts_in (get_or all (i - 1) 0) ∷ []
  front-last i l h =
      let e : i ≡ i - 1 + 1 = omega arith in
      ap (front all) e ∙ positions-next all (i - 1) (omega arith)

  -- those after one of them
  abbrev pub front-after : ℕ → ℕ → List Position
  front-after i n = positions (drop (suc i) (take n all))

  pub front-split : (i n : ℕ) → i < n → i < length all → front all n ≡ front all i ++ counts_in (get_or all i 0) ∷ front-after i n
  unfolding positions
  front-split i n l h =
      ap (map counts_in) (split_at (take n all) i 0 (omega (arith, length-take n all)))
      ∙ rw (take-take i n all (omega arith), get_or-take n all i 0 l)
      (map-append counts_in (take i all) (get_or all i 0 ∷ drop (suc i) (take n all)))
