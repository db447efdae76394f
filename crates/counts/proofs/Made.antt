-- What a function gives at each place, and the word of eight bytes that it gives. Where a call leaves the function as it was, each item
-- is what the function gives at its place at first (`given_at`), by induction on the number of places; and the number of eight bytes, the
-- first in the highest, has them for its counts, each without its top bit (`counts-of_bytes`), by the law of a word's last byte
-- (Bytes.antt). So a function whose bytes are known makes a known position (`counts-given`, `wide-given`). Assumes nothing.
use mathlib.Core.Path.{◌≡◌, refl, sym, ap, ◌∙◌, subst}
use mathlib.Core.Logic.{⊎_elim}
use mathlib.Core.Bool.{Bool, true, false, cond}
use mathlib.Core.List.{List, [], ◌∷◌, ◌++◌, append_assoc}
use Prim.Native.Nat.{ℕ, zero, suc, ◌+◌, ◌*◌, ◌%◌, ◌≤◌, ◌<◌, zero-le}
use native.Mathlib.Nat.{eq-or-lt_of_le}
use native.Mathlib.Decide.{dec_lt}
use native.Mathlib.Numerals.{add-one}
use native.Mathlib.Omega.{arith}
use borrow.Author.Tests.{lt-ltb, le-ltb}
use lib.Dec.{ltb}
use denote.Param.Members.{Mut, Called}
use lib.ListN.{get_or}
use Rattle.std.specs.Array.{IsElementAt, IsFromFnResultFrom, index_steps}
use Rattle.std.specs.Iterator.{CallableAtEachTurn}
use Rattle.std.proofs.lemmas.Fn.{serves_by}
use Rattle.meaning.specs.Lists.{tab}
use Rattle.meaning.specs.Counting.{Position, count}
use Rattle.meaning.specs.Written.{position_bytes}
use Rattle.meaning.proofs.Lists.{tab-length, tab-at, tab_beyond, tab-same}
use Rattle.meaning.proofs.Steps.{same-counts}
use Rattle.meaning.proofs.Stores.{tab-more}
use Rattle.counts.specs.Words.{counts_before, counts_in, CountsGiven}
use Rattle.counts.proofs.Edges.{within}
use Rattle.counts.proofs.Bytes.{last-count, counts_in-length}

-- a function that a call leaves as it was
module _ {F B : Type 0} (g : Mut F (ℕ × Unit {0}) B) (f : F) (stays : (q : ℕ) (y : B) (t : F) → Called g f (q, tt) y t → t ≡ f) where
  -- may be called at each place, if it may be at first
  pub called_at_each : (n : ℕ) → ((q : ℕ) → q < n → g.pre f (q, tt))
      → CallableAtEachTurn (index_steps n) (λ p x q. (y : B) × Called g p (x, tt) y q) (λ p x. g.pre p (x, tt)) 0 f
  called_at_each n may =
      serves_by _ (λ xs q. q ≡ f)
      (λ xs q x v same called. stays x called.0 v (subst (λ p. Called g p (x, tt) called.0 v) same called.1)) (index_steps n) _ 0 f refl
      (λ xs t q x u yields step same. subst (λ p. g.pre p (x, tt)) (sym same) (may x (omega (arith, step))))

  -- and gives at each place what it gives at first
  pub given_at : (ys : List B) (n i : ℕ) (s : F) → s ≡ f → IsFromFnResultFrom g s ys i n
      → (q : ℕ) → i ≤ q → q < i + n → (y : B) × IsElementAt ys q y × ((t : F) × Called g f (q, tt) y t)
  given_at ys zero i s same made q from below = absurd (omega arith)
  given_at ys (suc n) i s same made q from below =
      let first : Called g f (i, tt) made.1 made.0 = subst (λ p. Called g p (i, tt) made.1 made.0) same made.3 in
      ⊎_elim
      (λ (here : i ≡ q). subst (λ q. (y : B) × IsElementAt ys q y × ((t : F) × Called g f (q, tt) y t)) here
      (made.1, made.2, (made.0, first)))
      (λ (later : i < q). given_at ys n (i + 1) made.0 (stays i made.1 made.0 first) made.4 q (omega arith) (omega arith))
      (eq-or-lt_of_le from)

  -- so what a call gives is what each item is
  pub items-given : (ys : List B) (n : ℕ) (P : ℕ → B → Type 0) → IsFromFnResultFrom g f ys 0 n
      → ((q : ℕ) (y : B) (t : F) → Called g f (q, tt) y t → P q y) → (q : ℕ) (d : B) → q < n → P q (get_or ys q d)
  items-given ys n P made gives q d l =
      let here = given_at ys n 0 f refl made q zero-le (omega arith) in
      subst (P q) (sym (here.1.1 d)) (gives q here.0 here.2.0 here.2.1)

-- the number of n bytes, the first in the highest
abbrev pub number : ℕ → (ℕ → ℕ) → ℕ
number zero f = 0
number (suc n) f = number n f * 256 + f n

pub counts-of_number : (n : ℕ) (f : ℕ → ℕ) (rest : Position) → ((q : ℕ) → f q < 256)
    → counts_before n (number n f) rest ≡ tab n (λ q. f q % 128) ++ rest
unfolding counts_before
counts-of_number zero f rest low = refl
counts-of_number (suc n) f rest low =
    let more : tab (n + 1) (λ q. f q % 128) ≡ tab n (λ q. f q % 128) ++ f n % 128 ∷ [] = tab-more n (λ q. f q % 128) in
    last-count n (number n f) (f n) rest (low n) ∙ counts-of_number n f (f n % 128 ∷ rest) low
    ∙ sym (append_assoc (tab n (λ q. f q % 128)) (f n % 128 ∷ []) rest) ∙ ap (λ (F : Position). F ++ rest) (sym (rw add-one at more))

pub counts-of_bytes : (f : ℕ → ℕ) → ((q : ℕ) → f q < 256)
    → counts_in (
    f 0 * 72057594037927936 + f 1 * 281474976710656 + f 2 * 1099511627776 + f 3 * 4294967296 + f 4 * 16777216 + f 5 * 65536 + f 6 * 256
    + f 7
    ) ≡ tab 8 (λ q. f q % 128)
unfolding counts_in
counts-of_bytes f low = ap (λ w. counts_before 8 w []) (omega arith) ∙ counts-of_number 8 f [] low

-- what is chosen of two counts is a count
pub chosen_low : (b : Bool) (x y : ℕ) → x < 128 → y < 128 → cond b x y < 128
chosen_low true x y h k = h
chosen_low false x y h k = k

-- a function whose bytes are known, each a count and no more
module _ (given : ℕ → ℕ → Type 0) (word : ℕ) (made : CountsGiven given word) (f : ℕ → ℕ) (low : (q : ℕ) → f q < 128) where
  pub counts-given : ((q byte : ℕ) → q < 8 → given q byte → byte ≡ f q) → counts_in word ≡ tab 8 f
  counts-given known =
      same-counts (counts_in word) (tab 8 f) (counts_in-length word ∙ sym (tab-length 8 f))
      (λ q l. let inside : q < 8 = rw (counts_in-length word) at l in
      let here = made q inside in
      let same : here.0 ≡ f q = known q here.0 inside here.1 in
      let whole : here.0 % 128 ≡ f q = omega (arith, same, low q) in
      here.2 ∙ whole ∙ sym (tab-at 8 f q 0 inside))

-- the same of a side of n states, which has no count beyond them
pub wide-given : (given : ℕ → ℕ → Type 0) (word : ℕ) → CountsGiven given word → (n : ℕ) (f : ℕ → ℕ) → ((q : ℕ) → f q < 128)
    → ((q byte : ℕ) → q < 8 → given q byte → byte ≡ within n 0 f q) → counts_in word ≡ position_bytes (tab n f)
unfolding position_bytes
wide-given given word made n f low known =
    counts-given given word made (within n 0 f) (λ q. chosen_low (ltb q n) (f q) 0 (low q) (omega arith)) known
    ∙ tab-same 8 (within n 0 f) (count (tab n f)) (λ q _. go q (dec_lt q n))
  where
    go : (q : ℕ) → Dec (q < n) → within n 0 f q ≡ count (tab n f) q
    go q (yes l) = rw (lt-ltb q n l) (sym (tab-at n f q 0 l))
    go q (no l) = rw (le-ltb q n (omega arith)) (sym (tab_beyond n f q 0 (omega arith)))
