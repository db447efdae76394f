-- What the library's words for searches say in the words of the meaning: the position of the first word whose counts pass a test is the
-- place of the first position that passes it, by induction on the list; and what is found among the numbers below n is the first of them.
-- Assumes nothing.
use mathlib.Core.Path.{◌≡◌, refl, ap, ap₂, ◌∙◌}
use mathlib.Core.Bool.{Bool, true, false, cond, not}
use mathlib.Core.List.{List, [], ◌∷◌}
use Prim.Native.Nat.{ℕ, zero, suc, ◌+◌, ◌≤◌, ◌<◌, zero-le}
use native.Mathlib.Decide.{dec_lt}
use native.Mathlib.Omega.{arith}
use lib.ListN.{length}
use lib.Dec.{ltb}
use borrow.Author.Tests.{lt-ltb, le-ltb}
use Rattle.std.specs.Prelude.{Option, Some, None, position}
use Rattle.std.specs.Option.{MatchOption}
use Rattle.std.specs.List.{position_or_len}
use Rattle.meaning.specs.Lists.{first, place}
use Rattle.meaning.specs.Counting.{Position}
use Rattle.meaning.proofs.Tests.{first_is}
use Rattle.meaning.proofs.Searches.{first-none}
use Rattle.counts.specs.Words.{counts_in}
use Rattle.lists.specs.Members.{positions}
use Rattle.writing.specs.Playable.{within}

module _ (f : Position → Bool) (g : ℕ → Bool) (agree : (m : ℕ) → g m ≡ f (counts_in m)) where
  place-words : (ws : List ℕ) → position_or_len g ws ≡ place f (positions ws)
  unfolding positions
  place-words [] = refl
  place-words (w ∷ ws) =
      ap₂ (λ (b : Bool) (r : ℕ). cond (not b) (1 + r) zero) (agree w) (place-words ws) ∙ go (f (counts_in w)) (place f (positions ws))
    where
      go : (b : Bool) (r : ℕ) → cond (not b) (1 + r) zero ≡ cond b zero (suc r)
      go true r = refl
      go false r = omega arith

  pub place-positions : (ws : List ℕ) → position g ws ≡ within (length ws) (place f (positions ws))
  place-positions ws = ap (λ (i : ℕ). cond (ltb i (length ws)) (Some i) None) (place-words ws)

-- what a search of the numbers below n finds, or that it finds none
pub first-found : (n : ℕ) (f : ℕ → Bool) (found : Option ℕ)
    → MatchOption found ((k : ℕ) → 0 ≤ k → k < n → f k ≡ false)
    (λ i. (0 ≤ i) × (i < n) × (f i ≡ true) × ((k : ℕ) → 0 ≤ k → k < i → f k ≡ false))
    → found ≡ within n (first n f)
first-found n f None none = rw (first-none n f (λ k h. none k zero-le h), le-ltb n n (omega arith)) refl
first-found n f (Some i) one =
    rw (first_is n f i one.1 one.2 (λ k h. one.3 k zero-le h), lt-ltb i n one.1) refl

-- a place that is below n is there
pub within-some : (n i : ℕ) → i < n → within n i ≡ Some i
within-some n i h = rw (lt-ltb i n h) refl

-- a place that is there is below n, and n is no higher than one that is not
pub some-within : (n i : ℕ) {r : ℕ} → Some r ≡ within n i → (r < n) × (r ≡ i)
some-within n i {r} e = go (dec_lt i n)
  where
    go : Dec (i < n) → (r < n) × (r ≡ i)
    go (yes h) =
        let found : Some r ≡ Some i = rw (lt-ltb i n h) at e in
        let same : r ≡ i = cc in
        (omega arith, same)
    go (no h) = let found : Some r ≡ None = rw (le-ltb i n (omega arith)) at e in absurd cc

pub none-within : (n i : ℕ) → None ≡ within n i → n ≤ i
none-within n i e = go (dec_lt i n)
  where
    go : Dec (i < n) → n ≤ i
    go (yes h) = let found : None ≡ Some i = rw (lt-ltb i n h) at e in absurd cc
    go (no h) = omega arith
