-- An array that marks the states of the rows seen so far: what it marks has rows, and each row seen has its state marked. When all rows are
-- seen it marks exactly the states that have rows. Assumes nothing.
use mathlib.Core.Path.{◌≡◌, refl, sym, ap, ◌∙◌}
use mathlib.Core.Bool.{Bool, true, false}
use mathlib.Core.List.{List}
use Prim.Native.Nat.{ℕ, ◌+◌, ◌≤◌, ◌<◌}
use native.Mathlib.Omega.{arith}
use borrow.Author.Count.{below_none, below_more}
use borrow.Author.Tests.{eqb-true, eq-eqb}
use lib.ListN.{length, get_or, set, replicate, length-set}
use lib.Seq.{get_or-set_same, get_or-set_other}
use Rattle.meaning.specs.Written.{Row}
use Rattle.meaning.specs.Play.{row}
use Rattle.meaning.specs.Controller.{has_rows}
use Rattle.meaning.proofs.Tests.{clash, same_test}
use Rattle.meaning.proofs.Lists.{member-at, at-member, any_at, any_of, get_or_alike}
use Rattle.meaning.proofs.Searches.{at_each}
use Rattle.meaning.proofs.Lookups.{no_row}
use Rattle.meaning.proofs.Formed.{is_of}
use Rattle.rows.specs.Placed.{Marked}

-- what an array that is set at one place has at each place
pub set-at-each : {A : Type 0} (xs : List A) (k : ℕ) (x d : A) (P : ℕ → A → Type 0) → k < length xs → P k x
    → ((j : ℕ) → (j ≡ k → ⊥) → P j (get_or xs j d)) → (j : ℕ) → P j (get_or (set xs k x) j d)
set-at-each xs k x d P l here elsewhere =
    at_each (λ j. P j (get_or (set xs k x) j d)) k (rw (get_or-set_same xs k x d l) here)
    (λ j n. rw (get_or-set_other xs k j x d n) (elsewhere j n))

pub record Marking (rows : List Row) (i : ℕ) (named : List Bool) : Type 0 where
  pub long : length named ≡ 256
  pub only : (s : ℕ) → get_or named s false ≡ true → has_rows rows s ≡ true
  pub seen : (j : ℕ) → j < i → get_or named (row rows j).state false ≡ true

module _ (rows : List Row) where
  row_has : (i : ℕ) → i < length rows → has_rows rows (row rows i).state ≡ true
  unfolding has_rows
  row_has i l = any_of (is_of (row rows i).state) rows (row rows i) (member-at rows i no_row l) (eq-eqb (row rows i).state _ refl)

  pub marking_none : Marking rows 0 (replicate 256 false)
  marking_none =
      record {
        long = refl;
        only = λ s p. absurd (clash _ p (get_or_alike 256 s false));
        seen = below_none _;
      }

  module _ (i : ℕ) (named : List Bool) (before : Marking rows i named) where
    pub marking_more : i < length rows → (row rows i).state < 256 → Marking rows (i + 1) (set named (row rows i).state true)
    marking_more l low =
        let s = (row rows i).state in
        let inside : s < length named = omega (arith, before.long) in
        record {
          long = length-set named s true ∙ before.long;
          only = set-at-each named s true false (λ r b. b ≡ true → has_rows rows r ≡ true) inside (λ _. row_has i l) (λ r _. before.only r);
          seen =
              below_more _ i
              (λ j h. set-at-each named s true false (λ r b. r ≡ (row rows j).state → b ≡ true) inside (λ _. refl)
              (λ r _ e. ap (λ (q : ℕ). get_or named q false) e ∙ before.seen j h) (row rows j).state refl)
              (get_or-set_same named s true false inside);
        }

    pub marking_all : length rows ≤ i → Marked rows named
    unfolding has_rows
    marking_all l s _ =
        same_test (get_or named s false) (has_rows rows s) (before.only s)
        (λ h.
        let m = any_at (is_of s) rows h in
        let j = at-member rows m.0 no_row m.1 in
        let within : j.0 < length rows = j.1 in
        let same : (row rows j.0).state ≡ s = ap (λ (r : Row). r.state) j.2 ∙ eqb-true m.0.state s m.2 in
        ap (λ (q : ℕ). get_or named q false) (sym same) ∙ before.seen j.0 (omega arith))
