-- Eight counts of a controller state: that they are safe, and what an array of words has at a place that is set or not. By the laws of a
-- word's counts. Assumes nothing.
use mathlib.Core.Path.{◌≡◌, refl, ap, ◌∙◌}
use mathlib.Core.List.{List}
use Prim.Native.Nat.{ℕ, ◌≤◌, ◌<◌}
use native.Mathlib.Omega.{arith}
use lib.ListN.{length, get_or, set, replicate}
use lib.Seq.{get_or-set_same, get_or-set_other}
use Rattle.meaning.specs.Counting.{Position, count, safe}
use Rattle.meaning.specs.Written.{position_bytes}
use Rattle.meaning.proofs.Tests.{same_test}
use Rattle.meaning.proofs.Lists.{get_or_alike}
use Rattle.meaning.proofs.Steps.{safe_at, safe-of}
use Rattle.counts.specs.Words.{counts_in}
use Rattle.counts.proofs.Wide.{wide_count}
use Rattle.counts.proofs.Bytes.{counts_in-length}
use Rattle.counts.proofs.Spreads.{none_in}
use Rattle.checker.specs.Raised.{counts_at}

-- a position in eight counts is safe exactly if it is
pub safe_wide : (K : ℕ) (F : Position) → length F ≤ 8 → safe K (position_bytes F) ≡ safe K F
safe_wide K F few =
    same_test (safe K (position_bytes F)) (safe K F)
    (λ s. safe-of K F (λ q _. omega (arith, safe_at K (position_bytes F) s q, wide_count F few q)))
    (λ s. safe-of K (position_bytes F) (λ q _. omega (arith, safe_at K F s q, wide_count F few q)))

-- what the array has for a state
pub counts-read : (most : List ℕ) (s : ℕ) → counts_in (get_or most s 0) ≡ counts_at most s
unfolding counts_at
counts-read most s = refl

pub counts-here : (most : List ℕ) (s m : ℕ) → s < length most → counts_at (set most s m) s ≡ counts_in m
unfolding counts_at
counts-here most s m l = ap counts_in (get_or-set_same most s m 0 l)

pub counts-elsewhere : (most : List ℕ) (s m r : ℕ) → (r ≡ s → ⊥) → counts_at (set most s m) r ≡ counts_at most r
unfolding counts_at
counts-elsewhere most s m r d = ap counts_in (get_or-set_other most s r m 0 d)

pub counts-length : (most : List ℕ) (s : ℕ) → length (counts_at most s) ≡ 8
unfolding counts_at
counts-length most s = counts_in-length (get_or most s 0)

-- an array of no counts has none, whatever the state
pub counts-nowhere : (n s q : ℕ) → count (counts_at (replicate n 0) s) q ≡ 0
unfolding counts_at
counts-nowhere n s q = ap (λ (m : ℕ). count (counts_in m) q) (get_or_alike n s 0) ∙ none_in q
