-- The step forward by masks: no count that their edges bring to a state is over K + 2, so that each has room in its byte. Assumes nothing.
use Prim.Native.Nat.{ℕ, zero, suc, ◌+◌, ◌≤◌, zero-le}
use native.Mathlib.Omega.{arith}
use lib.ListN.{get_or}
use Rattle.meaning.specs.Lists.{largest}
use Rattle.meaning.specs.Table.{bit}
use Rattle.meaning.specs.Counting.{Position, count, plus}
use Rattle.meaning.proofs.Tests.{cond_cases, largest-of}
use Rattle.counts.specs.Halves.{brought}
use Rattle.counts.specs.declared.position.Half.{Half}

pub plus-low : (K mark c : ℕ) → plus K mark c ≤ K + 2
unfolding plus
plus-low K mark zero = zero-le
plus-low K mark (suc c) = omega arith

module _ (k : ℕ) (half : Half) (F : Position) where
  pub brought-low : (q : ℕ) → largest half.sources (brought k half F q) ≤ k + 2
  brought-low q =
      largest-of half.sources (brought k half F q) (k + 2)
      (λ p _. cond_cases (bit (get_or half.masks p 0) q) (plus k (get_or half.marks q 0) (count F p)) 0 (λ c. c ≤ k + 2)
      (λ _. plus-low k (get_or half.marks q 0) (count F p)) (λ _. zero-le))
