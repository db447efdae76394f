-- The rounds, over any first set: each W contains everything below its members and lies inside the one before; the first repeat comes
-- before (K + 2) ^ n and stays. Downward by monotone steps; inside by induction on the rounds; the repeat by counting the members that
-- each round still drops, of which the position with -1 everywhere is never one.
use mathlib.Core.Path.{◌≡◌, refl, sym, ◌∙◌}
use mathlib.Core.Bool.{Bool, true, false, beq}
use Prim.Native.Nat.{ℕ, zero, suc, ◌+◌, ◌≤◌, ◌<◌, ◌^◌}
use native.Mathlib.Nat.{le_trans, pow-le-pow_left, pow-le-pow_right}
use native.Mathlib.Decide.{dec_le, le_ind}
use native.Mathlib.Omega.{arith}
use lib.ListN.{length, length-replicate}
use Rattle.meaning.specs.Lists.{each, some, keep}
use Rattle.meaning.specs.Table.{Table, on_output, on_input}
use Rattle.meaning.specs.Counting.{Position, nowhere, forward}
use Rattle.meaning.specs.Rounds.{Set, Down, Within, FirstSet, all_safe, set_a, set_b, set_w, positions, equal, rounds, winning}
use Rattle.meaning.proofs.Tests.{both, both_left, both_right, clash, same_test, agreed, agrees, each_at, each_of, some_at, some_of}
use Rattle.meaning.proofs.Tests.{first_holds, first-before}
use Rattle.meaning.proofs.Lists.{every-at, every_of}
use Rattle.meaning.proofs.Sizes.{keep-length, keep-counted, keep_fewer}
use Rattle.meaning.proofs.Steps.{safe-down, safe-nowhere, forward-length, forward_mono, forward-nowhere}
use Rattle.meaning.proofs.Positions.{all_safe-length, all_safe-safe, all_safe-of, positions_hold, positions-number}

-- safe positions
pub all_safe-down : (K n : ℕ) → Down (all_safe K n)
all_safe-down K n F G e b a = all_safe-of K n F (e ∙ all_safe-length K n G a) (safe-down K F G b (all_safe-safe K n G a))

pub all_safe-nowhere : (K n : ℕ) → all_safe K n (nowhere n) ≡ true
all_safe-nowhere K n = all_safe-of K n (nowhere n) (length-replicate n 0) (safe-nowhere K n)

-- the members of A: safe, and each of the first j inputs leads into W
abbrev by_input : ℕ → Table → Set → Position → ℕ → Bool
by_input K t W G i = W (forward K (on_input t i) G)

pub set_a-of : (K : ℕ) (t : Table) (W : Set) (j : ℕ) (G : Position) → all_safe K t.worlds G ≡ true
    → ((i : ℕ) → i < j → W (forward K (on_input t i) G) ≡ true) → set_a K t W j G ≡ true
unfolding set_a
set_a-of K t W j G s p = both (all_safe K t.worlds G) (each j (by_input K t W G)) s (each_of j (by_input K t W G) p)

pub set_a-safe : (K : ℕ) (t : Table) (W : Set) (j : ℕ) → Within (set_a K t W j) (all_safe K t.worlds)
unfolding set_a
set_a-safe K t W j G a = both_left (all_safe K t.worlds G) (each j (by_input K t W G)) a

pub set_a-leads : (K : ℕ) (t : Table) (W : Set) (j : ℕ) (G : Position) → set_a K t W j G ≡ true
    → (i : ℕ) → i < j → W (forward K (on_input t i) G) ≡ true
unfolding set_a
set_a-leads K t W j G a = each_at j (by_input K t W G) (both_right (all_safe K t.worlds G) (each j (by_input K t W G)) a)

-- the members of B: safe, and some one of the first k outputs leads into A
abbrev by_output : ℕ → Table → Set → Position → ℕ → Bool
by_output K t W F o = set_a K t W t.inputs (forward K (on_output t o) F)

pub set_b-of : (K : ℕ) (t : Table) (W : Set) (k : ℕ) (F : Position) → all_safe K t.controllers F ≡ true
    → (o : ℕ) → o < k → set_a K t W t.inputs (forward K (on_output t o) F) ≡ true → set_b K t W k F ≡ true
unfolding set_b
set_b-of K t W k F s o h a = both (all_safe K t.controllers F) (some k (by_output K t W F)) s (some_of k (by_output K t W F) o h a)

pub set_b-safe : (K : ℕ) (t : Table) (W : Set) (k : ℕ) → Within (set_b K t W k) (all_safe K t.controllers)
unfolding set_b
set_b-safe K t W k F a = both_left (all_safe K t.controllers F) (some k (by_output K t W F)) a

pub set_b-leads : (K : ℕ) (t : Table) (W : Set) (k : ℕ) (F : Position) → set_b K t W k F ≡ true
    → (o : ℕ) × (o < k) × (set_a K t W t.inputs (forward K (on_output t o) F) ≡ true)
unfolding set_b
set_b-leads K t W k F a = some_at k (by_output K t W F) (both_right (all_safe K t.controllers F) (some k (by_output K t W F)) a)

pub all_safe-first : (K : ℕ) (t : Table) → FirstSet K t (all_safe K t.controllers)
all_safe-first K t =
    record {
      down = all_safe-down K t.controllers;
      safe = λ F a. a;
      shrinks = set_b-safe K t (all_safe K t.controllers) t.outputs;
      nowhere = all_safe-nowhere K t.controllers;
    }

-- A and B are downward and keep inclusions
pub set_a-down : (K : ℕ) (t : Table) (W : Set) (j : ℕ) → Down W → Down (set_a K t W j)
set_a-down K t W j d F G e b a =
    set_a-of K t W j F (all_safe-down K t.worlds F G e b (set_a-safe K t W j G a))
    (λ i h. d (forward K (on_input t i) F) (forward K (on_input t i) G)
    (forward-length K (on_input t i) F ∙ sym (forward-length K (on_input t i) G))
    (forward_mono K (on_input t i) F G b) (set_a-leads K t W j G a i h))

pub set_b-down : (K : ℕ) (t : Table) (W : Set) (k : ℕ) → Down W → Down (set_b K t W k)
set_b-down K t W k d F G e b a =
    let (o, h, m) = set_b-leads K t W k G a in
    set_b-of K t W k F (all_safe-down K t.controllers F G e b (set_b-safe K t W k G a)) o h
    (set_a-down K t W t.inputs d (forward K (on_output t o) F) (forward K (on_output t o) G)
    (forward-length K (on_output t o) F ∙ sym (forward-length K (on_output t o) G))
    (forward_mono K (on_output t o) F G b) m)

pub set_a_mono : (K : ℕ) (t : Table) (U W : Set) (j : ℕ) → Within U W → Within (set_a K t U j) (set_a K t W j)
set_a_mono K t U W j i F a =
    set_a-of K t W j F (set_a-safe K t U j F a) (λ l h. i (forward K (on_input t l) F) (set_a-leads K t U j F a l h))

pub set_b_mono : (K : ℕ) (t : Table) (U W : Set) (k : ℕ) → Within U W → Within (set_b K t U k) (set_b K t W k)
set_b_mono K t U W k i F a =
    let (o, h, m) = set_b-leads K t U k F a in
    set_b-of K t W k F (set_b-safe K t U k F a) o h (set_a_mono K t U W t.inputs i (forward K (on_output t o) F) m)

-- two sets with the same members have the same A and B
pub set_b-same : (K : ℕ) (t : Table) (U W : Set) (k : ℕ) → ((F : Position) → U F ≡ W F) → (F : Position) → set_b K t U k F ≡ set_b K t W k F
set_b-same K t U W k e F =
    same_test (set_b K t U k F) (set_b K t W k F)
    (set_b_mono K t U W k (λ G u. sym (e G) ∙ u) F) (set_b_mono K t W U k (λ G w. e G ∙ w) F)

-- with an output, the position with -1 everywhere stays in the set from round to round
pub set_b-nowhere : (K : ℕ) (t : Table) (W : Set) → 0 < t.outputs → W (nowhere t.controllers) ≡ true
    → set_b K t W t.outputs (nowhere t.controllers) ≡ true
set_b-nowhere K t W o w =
    set_b-of K t W t.outputs (nowhere t.controllers) (all_safe-nowhere K t.controllers) 0 o
    (rw (forward-nowhere K (on_output t 0))
    (set_a-of K t W t.inputs (nowhere t.worlds) (all_safe-nowhere K t.worlds) (λ i _. rw (forward-nowhere K (on_input t i)) w)))

-- two sets of safe positions are equal exactly if they agree everywhere
pub equal-at : (K n : ℕ) (X Y : Set) → Within X (all_safe K n) → Within Y (all_safe K n) → equal K n X Y ≡ true → (F : Position) → X F ≡ Y F
unfolding equal
equal-at K n X Y sX sY e F = same_test (X F) (Y F) (λ x. sym (at (sX F x)) ∙ x) (λ y. at (sY F y) ∙ y)
  where
    at : all_safe K n F ≡ true → X F ≡ Y F
    at a = agreed (X F) (Y F) (every-at (λ G. beq (X G) (Y G)) (positions K n) F e (positions_hold K n F a))

pub equal_of : (K n : ℕ) (X Y : Set) → ((F : Position) → X F ≡ Y F) → equal K n X Y ≡ true
unfolding equal
equal_of K n X Y p = every_of (λ F. beq (X F) (Y F)) (positions K n) (λ F _. agrees (X F) (Y F) (p F))

-- the number of a set's members among the safe positions of n states
size : ℕ → ℕ → Set → ℕ
size K n X = length (keep X (positions K n))

-- W(r) = W(r + 1)
abbrev repeats : ℕ → Table → Set → ℕ → Bool
repeats K t X r = equal K t.controllers (set_w K t X r) (set_w K t X (suc r))

module _ (K : ℕ) (t : Table) (X : Set) (first : FirstSet K t X) where
  pub set_w-down : (r : ℕ) → Down (set_w K t X r)
  unfolding set_w
  set_w-down zero = first.down
  set_w-down (suc r) = set_b-down K t (set_w K t X r) t.outputs (set_w-down r)

  pub set_w-safe : (r : ℕ) → Within (set_w K t X r) (all_safe K t.controllers)
  unfolding set_w
  set_w-safe zero = first.safe
  set_w-safe (suc r) = set_b-safe K t (set_w K t X r) t.outputs

  pub set_w-shrinks : (r : ℕ) → Within (set_w K t X (suc r)) (set_w K t X r)
  unfolding set_w
  set_w-shrinks zero = first.shrinks
  set_w-shrinks (suc r) = set_b_mono K t (set_w K t X (suc r)) (set_w K t X r) t.outputs (set_w-shrinks r)

  -- a later W lies in each earlier one
  pub set_w-within : (r s : ℕ) → r ≤ s → Within (set_w K t X s) (set_w K t X r)
  set_w-within r = le_ind (λ s. Within (set_w K t X s) (set_w K t X r)) (λ F a. a) (λ s _ before F a. before F (set_w-shrinks s F a))

  -- with an output, the position with -1 everywhere is in every W
  pub set_w-nowhere : 0 < t.outputs → (r : ℕ) → set_w K t X r (nowhere t.controllers) ≡ true
  unfolding set_w
  set_w-nowhere o zero = first.nowhere
  set_w-nowhere o (suc r) = set_b-nowhere K t (set_w K t X r) o (set_w-nowhere o r)

  -- as long as the sets differ, each round drops a member: after r such rounds at least r of them are gone
  size_falls : (r : ℕ) → ((i : ℕ) → i < r → repeats K t X i ≡ false) → size K t.controllers (set_w K t X r) + r ≤ (K + 2) ^ t.controllers
  unfolding size equal
  size_falls zero p = omega (arith, keep-length (set_w K t X zero) (positions K t.controllers), positions-number K t.controllers)
  size_falls (suc r) p =
      omega (
        arith,
        size_falls r (λ i h. p i (omega arith)),
        keep_fewer (set_w K t X r) (set_w K t X (suc r)) (set_w-shrinks r) (positions K t.controllers) (p r (omega arith)),
      )

  -- and with an output one always remains
  size_remains : 0 < t.outputs → (r : ℕ) → 0 < size K t.controllers (set_w K t X r)
  unfolding size
  size_remains o r =
      keep-counted (set_w K t X r) (positions K t.controllers) (nowhere t.controllers)
      (positions_hold K t.controllers (nowhere t.controllers) (all_safe-nowhere K t.controllers)) (set_w-nowhere o r)

  -- "the smallest r with W(r) = W(r + 1)" exists, and is at most (K + 2) ^ n less 1
  pub rounds-bound : 0 < t.outputs → rounds K t X < (K + 2) ^ t.controllers
  unfolding rounds
  rounds-bound o =
      omega (arith, size_falls (rounds K t X) (first-before ((K + 2) ^ t.controllers) (repeats K t X)), size_remains o (rounds K t X))

  pub rounds_settled : 0 < t.outputs → (F : Position) → set_w K t X (rounds K t X) F ≡ set_w K t X (suc (rounds K t X)) F
  unfolding rounds
  rounds_settled o =
      equal-at K t.controllers (set_w K t X (rounds K t X)) (set_w K t X (suc (rounds K t X)))
      (set_w-safe (rounds K t X)) (set_w-safe (suc (rounds K t X)))
      (first_holds ((K + 2) ^ t.controllers) (repeats K t X) (rounds-bound o))

  -- none before it: the sets before still differ
  pub rounds-smallest : (r : ℕ) → r < rounds K t X → ((F : Position) → set_w K t X r F ≡ set_w K t X (suc r) F) → ⊥
  unfolding rounds
  rounds-smallest r h e =
      clash (repeats K t X r) (equal_of K t.controllers (set_w K t X r) (set_w K t X (suc r)) e)
      (first-before ((K + 2) ^ t.controllers) (repeats K t X) r h)

  -- W stays from there
  pub rounds-stays : 0 < t.outputs → (r : ℕ) → rounds K t X ≤ r → (F : Position) → set_w K t X r F ≡ winning K t X F
  unfolding set_w winning
  rounds-stays o =
      le_ind (λ r. (F : Position) → set_w K t X r F ≡ winning K t X F) (λ F. refl)
      (λ r _ same F. set_b-same K t (set_w K t X r) (winning K t X) t.outputs same F ∙ sym (rounds_settled o F))

  pub winning-down : Down (winning K t X)
  unfolding winning
  winning-down = set_w-down (rounds K t X)

  pub winning-safe : Within (winning K t X) (all_safe K t.controllers)
  unfolding winning
  winning-safe = set_w-safe (rounds K t X)

  pub winning-nowhere : 0 < t.outputs → winning K t X (nowhere t.controllers) ≡ true
  unfolding winning
  winning-nowhere o = set_w-nowhere o (rounds K t X)

  -- the winning set is what one more round makes of it
  pub winning_fixed : 0 < t.outputs → (F : Position) → winning K t X F ≡ set_b K t (winning K t X) t.outputs F
  unfolding set_w winning
  winning_fixed o = rounds_settled o

  -- it lies in every W
  pub winning-within : 0 < t.outputs → (r : ℕ) → Within (winning K t X) (set_w K t X r)
  unfolding winning
  winning-within o r F a = go (dec_le r (rounds K t X))
    where
      go : Dec (r ≤ rounds K t X) → set_w K t X r F ≡ true
      go (yes h) = set_w-within r (rounds K t X) h F a
      go (no h) = rounds-stays o r (omega arith) F ∙ a

  -- and it holds every set inside X that a round does not shrink
  pub winning-greatest : (Y : Set) → Within Y X → Within Y (set_b K t Y t.outputs) → Within Y (winning K t X)
  unfolding set_w winning
  winning-greatest Y i s = in-each (rounds K t X)
    where
      in-each : (r : ℕ) → Within Y (set_w K t X r)
      in-each zero = i
      in-each (suc r) = λ F y. set_b_mono K t Y (set_w K t X r) t.outputs (in-each r) F (s F y)

-- that bound is a small number: with K 7 and eight states it is 9 ^ 8
pub rounds-few : (K n : ℕ) → K ≤ 7 → n ≤ 8 → (K + 2) ^ n ≤ 43046721
rounds-few K n k h = le_trans (pow-le-pow_left {m = 9} (omega arith) n) (pow-le-pow_right {n = 9} (omega arith) h)
