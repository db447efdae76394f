-- Document 01, "Rounds and their named sets". A set of positions is a test; the rounds take their first set as a parameter, since by
-- parts replaces it.
use Rattle.std.specs.Prelude.{◌≡◌, Bool, not, ◌&&◌, true, ℕ, zero, suc, ◌+◌, ◌^◌, ◌≤◌, ◌<◌, max, length, eqb, ltb}
use Rattle.std.specs.Bool.{beq}
use mathlib.Core.List.{List, [], ◌∷◌, map, flat_map}
use Rattle.meaning.specs.Lists.{each, some, first, largest, tab, keep, every, any}
use Rattle.meaning.specs.Table.{Table, on_output, on_input}
use Rattle.meaning.specs.Counting.{Position, nowhere, forward, safe, below}

abbrev pub Set : Type 0
Set = Position → Bool

-- "Each set contains everything below its members"
abbrev pub Down : Set → Type 0
Down X = (F G : Position) → length F ≡ length G → below F G ≡ true → X G ≡ true → X F ≡ true

-- each member of one set is one of the other
abbrev pub Within : Set → Set → Type 0
Within X Y = (F : Position) → X F ≡ true → Y F ≡ true

-- "W(0) is all safe controller-turn positions": the safe positions of a side with n states
unfoldable pub all_safe : ℕ → ℕ → Set
all_safe K n F = eqb (length F) n && safe K F

-- "A(r, j) holds the safe world-turn positions from which each of the first j inputs leads into W(r)."
unfoldable pub set_a : ℕ → Table → Set → ℕ → Set
set_a K t W j G = all_safe K t.worlds G && each j (λ i. W (forward K (on_input t i) G))

-- "B(r, k) holds the safe controller-turn positions from which some one of the first k outputs leads into A(r, all inputs)."
unfoldable pub set_b : ℕ → Table → Set → ℕ → Set
set_b K t W k F = all_safe K t.controllers F && some k (λ o. set_a K t W t.inputs (forward K (on_output t o) F))

-- "W(r + 1) is B(r, all outputs)", from the first set X
unfoldable pub set_w : ℕ → Table → Set → ℕ → Set
set_w K t X zero = X
set_w K t X (suc r) = set_b K t (set_w K t X r) t.outputs

-- what the rounds ask of a first set: safe positions, with everything below them, that the first round only shrinks, and among them the
-- one with -1 everywhere
pub record FirstSet (K : ℕ) (t : Table) (X : Set) : Type 0 where
  pub down : Down X
  pub safe : Within X (all_safe K t.controllers)
  pub shrinks : Within (set_b K t X t.outputs) X
  pub nowhere : X (nowhere t.controllers) ≡ true

-- all safe positions of n states, "ascending as byte strings"
unfoldable pub positions : ℕ → ℕ → List Position
positions K zero = [] ∷ []
positions K (suc n) = let rest = positions K n in flat_map (λ (c : ℕ). map (λ (F : Position). c ∷ F) rest) (tab (K + 2) (λ c. c))

-- a maximal member: no other member is above it
unfoldable pub maximal : ℕ → ℕ → Set → Set
maximal K n X F = X F && not (any (λ (G : Position). X G && below F G && not (below G F)) (positions K n))

-- "maximal members only, ascending as byte strings"
unfoldable pub maximal_members : ℕ → ℕ → Set → List Position
maximal_members K n X = keep (maximal K n X) (positions K n)

-- two sets of safe positions of n states are equal
unfoldable pub equal : ℕ → ℕ → Set → Set → Bool
equal K n X Y = every (λ (F : Position). beq (X F) (Y F)) (positions K n)

-- "The reported rounds is the smallest r with W(r) = W(r + 1). It is at most (K + 2) to the power of the number of controller-turn
-- states, less 1."
unfoldable pub rounds : ℕ → Table → Set → ℕ
rounds K t X = first ((K + 2) ^ t.controllers) (λ r. equal K t.controllers (set_w K t X r) (set_w K t X (suc r)))

-- the same, said of the sets
pub record SmallestRepeat (K : ℕ) (t : Table) (X : Set) (r : ℕ) : Type 0 where
  pub repeats : (F : Position) → set_w K t X r F ≡ set_w K t X (suc r) F
  pub smallest : (j : ℕ) → j < r → ((F : Position) → set_w K t X j F ≡ set_w K t X (suc j) F) → ⊥
  pub at_most : r + 1 ≤ (K + 2) ^ t.controllers

-- "The winning set is that W(r)."
unfoldable pub winning : ℕ → Table → Set → Set
winning K t X = set_w K t X (rounds K t X)

-- the largest number of maximal members among W(r), the A(r, j) and the B(r, k) of one round
unfoldable pub width_of_round : ℕ → Table → Set → ℕ
width_of_round K t W =
    max (length (maximal_members K t.controllers W))
    (max (largest (suc t.inputs) (λ j. length (maximal_members K t.worlds (set_a K t W j))))
    (largest (suc t.outputs) (λ k. length (maximal_members K t.controllers (set_b K t W k)))))

-- "FULL is given exactly if, in a round up to and including the one that shows equality, some W, A or B of it has more maximal
-- members than the room N."
unfoldable pub full : ℕ → Table → Set → ℕ → Bool
full K t X N = ltb N (largest (suc (rounds K t X)) (λ r. width_of_round K t (set_w K t X r)))

-- the same, said of the sets: "some W, A or B of it has more maximal members than the room N", of the round that begins with W,
pub data Crowded (K : ℕ) (t : Table) (W : Set) (N : ℕ) : Type 0 where
  in-W : N < length (maximal_members K t.controllers W) → Crowded K t W N
  in-A : (j : ℕ) → j ≤ t.inputs → N < length (maximal_members K t.worlds (set_a K t W j)) → Crowded K t W N
  in-B : (k : ℕ) → k ≤ t.outputs → N < length (maximal_members K t.controllers (set_b K t W k)) → Crowded K t W N

-- "in a round up to and including the one that shows equality"
abbrev pub Overfull : ℕ → Table → Set → ℕ → Type 0
Overfull K t X N = (r : ℕ) × (r ≤ rounds K t X) × Crowded K t (set_w K t X r) N
