-- One table follows another: the positions of the one are carried to positions of the other, safe ones to safe ones, and a step may be
-- taken before or after carrying. Then each A, B and W of the one is carried into the same set of the other, by one induction on the
-- rounds, and two tables that follow each other there and back have the same rounds.
use mathlib.Core.Path.{◌≡◌, sym, ap, subst, ◌∙◌}
use mathlib.Core.Bool.{Bool, true}
use Prim.Native.Nat.{ℕ, zero, suc, ◌+◌, ◌<◌, ◌^◌}
use lib.ListN.{length}
use Rattle.meaning.specs.Lists.{first}
use Rattle.meaning.specs.Table.{Table, on_output, on_input}
use Rattle.meaning.specs.Counting.{Position, forward}
use Rattle.meaning.specs.Rounds.{Set, all_safe, set_a, set_b, set_w, equal, rounds, winning, Within}
use Rattle.meaning.proofs.Tests.{same_test, first-same}
use Rattle.meaning.proofs.Positions.{all_safe-length}
use Rattle.meaning.proofs.Rounds.{set_a-of, set_a-safe, set_a-leads, set_b-of, set_b-safe, set_b-leads, all_safe-first, equal-at, equal_of}
use Rattle.meaning.proofs.Rounds.{set_w-safe, winning_fixed, winning-within}

-- each member of one set is carried to a member of the other
abbrev pub Carries : (Position → Position) → Set → Set → Type 0
Carries on W U = (F : Position) → W F ≡ true → U (on F) ≡ true

-- W(r) from all safe positions
abbrev pub from_safe : ℕ → Table → ℕ → Set
from_safe K t r = set_w K t (all_safe K t.controllers) r

pub from_safe-safe : (K : ℕ) (t : Table) (r : ℕ) → Within (from_safe K t r) (all_safe K t.controllers)
from_safe-safe K t r = set_w-safe K t (all_safe K t.controllers) (all_safe-first K t) r

-- the winning set from all safe positions
abbrev pub winning_set : ℕ → Table → Set
winning_set K t = winning K t (all_safe K t.controllers)

-- table t follows table s, where `on` carries the controller-turn positions and `over` the world-turn positions
pub record Follows (K : ℕ) (s t : Table) (on over : Position → Position) : Type 0 where
  pub outputs : s.outputs ≡ t.outputs
  pub inputs : s.inputs ≡ t.inputs
  pub safe-controllers : Carries on (all_safe K s.controllers) (all_safe K t.controllers)
  pub safe-worlds : Carries over (all_safe K s.worlds) (all_safe K t.worlds)
  pub output-step : (o : ℕ) (F : Position) → all_safe K s.controllers F ≡ true
      → over (forward K (on_output s o) F) ≡ forward K (on_output t o) (on F)
  pub input-step : (i : ℕ) (G : Position) → all_safe K s.worlds G ≡ true
      → on (forward K (on_input s i) G) ≡ forward K (on_input t i) (over G)

module _ (K : ℕ) (s t : Table) (on over : Position → Position) (follows : Follows K s t on over) where
  pub follows-set_a : (W U : Set) → Carries on W U → (j : ℕ) → Carries over (set_a K s W j) (set_a K t U j)
  follows-set_a W U c j G a =
      let safe = set_a-safe K s W j G a in
      set_a-of K t U j (over G) (follows.safe-worlds G safe)
      (λ i l. rw (← follows.input-step i G safe) (c (forward K (on_input s i) G) (set_a-leads K s W j G a i l)))

  pub follows-set_b : (W U : Set) → Carries on W U → (k : ℕ) → Carries on (set_b K s W k) (set_b K t U k)
  follows-set_b W U c k F b =
      let safe = set_b-safe K s W k F b in
      let (o, l, a) = set_b-leads K s W k F b in
      set_b-of K t U k (on F) (follows.safe-controllers F safe) o l
      (rw (← follows.output-step o F safe)
      (subst (λ (j : ℕ). set_a K t U j (over (forward K (on_output s o) F)) ≡ true) follows.inputs
      (follows-set_a W U c s.inputs (forward K (on_output s o) F) a)))

  pub follows-set_w : (X Y : Set) → Carries on X Y → (r : ℕ) → Carries on (set_w K s X r) (set_w K t Y r)
  unfolding set_w
  follows-set_w X Y c zero F w = c F w
  follows-set_w X Y c (suc r) F w =
      subst (λ (k : ℕ). set_b K t (set_w K t Y r) k (on F) ≡ true) follows.outputs
      (follows-set_b (set_w K s X r) (set_w K t Y r) (follows-set_w X Y c r) s.outputs F w)

  -- from all safe positions
  pub follows-safe : (r : ℕ) → Carries on (from_safe K s r) (from_safe K t r)
  follows-safe = follows-set_w (all_safe K s.controllers) (all_safe K t.controllers) follows.safe-controllers

  -- what wins lies in every W, so also in the one where the other's rounds settle
  pub follows-winning : 0 < s.outputs → Carries on (winning_set K s) (winning_set K t)
  unfolding winning
  follows-winning o F w =
      let r = rounds K t (all_safe K t.controllers) in
      follows-safe r F (winning-within K s (all_safe K s.controllers) (all_safe-first K s) o r F w)

  -- what is carried into the winning set stays carried into it a round later
  pub follows_fixed : 0 < t.outputs → (X : Set) → Carries on X (winning_set K t) → Carries on (set_b K s X s.outputs) (winning_set K t)
  follows_fixed o X c F b =
      winning_fixed K t (all_safe K t.controllers) (all_safe-first K t) o (on F)
      ∙ subst (λ (k : ℕ). set_b K t (winning_set K t) k (on F) ≡ true) follows.outputs (follows-set_b X (winning_set K t) c s.outputs F b)

-- two tables that follow each other, where carrying there and back changes nothing
module _ (K : ℕ) (s t : Table) (on over on' over' : Position → Position) (there : Follows K s t on over) (here : Follows K t s on' over')
    (returns : (F : Position) → length F ≡ s.controllers → on' (on F) ≡ F) where
  -- two W of the one are equal if the same two of the other are
  pub follows-within : (q r : ℕ) → ((G : Position) → from_safe K t q G ≡ from_safe K t r G) → Within (from_safe K s q) (from_safe K s r)
  follows-within q r same F w =
      rw (returns F (all_safe-length K s.controllers F (from_safe-safe K s q F w))) at
      (follows-safe K t s on' over' here r (on F) (sym (same (on F)) ∙ follows-safe K s t on over there q F w))

  pub follows-equal : (q r : ℕ) → equal K t.controllers (from_safe K t q) (from_safe K t r) ≡ true
      → equal K s.controllers (from_safe K s q) (from_safe K s r) ≡ true
  follows-equal q r e =
      let same = equal-at K t.controllers (from_safe K t q) (from_safe K t r) (from_safe-safe K t q) (from_safe-safe K t r) e in
      equal_of K s.controllers (from_safe K s q) (from_safe K s r)
      (λ F. same_test (from_safe K s q F) (from_safe K s r F) (follows-within q r same F) (follows-within r q (λ G. sym (same G)) F))

-- so each round shows equality in both or in none
pub follows-rounds : (K : ℕ) (s t : Table) (on over on' over' : Position → Position)
    → Follows K s t on over → Follows K t s on' over' → s.controllers ≡ t.controllers
    → ((F : Position) → length F ≡ s.controllers → on' (on F) ≡ F) → ((G : Position) → length G ≡ t.controllers → on (on' G) ≡ G)
    → rounds K s (all_safe K s.controllers) ≡ rounds K t (all_safe K t.controllers)
unfolding rounds
follows-rounds K s t on over on' over' there here e returns comes =
    let settled : Table → ℕ → Bool = λ u r. equal K u.controllers (from_safe K u r) (from_safe K u (suc r)) in
    first-same ((K + 2) ^ s.controllers) (settled s) (settled t) (λ r _. same_test (settled s r) (settled t r)
    (follows-equal K t s on' over' on over here there comes r (suc r)) (follows-equal K s t on over on' over' there here returns r (suc r)))
    ∙ ap (λ (n : ℕ). first ((K + 2) ^ n) (settled t)) e
