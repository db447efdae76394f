-- Two tables side by side, the one way round and the other: swapped, each W has its halves swapped, and the rounds are the same. A table
-- beside itself holds the pair (F, F) exactly where it holds F. In each case the tables follow each other, there and back.
use mathlib.Core.Path.{◌≡◌, refl, ap, ap₂, ◌∙◌}
use mathlib.Core.Bool.{true}
use mathlib.Core.List.{◌++◌}
use Prim.Native.Nat.{ℕ, ◌+◌, ◌<◌}
use native.Mathlib.Omega.{arith}
use lib.ListN.{length, take, drop, length-drop, take-append-drop}
use lib.Seq.{take_at, drop_at}
use Rattle.meaning.specs.Table.{Table}
use Rattle.meaning.specs.Counting.{Position}
use Rattle.meaning.specs.Rounds.{all_safe, set_w, rounds, winning}
use Rattle.meaning.proofs.Tests.{same_test}
use Rattle.meaning.proofs.Follows.{from_safe, winning_set, Follows, follows-safe, follows-winning, follows-rounds}
use Rattle.meaning.proofs.Union.{Union, controllers_sum, first-follows, second-follows, both-follow}

-- the halves of a position swapped, where the first has n states
abbrev pub swapped : ℕ → Position → Position
swapped n P = drop n P ++ take n P

pub swapped-append : (n : ℕ) (F G : Position) → length F ≡ n → swapped n (F ++ G) ≡ G ++ F
swapped-append n F G e = ap₂ ◌++◌ (drop_at F G n e) (take_at F G n e)

pub swapped_twice : (n m : ℕ) (P : Position) → length P ≡ n + m → swapped m (swapped n P) ≡ P
swapped_twice n m P e = swapped-append m (drop n P) (take n P) (omega (arith, length-drop n P)) ∙ take-append-drop n P

module _ (K : ℕ) (t u whole other : Table) (un : Union t u whole) (on : Union u t other) where
  -- the swapped table follows
  pub swapped-follows : Follows K whole other (swapped t.controllers) (swapped t.worlds)
  swapped-follows =
      both-follow u t other on K whole (drop t.controllers) (drop t.worlds) (take t.controllers) (take t.worlds)
      (second-follows t u whole un K) (first-follows t u whole un K)

  -- so each W is carried over with its halves swapped,
  swapped-set_w : (r : ℕ) (F G : Position) → length F ≡ t.controllers → from_safe K whole r (F ++ G) ≡ true
      → from_safe K other r (G ++ F) ≡ true
  swapped-set_w r F G e w =
      rw (swapped-append t.controllers F G e) at
      (follows-safe K whole other (swapped t.controllers) (swapped t.worlds) swapped-follows r (F ++ G) w)

-- there and back: every W has its halves swapped
module _ (K : ℕ) (t u whole other : Table) (un : Union t u whole) (on : Union u t other) where
  pub swap_set_w : (r : ℕ) (F G : Position) → length F ≡ t.controllers → length G ≡ u.controllers
      → set_w K other (all_safe K other.controllers) r (G ++ F) ≡ set_w K whole (all_safe K whole.controllers) r (F ++ G)
  swap_set_w r F G eF eG =
      same_test (from_safe K other r (G ++ F)) (from_safe K whole r (F ++ G))
      (swapped-set_w K u t other whole on un r G F eG) (swapped-set_w K t u whole other un on r F G eF)

  -- so the rounds are the same,
  pub swap_rounds : rounds K other (all_safe K other.controllers) ≡ rounds K whole (all_safe K whole.controllers)
  swap_rounds =
      let n = t.controllers in
      let m = u.controllers in
      let sum : whole.controllers ≡ n + m = controllers_sum t u whole un in
      let sum' : other.controllers ≡ m + n = controllers_sum u t other on in
      follows-rounds K other whole (swapped m) (swapped u.worlds) (swapped n) (swapped t.worlds)
      (swapped-follows K u t other whole on un) (swapped-follows K t u whole other un on) (omega arith)
      (λ P e. swapped_twice m n P (e ∙ sum')) (λ P e. swapped_twice n m P (e ∙ sum))

  -- and what wins has its halves swapped
  pub swap_winning : (F G : Position) → length F ≡ t.controllers → length G ≡ u.controllers
      → winning K other (all_safe K other.controllers) (G ++ F) ≡ winning K whole (all_safe K whole.controllers) (F ++ G)
  unfolding winning
  swap_winning F G eF eG =
      ap (λ (r : ℕ). from_safe K other r (G ++ F)) swap_rounds ∙ swap_set_w (rounds K whole (all_safe K whole.controllers)) F G eF eG

-- every table follows itself
pub same-follows : (K : ℕ) (t : Table) → Follows K t t (λ F. F) (λ G. G)
same-follows K t =
    record {
      outputs = refl;
      inputs = refl;
      safe-controllers = λ F a. a;
      safe-worlds = λ G a. a;
      output-step = λ o F a. refl;
      input-step = λ i G a. refl;
    }

-- a table beside itself
pub self_winning : (K : ℕ) (t whole : Table) → Union t t whole → 0 < t.outputs → (F : Position) → length F ≡ t.controllers
    → winning K whole (all_safe K whole.controllers) (F ++ F) ≡ winning K t (all_safe K t.controllers) F
self_winning K t whole un o F e =
    let there = both-follow t t whole un K t (λ F. F) (λ G. G) (λ F. F) (λ G. G) (same-follows K t) (same-follows K t) in
    same_test (winning_set K whole (F ++ F)) (winning_set K t F)
    (λ w. rw (take_at F F t.controllers e) at
    (follows-winning K whole t (take t.controllers) (take t.worlds) (first-follows t t whole un K) (omega (arith, un.outputs))
    (F ++ F) w))
    (follows-winning K t whole (λ F. F ++ F) (λ G. G ++ G) there o F)
