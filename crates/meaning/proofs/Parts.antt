-- By parts: "the pairs whose halves win alone" are a first set, and the rounds come from it to the same winning set as from all safe
-- positions. Each part follows the whole, so what wins in the whole has halves that win alone: the pairs lose nothing.
use mathlib.Core.Path.{◌≡◌, sym, subst, ◌∙◌}
use mathlib.Core.Bool.{true}
use mathlib.Core.List.{◌++◌}
use Prim.Native.Nat.{ℕ, ◌+◌, ◌<◌}
use native.Mathlib.Omega.{arith}
use lib.ListN.{take, drop, length-take, length-drop, take-append-drop, length-replicate, replicate-append-replicate}
use lib.Seq.{take_at, drop_at}
use Rattle.meaning.specs.Table.{Table}
use Rattle.meaning.specs.Counting.{Position, nowhere}
use Rattle.meaning.specs.Rounds.{Set, all_safe, set_b, winning, Down, Within, FirstSet}
use Rattle.meaning.specs.Join.{pairs}
use Rattle.meaning.proofs.Tests.{both, both_left, both_right, same_test}
use Rattle.meaning.proofs.Rounds.{all_safe-first, winning-down, winning-safe, winning-nowhere, winning_fixed}
use Rattle.meaning.proofs.Rounds.{winning-greatest}
use Rattle.meaning.proofs.Follows.{Carries, winning_set, follows-winning, follows_fixed}
use Rattle.meaning.proofs.Union.{Union, below_halves, all_safe-append, controllers_sum, first-follows, second-follows}

module _ (K : ℕ) (t u : Table) where
  -- a pair has both halves
  pub pairs_of : (F : Position) → winning_set K t (take t.controllers F) ≡ true → winning_set K u (drop t.controllers F) ≡ true
      → pairs K t u F ≡ true
  unfolding pairs
  pairs_of F f g = both (winning_set K t (take t.controllers F)) (winning_set K u (drop t.controllers F)) f g

  pub pairs-take : Carries (take t.controllers) (pairs K t u) (winning_set K t)
  unfolding pairs
  pairs-take F w = both_left (winning_set K t (take t.controllers F)) (winning_set K u (drop t.controllers F)) w

  pub pairs-drop : Carries (drop t.controllers) (pairs K t u) (winning_set K u)
  unfolding pairs
  pairs-drop F w = both_right (winning_set K t (take t.controllers F)) (winning_set K u (drop t.controllers F)) w

  -- so the pairs have what the parts' winning sets have
  pub pairs-down : Down (pairs K t u)
  pairs-down F G e b w =
      let n = t.controllers in
      let halves = below_halves n F G e b in
      pairs_of F
      (winning-down K t (all_safe K n) (all_safe-first K t) (take n F) (take n G) (omega (arith, length-take n F, length-take n G))
      halves.0 (pairs-take G w))
      (winning-down K u (all_safe K u.controllers) (all_safe-first K u) (drop n F) (drop n G)
      (omega (arith, length-drop n F, length-drop n G))
      halves.1 (pairs-drop G w))

  pub pairs-safe : Within (pairs K t u) (all_safe K (t.controllers + u.controllers))
  pairs-safe F w =
      let n = t.controllers in
      let m = u.controllers in
      subst (λ (P : Position). all_safe K (n + m) P ≡ true) (take-append-drop n F)
      (all_safe-append K n m (take n F) (drop n F) (winning-safe K t (all_safe K n) (all_safe-first K t) (take n F) (pairs-take F w))
      (winning-safe K u (all_safe K m) (all_safe-first K u) (drop n F) (pairs-drop F w)))

  pub pairs-nowhere : 0 < t.outputs → 0 < u.outputs → pairs K t u (nowhere (t.controllers + u.controllers)) ≡ true
  pairs-nowhere o o' =
      let n = t.controllers in
      let m = u.controllers in
      rw (← replicate-append-replicate {A = ℕ} n m 0)
      (pairs_of (nowhere n ++ nowhere m)
      (rw (take_at (nowhere n) (nowhere m) n (length-replicate n 0)) (winning-nowhere K t (all_safe K n) (all_safe-first K t) o))
      (rw (drop_at (nowhere n) (nowhere m) n (length-replicate n 0)) (winning-nowhere K u (all_safe K m) (all_safe-first K u) o')))

module _ (t u whole : Table) (un : Union t u whole) where
  -- "the pairs whose halves win alone" are a first set
  pub pairs_first : (K : ℕ) → 0 < t.outputs → FirstSet K whole (pairs K t u)
  pairs_first K o =
      let o' : 0 < u.outputs = omega (arith, un.outputs-same) in
      record {
        down = pairs-down K t u;
        safe = λ F w. rw (controllers_sum t u whole un) (pairs-safe K t u F w);
        shrinks = λ F w.
            pairs_of K t u F
            (follows_fixed K whole t (take t.controllers) (take t.worlds) (first-follows t u whole un K) o (pairs K t u)
            (pairs-take K t u) F w)
            (follows_fixed K whole u (drop t.controllers) (drop t.worlds) (second-follows t u whole un K) o' (pairs K t u)
            (pairs-drop K t u) F w);
        nowhere = rw (controllers_sum t u whole un) (pairs-nowhere K t u o o');
      }

  -- by parts loses nothing: from the pairs the rounds come to the same winning set as from all safe positions
  pub pairs-winning : (K : ℕ) → 0 < t.outputs → (F : Position)
      → winning K whole (pairs K t u) F ≡ winning K whole (all_safe K whole.controllers) F
  pairs-winning K o F =
      let o' : 0 < whole.outputs = omega (arith, un.outputs) in
      let stays : (X : Set) → FirstSet K whole X → Within (winning K whole X) (set_b K whole (winning K whole X) whole.outputs) =
      λ X first G w. sym (winning_fixed K whole X first o' G) ∙ w
      in
      same_test (winning K whole (pairs K t u) F) (winning_set K whole F)
      (winning-greatest K whole (all_safe K whole.controllers) (all_safe-first K whole) (winning K whole (pairs K t u))
      (winning-safe K whole (pairs K t u) (pairs_first K o)) (stays (pairs K t u) (pairs_first K o)) F)
      (winning-greatest K whole (pairs K t u) (pairs_first K o) (winning_set K whole)
      (λ G w.
      pairs_of K t u G (follows-winning K whole t (take t.controllers) (take t.worlds) (first-follows t u whole un K) o' G w)
      (follows-winning K whole u (drop t.controllers) (drop t.worlds) (second-follows t u whole un K) o' G w))
      (stays (all_safe K whole.controllers) (all_safe-first K whole)) F)
