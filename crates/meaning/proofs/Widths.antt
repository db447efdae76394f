-- Swapped, every named set has as many maximal members as before, so FULL is given for both or for neither. Swapping the halves carries
-- the members of a set to members of the other, there and back, and keeps what is below below: so it carries maximal members to maximal
-- members, and no two to one.
use mathlib.Core.Path.{◌≡◌, refl, sym, ap, ap₂, ◌∙◌}
use mathlib.Core.Logic.{◌⊎◌, inl, inr, ⊎_elim}
use mathlib.Core.Bool.{true}
use mathlib.Core.List.Memᴰ
use mathlib.Core.List.{List, [], ◌∷◌, Memᴰ}
use Prim.Native.Nat.{ℕ, suc, ◌+◌, ◌≤◌, max, zero-le}
use native.Mathlib.Omega.{arith}
use lib.ListN.{length, take, drop, length-append, length-take, length-drop}
use lib.Dec.{ltb}
use Rattle.meaning.specs.Lists.{largest, Ascending, none, more}
use Rattle.meaning.specs.Table.{Table}
use Rattle.meaning.specs.Counting.{Position, below}
use Rattle.meaning.specs.Rounds.{Set, all_safe, set_a, set_b, maximal_members, rounds, winning, width_of_round, full, Within}
use Rattle.meaning.specs.Written.{winners}
use Rattle.meaning.proofs.Tests.{both, largest-same}
use Rattle.meaning.proofs.Ascending.{before_irrefl}
use Rattle.meaning.proofs.Positions.{all_safe-length}
use Rattle.meaning.proofs.Rounds.{set_a-safe, set_b-safe}
use Rattle.meaning.proofs.Maximal.{member-maximal, member_in, maximal-member, maximal-top, top-maximal, members_ascend}
use Rattle.meaning.proofs.Follows.{Carries, from_safe, from_safe-safe, Follows, follows-set_a, follows-set_b, follows-safe}
use Rattle.meaning.proofs.Union.{Union, below-append, below_halves, controllers_sum, worlds_sum}
use Rattle.meaning.proofs.Swap.{swapped, swapped_twice, swapped-follows, swap_rounds}

-- a list without one of its members
without : {A : Type 0} (x : A) (ys : List A) → Memᴰ x ys
    → (zs : List A) × (length ys ≡ suc (length zs)) × ((y : A) → Memᴰ y ys → (y ≡ x) ⊎ Memᴰ y zs)
without x [] m = absurd (Memᴰ.not-nil m)
without {A} x (y ∷ ys) m =
    ⊎_elim (λ (e : x ≡ y). (ys, refl, λ z k. ⊎_elim (λ (d : z ≡ y). inl (d ∙ sym e)) (λ l. inr l) (Memᴰ.cases_cons k)))
    (λ k.
    let r = without x ys k in (
      y ∷ r.0,
      ap suc r.1,
      λ z l. ⊎_elim (λ (d : z ≡ y). inr (Memᴰ.head d))
          (λ j. ⊎_elim (λ e. inl e) (λ h. inr (Memᴰ.tail h)) (r.2 z j)) (Memᴰ.cases_cons l),
    ))
    (Memᴰ.cases_cons m)

-- an ascending list that is carried into another, no two members to one, is no longer
carried_length : (on : Position → Position) (xs ys : List Position) → Ascending xs
    → ((x y : Position) → Memᴰ x xs → Memᴰ y xs → on x ≡ on y → x ≡ y) → ((x : Position) → Memᴰ x xs → Memᴰ (on x) ys)
    → length xs ≤ length ys
carried_length on [] ys none apart into = zero-le
carried_length on (x ∷ xs) ys (more first a) apart into =
    let r = without (on x) ys (into x (Memᴰ.head refl)) in
    let other : (y : Position) → Memᴰ y xs → on y ≡ on x → ⊥ =
    λ y m e. before_irrefl x (rw (apart y x (Memᴰ.tail m) (Memᴰ.head refl) e) at (first y m))
    in
    let rest = carried_length on xs r.0 a (λ y z m k. apart y z (Memᴰ.tail m) (Memᴰ.tail k))
    (λ y m. ⊎_elim (λ e. absurd (other y m e)) (λ k. k) (r.2 (on y) (into y (Memᴰ.tail m))))
    in
    omega (arith, r.1)

-- what is below stays below
swapped-below : (n : ℕ) (F G : Position) → length F ≡ length G → below F G ≡ true → below (swapped n F) (swapped n G) ≡ true
swapped-below n F G e b =
    let halves = below_halves n F G e b in
    below-append (drop n F) (take n F) (drop n G) (take n G) (omega (arith, length-drop n F, length-drop n G))
    ∙ both (below (drop n F) (drop n G)) (below (take n F) (take n G)) halves.1 halves.0

swapped-length : (n : ℕ) (F : Position) → length (swapped n F) ≡ length F
swapped-length n F = omega (arith, length-append (drop n F) (take n F), length-drop n F, length-take n F)

module _ (K n m k l : ℕ) (sum : k ≡ n + m) (sum' : l ≡ m + n) (X Y : Set) (sX : Within X (all_safe K k)) (sY : Within Y (all_safe K l))
    (there : Carries (swapped n) X Y) (here : Carries (swapped m) Y X) where
  member_twice : (F : Position) → X F ≡ true → swapped m (swapped n F) ≡ F
  member_twice F x = swapped_twice n m F (all_safe-length K k F (sX F x) ∙ sum)

  -- a maximal member is carried to a maximal member, since what is over it there is over it here
  swapped-member : (F : Position) → Memᴰ F (maximal_members K k X) → Memᴰ (swapped n F) (maximal_members K l Y)
  swapped-member F f =
      let x : X F ≡ true = member_in K k X sX F f in
      let e : length F ≡ k = all_safe-length K k F (sX F x) in
      maximal-member K l Y sY (swapped n F)
      (top-maximal K l Y sY (swapped n F) (there F x)
      (λ G y b.
      let d : length G ≡ l = all_safe-length K l G (sY G y) in
      let under : below F (swapped m G) ≡ true =
      rw (member_twice F x) at (swapped-below m (swapped n F) G (omega (arith, swapped-length n F)) b) in
      ap (swapped n) (maximal-top K k X sX F (swapped m G) (member-maximal K k X sX F f) (here G y) under)
      ∙ swapped_twice m n G (d ∙ sum')))

  swapped_no_more : length (maximal_members K k X) ≤ length (maximal_members K l Y)
  swapped_no_more =
      carried_length (swapped n) (maximal_members K k X) (maximal_members K l Y) (members_ascend K k X sX)
      (λ F G f g e. sym (member_twice F (member_in K k X sX F f)) ∙ ap (swapped m) e ∙ member_twice G (member_in K k X sX G g))
      swapped-member

-- two sets that swapping carries into each other have as many maximal members
swapped-number : (K n m k l : ℕ) → k ≡ n + m → l ≡ m + n → (X Y : Set) → Within X (all_safe K k) → Within Y (all_safe K l)
    → Carries (swapped n) X Y → Carries (swapped m) Y X → length (maximal_members K k X) ≡ length (maximal_members K l Y)
swapped-number K n m k l sum sum' X Y sX sY there here =
    omega (arith, swapped_no_more K n m k l sum sum' X Y sX sY there here, swapped_no_more K m n l k sum' sum Y X sY sX here there)

module _ (K : ℕ) (t u whole other : Table) (un : Union t u whole) (on : Union u t other) where
  there : Follows K whole other (swapped t.controllers) (swapped t.worlds)
  there = swapped-follows K t u whole other un on

  here : Follows K other whole (swapped u.controllers) (swapped u.worlds)
  here = swapped-follows K u t other whole on un

  controllers-number : (X Y : Set) → Within X (all_safe K whole.controllers) → Within Y (all_safe K other.controllers)
      → Carries (swapped t.controllers) X Y → Carries (swapped u.controllers) Y X
      → length (maximal_members K whole.controllers X) ≡ length (maximal_members K other.controllers Y)
  controllers-number =
      swapped-number K t.controllers u.controllers whole.controllers other.controllers (controllers_sum t u whole un)
      (controllers_sum u t other on)

  worlds-number : (X Y : Set) → Within X (all_safe K whole.worlds) → Within Y (all_safe K other.worlds)
      → Carries (swapped t.worlds) X Y → Carries (swapped u.worlds) Y X
      → length (maximal_members K whole.worlds X) ≡ length (maximal_members K other.worlds Y)
  worlds-number =
      swapped-number K t.worlds u.worlds whole.worlds other.worlds (worlds_sum t u whole un) (worlds_sum u t other on)

  -- the largest number among the W, A and B of one round
  width_same : (W U : Set) → Within W (all_safe K whole.controllers) → Within U (all_safe K other.controllers)
      → Carries (swapped t.controllers) W U → Carries (swapped u.controllers) U W → width_of_round K whole W ≡ width_of_round K other U
  unfolding width_of_round
  width_same W U sW sU c d =
      let A : ℕ → ℕ = λ j. length (maximal_members K whole.worlds (set_a K whole W j)) in
      let A' : ℕ → ℕ = λ j. length (maximal_members K other.worlds (set_a K other U j)) in
      let B : ℕ → ℕ = λ k. length (maximal_members K whole.controllers (set_b K whole W k)) in
      let B' : ℕ → ℕ = λ k. length (maximal_members K other.controllers (set_b K other U k)) in
      ap₂ max (controllers-number W U sW sU c d)
      (ap₂ max
      (ap (λ (j : ℕ). largest (suc j) A) there.inputs
      ∙ largest-same (suc other.inputs) A A'
      (λ j _. worlds-number (set_a K whole W j) (set_a K other U j) (set_a-safe K whole W j) (set_a-safe K other U j)
      (follows-set_a K whole other (swapped t.controllers) (swapped t.worlds) there W U c j)
      (follows-set_a K other whole (swapped u.controllers) (swapped u.worlds) here U W d j)))
      (ap (λ (k : ℕ). largest (suc k) B) there.outputs
      ∙ largest-same (suc other.outputs) B B'
      (λ k _. controllers-number (set_b K whole W k) (set_b K other U k) (set_b-safe K whole W k) (set_b-safe K other U k)
      (follows-set_b K whole other (swapped t.controllers) (swapped t.worlds) there W U c k)
      (follows-set_b K other whole (swapped u.controllers) (swapped u.worlds) here U W d k))))

  -- W(r) is carried over, there and back
  forth : (r : ℕ) → Carries (swapped t.controllers) (from_safe K whole r) (from_safe K other r)
  forth = follows-safe K whole other (swapped t.controllers) (swapped t.worlds) there

  back : (r : ℕ) → Carries (swapped u.controllers) (from_safe K other r) (from_safe K whole r)
  back = follows-safe K other whole (swapped u.controllers) (swapped u.worlds) here

  -- so FULL is given for both or for neither,
  pub swap_full : (N : ℕ) → full K whole (all_safe K whole.controllers) N ≡ full K other (all_safe K other.controllers) N
  unfolding full
  swap_full N =
      let width : Table → ℕ → ℕ = λ s r. width_of_round K s (from_safe K s r) in
      ap (ltb N)
      (ap (λ (r : ℕ). largest (suc r) (width whole)) (sym (swap_rounds K t u whole other un on))
      ∙ largest-same (suc (rounds K other (all_safe K other.controllers))) (width whole) (width other)
      (λ r _. width_same (from_safe K whole r) (from_safe K other r) (from_safe-safe K whole r) (from_safe-safe K other r) (forth r)
      (back r)))

  -- and there are as many winners
  pub swap_winners : length (winners K whole (all_safe K whole.controllers)) ≡ length (winners K other (all_safe K other.controllers))
  unfolding winners winning
  swap_winners =
      rw (swap_rounds K t u whole other un on)
      (let r = rounds K whole (all_safe K whole.controllers) in
      controllers-number (from_safe K whole r) (from_safe K other r) (from_safe-safe K whole r) (from_safe-safe K other r) (forth r)
      (back r))
