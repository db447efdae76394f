-- The maximal members of a set: they cover exactly the set, so they determine it and it determines them; a member is maximal exactly if
-- no single count raised by one stays inside. A member climbs to a maximal one over members above it while there are any: the sum of its
-- counts grows and is at most n times K + 1. Last the winners, which are the maximal members of the winning set.
use mathlib.Core.Path.{◌≡◌, refl, sym, ap, ap₂, ◌∙◌, fun_ext}
use mathlib.Core.Logic.{⊎_elim, ◌↔◌}
use mathlib.Core.Bool.{Bool, true, false, not, ◌&&◌}
use mathlib.Core.List.{List, [], ◌∷◌, Memᴰ}
use Prim.Native.Nat.{ℕ, zero, suc, ◌+◌, ◌*◌, ◌≤◌, ◌<◌, zero-le}
use native.Mathlib.Nat.{suc-mul}
use native.Mathlib.Decide.{ℕ_discrete, dec_lt}
use native.Mathlib.Omega.{arith}
use lib.ListN.{length-replicate, length, get_or, set, length-set}
use lib.Seq.{get_or-set_same, get_or-set_other}
use borrow.Author.Tests.{not-true, not-false}
use Rattle.meaning.specs.Lists.{any, place, Ascending}
use Rattle.meaning.specs.Table.{Table}
use Rattle.meaning.specs.Counting.{Position, count, below, nowhere}
use Rattle.meaning.specs.Rounds.{Set, all_safe, positions, maximal, maximal_members, winning, Down, Within, FirstSet}
use Rattle.meaning.specs.Written.{winners, covering, start_state}
use Rattle.meaning.proofs.Tests.{both, both_left, both_right, clash, decided, refuted, same_test}
use Rattle.meaning.proofs.Lists.{member-at, at-member, any_at, any_of, keep-holds, keep-of, place-holds, place_found}
use Rattle.meaning.proofs.Ascending.{keep-ascends, ascending-equal}
use Rattle.meaning.proofs.Steps.{same-counts, below_at, below_of, below_refl, below_trans, below_antisym, safe_at}
use Rattle.meaning.proofs.Positions.{all_safe-length, all_safe-safe, positions_hold, positions_ascend}
use Rattle.meaning.proofs.Rounds.{winning-down, winning-safe, winning-nowhere}

-- a position with one count raised by one
abbrev pub raise : Position → ℕ → Position
raise F q = set F q (suc (count F q))

-- a raised position is above the one before, and below what was above with room in that count
pub raise_above : (F : Position) (q : ℕ) → q < length F → below F (raise F q) ≡ true
raise_above F q h = below_of F (raise F q) (λ j _. go j (ℕ_discrete j q))
  where
    go : (j : ℕ) → Dec (j ≡ q) → count F j ≤ count (raise F q) j
    go j (yes e) = rw (e, get_or-set_same F q (suc (count F q)) 0 h) (omega arith)
    go j (no d) = rw (get_or-set_other F q j (suc (count F q)) 0 d) (omega arith)

pub raise-below : (F G : Position) (q : ℕ) → q < length F → below F G ≡ true → count F q < count G q → below (raise F q) G ≡ true
raise-below F G q h b l = below_of (raise F q) G (λ j _. go j (ℕ_discrete j q))
  where
    go : (j : ℕ) → Dec (j ≡ q) → count (raise F q) j ≤ count G j
    go j (yes e) = rw (e, get_or-set_same F q (suc (count F q)) 0 h) l
    go j (no d) = rw (get_or-set_other F q j (suc (count F q)) 0 d) (below_at F G b j)

-- the sum of a position's counts
sum_of : Position → ℕ
sum_of [] = 0
sum_of (c ∷ F) = c + sum_of F

sum_safe : (K : ℕ) (F : Position) → ((q : ℕ) → count F q ≤ K + 1) → sum_of F ≤ length F * (K + 1)
unfolding sum_of
sum_safe K [] p = zero-le
sum_safe K (c ∷ F) p = rw suc-mul (omega (arith, p zero, sum_safe K F (λ q. p (suc q))))

-- above a position the sum is no smaller, and equal only at the position itself
sum_grows : (F G : Position) → length F ≡ length G → ((q : ℕ) → count F q ≤ count G q) → sum_of F ≤ sum_of G
unfolding sum_of
sum_grows [] G e p = zero-le
sum_grows (c ∷ F) [] e p = absurd (omega arith)
sum_grows (c ∷ F) (d ∷ G) e p = omega (arith, p zero, sum_grows F G (omega arith) (λ q. p (suc q)))

sum_equal : (F G : Position) → length F ≡ length G → ((q : ℕ) → count F q ≤ count G q) → sum_of G ≤ sum_of F → F ≡ G
unfolding sum_of
sum_equal [] [] e p h = refl
sum_equal [] (d ∷ G) e p h = absurd (omega arith)
sum_equal (c ∷ F) [] e p h = absurd (omega arith)
sum_equal (c ∷ F) (d ∷ G) e p h =
    let rest : length F ≡ length G = omega arith in
    let grown : sum_of F ≤ sum_of G = sum_grows F G rest (λ q. p (suc q)) in
    let first : c ≤ d = p zero in
    ap₂ (λ (x : ℕ) (r : Position). x ∷ r) (omega arith) (sum_equal F G rest (λ q. p (suc q)) (omega arith))

-- so it is larger at another position above
sum_over : (F G : Position) → length F ≡ length G → below F G ≡ true → below G F ≡ false → sum_of F < sum_of G
sum_over F G e b t = go (dec_lt (sum_of F) (sum_of G))
  where
    go : Dec (sum_of F < sum_of G) → sum_of F < sum_of G
    go (yes l) = l
    go (no l) = absurd (clash (below G F) (rw (sum_equal F G e (below_at F G b) (omega arith)) (below_refl G)) t)

-- a member of the set is over F: above it and not below it
abbrev over : Set → Position → Position → Bool
over X F G = X G && below F G && not (below G F)

-- a position is below a maximal member
abbrev Under : ℕ → ℕ → Set → Position → Type 0
Under K n X F = (G : Position) × Memᴰ G (maximal_members K n X) × (below F G ≡ true)

module _ (K n : ℕ) (X : Set) (safe : Within X (all_safe K n)) where
  maximal_in : (F : Position) → maximal K n X F ≡ true → X F ≡ true
  unfolding maximal
  maximal_in F m = both_left (X F) (not (any (over X F) (positions K n))) m

  pub member-maximal : (F : Position) → Memᴰ F (maximal_members K n X) → maximal K n X F ≡ true
  unfolding maximal_members
  member-maximal F m = keep-holds (maximal K n X) (positions K n) F m

  pub member_in : (F : Position) → Memᴰ F (maximal_members K n X) → X F ≡ true
  member_in F m = maximal_in F (member-maximal F m)

  pub maximal-member : (F : Position) → maximal K n X F ≡ true → Memᴰ F (maximal_members K n X)
  unfolding maximal_members
  maximal-member F m = keep-of (maximal K n X) (positions K n) F (positions_hold K n F (safe F (maximal_in F m))) m

  member-length : (F : Position) → X F ≡ true → length F ≡ n
  member-length F x = all_safe-length K n F (safe F x)

  same_length : (F G : Position) → X F ≡ true → X G ≡ true → length F ≡ length G
  same_length F G x y = member-length F x ∙ sym (member-length G y)

  -- a member that is not maximal has another over it
  member-over : (F : Position) → X F ≡ true → maximal K n X F ≡ false
      → (G : Position) × (X G ≡ true) × (below F G ≡ true) × (below G F ≡ false)
  unfolding maximal
  member-over F x m =
      let r = any_at (over X F) (positions K n) (not-false (any (over X F) (positions K n)) (rw x at m)) in
      let G = r.0 in
      let t = both_left (X G && below F G) (not (below G F)) r.2 in (
        G,
        both_left (X G) (below F G) t,
        both_right (X G) (below F G) t,
        not-true (below G F) (both_right (X G && below F G) (not (below G F)) r.2),
      )

  -- nothing of the set stands over a maximal member but itself
  pub maximal-top : (F G : Position) → maximal K n X F ≡ true → X G ≡ true → below F G ≡ true → F ≡ G
  unfolding maximal
  maximal-top F G m x b =
      below_antisym F G (same_length F G (maximal_in F m) x) b
      (⊎_elim (λ (t : below G F ≡ true). t) (λ t. absurd (none_over t)) (decided (below G F)))
    where
      none_over : below G F ≡ false → ⊥
      none_over t =
          clash (any (over X F) (positions K n))
          (any_of (over X F) (positions K n) G (positions_hold K n G (safe G x))
          (both (X G && below F G) (not (below G F)) (both (X G) (below F G) x b) (ap not t)))
          (not-true (any (over X F) (positions K n)) (both_right (X F) (not (any (over X F) (positions K n))) m))

  -- and that makes a member maximal
  pub top-maximal : (F : Position) → X F ≡ true → ((G : Position) → X G ≡ true → below F G ≡ true → F ≡ G) → maximal K n X F ≡ true
  top-maximal F x p = ⊎_elim (λ (m : maximal K n X F ≡ true). m) (λ m. absurd (go (member-over F x m))) (decided (maximal K n X F))
    where
      go : (G : Position) × (X G ≡ true) × (below F G ≡ true) × (below G F ≡ false) → ⊥
      go r = clash (below F F) (below_refl F) (rw (← p r.0 r.1 r.2) at r.3)

  pub members_ascend : Ascending (maximal_members K n X)
  unfolding maximal_members
  members_ascend = keep-ascends (maximal K n X) (positions K n) (positions_ascend K n)

  sum_bound : (F : Position) → X F ≡ true → sum_of F ≤ n * (K + 1)
  sum_bound F x = rw (member-length F x) at (sum_safe K F (safe_at K F (all_safe-safe K n F (safe F x))))

  -- a member is below a maximal one, if each member above it with a larger sum is
  climb-from : (F : Position) → X F ≡ true → ((G : Position) → X G ≡ true → sum_of F < sum_of G → Under K n X G) → Under K n X F
  climb-from F x rest = ⊎_elim (λ m. (F, maximal-member F m, below_refl F)) (λ m. go (member-over F x m)) (decided (maximal K n X F))
    where
      go : (G : Position) × (X G ≡ true) × (below F G ≡ true) × (below G F ≡ false) → Under K n X F
      go r =
          let s = rest r.0 r.1 (sum_over F r.0 (same_length F r.0 x r.1) r.2 r.3) in
          (s.0, s.1, below_trans F r.0 s.0 r.2 s.2)

  -- by induction on what the sum can still grow
  climb_by : (left : ℕ) (F : Position) → X F ≡ true → n * (K + 1) ≤ sum_of F + left → Under K n X F
  climb_by zero F x h = climb-from F x (λ G y l. absurd (omega (arith, sum_bound G y)))
  climb_by (suc left) F x h = climb-from F x (λ G y l. climb_by left G y (omega arith))

  -- each member of the set is below a maximal one
  pub climb : (F : Position) → X F ≡ true → (G : Position) × Memᴰ G (maximal_members K n X) × (below F G ≡ true)
  climb F x = climb_by (n * (K + 1)) F x (omega arith)

  -- the list covers exactly the set
  pub covers : Down X → (F : Position) → length F ≡ n → (X F ≡ true) ↔ (covering (maximal_members K n X) F < length (maximal_members K n X))
  unfolding covering
  covers d F e = (covered, inside)
    where
      members : List Position
      members = maximal_members K n X

      covered : X F ≡ true → place (below F) members < length members
      covered x =
          let r = climb F x in
          let i = at-member members r.0 [] r.1 in
          let h : i.0 < length members = i.1 in
          omega (arith, place_found (below F) members [] i.0 h (ap (below F) i.2 ∙ r.2))

      inside : place (below F) members < length members → X F ≡ true
      inside h =
          let G = get_or members (place (below F) members) [] in
          let y : X G ≡ true = member_in G (member-at members (place (below F) members) [] h) in
          d F G (e ∙ sym (member-length G y)) (place-holds (below F) members [] h) y

  -- raised by one in any single count, a maximal member leaves the set, and only a maximal one does
  pub maximal_raised : Down X → (F : Position) → X F ≡ true → (maximal K n X F ≡ true) ↔ ((q : ℕ) → q < n → X (raise F q) ≡ false)
  maximal_raised d F x = (leaves, only)
    where
      changed : (q : ℕ) → q < n → F ≡ raise F q → ⊥
      changed q h e =
          let l : q < length F = rw (member-length F x) h in
          let c : count F q ≡ suc (count F q) = ap (λ (G : Position). count G q) e ∙ get_or-set_same F q (suc (count F q)) 0 l in
          omega arith

      leaves : maximal K n X F ≡ true → (q : ℕ) → q < n → X (raise F q) ≡ false
      leaves m q h = refuted (X (raise F q)) (λ y. changed q h (maximal-top F (raise F q) m y (raise_above F q (rw (member-length F x) h))))

      only : ((q : ℕ) → q < n → X (raise F q) ≡ false) → maximal K n X F ≡ true
      only p = top-maximal F x (λ G y b. same-counts F G (same_length F G x y) (λ q h. go G y b q h (dec_lt (count F q) (count G q))))
        where
          go : (G : Position) → X G ≡ true → below F G ≡ true → (q : ℕ) → q < length F → Dec (count F q < count G q) → count F q ≡ count G q
          go G y b q h (yes l) =
              absurd (clash (X (raise F q))
              (d (raise F q) G (length-set F q (suc (count F q)) ∙ same_length F G x y) (raise-below F G q h b l) y)
              (p q (rw (sym (member-length F x)) h)))
          go G y b q h (no l) = omega (arith, below_at F G b q)

-- the maximal members determine the set
members-within : (K n : ℕ) (X Y : Set) → Within X (all_safe K n) → Within Y (all_safe K n) → Down Y
    → maximal_members K n X ≡ maximal_members K n Y → Within X Y
members-within K n X Y sX sY dY e F x =
    let r = climb K n X sX F x in
    let y : Y r.0 ≡ true = member_in K n Y sY r.0 (rw e at r.1) in
    dY F r.0 (member-length K n X sX F x ∙ sym (member-length K n Y sY r.0 y)) r.2 y

pub members_determine : (K n : ℕ) (X Y : Set) → Within X (all_safe K n) → Within Y (all_safe K n) → Down X → Down Y
    → maximal_members K n X ≡ maximal_members K n Y → (F : Position) → X F ≡ Y F
members_determine K n X Y sX sY dX dY e F =
    same_test (X F) (Y F) (members-within K n X Y sX sY dY e F) (members-within K n Y X sY sX dX (sym e) F)

-- and the set determines them
pub members-same : (K n : ℕ) (X Y : Set) → ((F : Position) → X F ≡ Y F) → maximal_members K n X ≡ maximal_members K n Y
members-same K n X Y p = ap (maximal_members K n) (fun_ext p)

-- any ascending list of safe positions that holds the maximal members and nothing else is that list
pub members_are : (K n : ℕ) (X : Set) → Within X (all_safe K n) → (l : List Position) → Ascending l
    → ((F : Position) → Memᴰ F l → maximal K n X F ≡ true) → ((F : Position) → maximal K n X F ≡ true → Memᴰ F l)
    → l ≡ maximal_members K n X
members_are K n X s l a p q =
    ascending-equal l (maximal_members K n X) a (members_ascend K n X s) (λ F m. maximal-member K n X s F (p F m))
    (λ F m. q F (member-maximal K n X s F m))

-- The winners are the maximal members of the winning set: they cover exactly that set,
pub winning-covered : (K : ℕ) (t : Table) (X : Set) → FirstSet K t X → (F : Position) → length F ≡ t.controllers
    → (winning K t X F ≡ true) ↔ (covering (winners K t X) F < length (winners K t X))
unfolding winners
winning-covered K t X first = covers K t.controllers (winning K t X) (winning-safe K t X first) (winning-down K t X first)

-- and where there is an output there is one, since the position with -1 everywhere always wins
pub some_winner : (K : ℕ) (t : Table) (X : Set) → FirstSet K t X → 0 < t.outputs → 0 < length (winners K t X)
some_winner K t X first output =
    omega (
      arith,
      (winning-covered K t X first (nowhere t.controllers) (length-replicate t.controllers 0)).0
          (winning-nowhere K t X first output),
    )

-- "the first winner that the start position is below" is there
abbrev pub StartCovered : ℕ → Table → Set → Type 0
StartCovered K t X = start_state K t (winners K t X) < length (winners K t X)
