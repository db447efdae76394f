-- The named sets by their maximal members, letter by letter: A's next list is the tops of the lesser counts of its members and the members
-- of W stepped back, B's next list the tops of its members and the members of A stepped back. Each set holds exactly what its list covers
-- (`members-tops`): a position leads below a member of W exactly if it is below that member stepped back. Assumes nothing.
use mathlib.Core.Path.{◌≡◌, refl, sym, ap, ◌∙◌}
use mathlib.Core.Logic.{◌⊎◌, inl, inr, ⊎_elim, ◌↔◌}
use mathlib.Core.Bool.{true}
use mathlib.Core.List.Memᴰ
use mathlib.Core.List.{List, [], ◌∷◌, ◌++◌, map}
use mathlib.Core.List.{Memᴰ}
use Prim.Native.Nat.{ℕ, zero, suc, ◌+◌}
use native.Mathlib.Nat.{le_of_eq, not-suc-le-zero}
use native.Mathlib.Omega.{arith}
use lib.ListN.{length}
use Rattle.meaning.specs.Table.{Half, Table, on_output, on_input}
use Rattle.meaning.specs.Counting.{Position, forward, below, back}
use Rattle.meaning.specs.Rounds.{Set, all_safe, set_a, set_b, maximal_members, Down, Within}
use Rattle.meaning.proofs.Tests.{below_last, same_test}
use Rattle.meaning.proofs.Lists.{tab-length, tab-at}
use Rattle.meaning.proofs.Steps.{below_of, below_refl, safe_at, safe-of, forward-length, forward-back, back-length, back-safe}
use Rattle.meaning.proofs.Positions.{all_safe-length, all_safe-safe, all_safe-of}
use Rattle.meaning.proofs.Rounds.{set_a-of, set_a-safe, set_a-leads, set_a-down, set_b-of, set_b-safe, set_b-leads}
use Rattle.meaning.proofs.Maximal.{member-maximal, member_in, maximal-top, members_ascend, climb, members-same}
use Rattle.counts.specs.Halves.{lesser_counts}
use Rattle.counts.proofs.Lesser.{lesser_length, lesser_left, lesser_right, lesser_of}
use Rattle.tops.specs.Tops.{tops, meets}
use Rattle.tops.proofs.Kept.{Covered, tops-only, tops-one}
use Rattle.tops.proofs.Meets.{meets-member, member-meets}
use Rattle.sets.specs.Engine.{brim}

-- a list of members that covers the whole set has the set's maximal members as its tops
pub members-tops : (K n : ℕ) (X : Set) → Within X (all_safe K n) → (Fs : List Position) → ((F : Position) → Memᴰ F Fs → X F ≡ true)
    → ((F : Position) → X F ≡ true → Covered Fs F) → maximal_members K n X ≡ tops Fs
members-tops K n X safe Fs inside covered =
    tops-only n Fs (maximal_members K n X) (λ F m. all_safe-length K n F (safe F (inside F m)))
    (record {
      ascends = members_ascend K n X safe;
      among = λ F m. let r = covered F (member_in K n X safe F m) in Memᴰ.cast (alone F r.0 m r.1 r.2) r.1;
      maximal = alone;
    })
    (λ F m. climb K n X safe F (inside F m))
  where
    alone : (F G : Position) → Memᴰ F (maximal_members K n X) → Memᴰ G Fs → below F G ≡ true → F ≡ G
    alone F G m k b = maximal-top K n X safe F G (member-maximal K n X safe F m) (inside G k) b

-- the one maximal member of all safe positions
pub brim-safe : (K n : ℕ) → all_safe K n (brim K n) ≡ true
brim-safe K n =
    all_safe-of K n (brim K n) (tab-length n (λ _. K + 1))
    (safe-of K (brim K n) (λ q l. le_of_eq (tab-at n (λ _. K + 1) q 0 (rw (tab-length n (λ (_ : ℕ). K + 1)) at l))))

pub brim_above : (K n : ℕ) (F : Position) → all_safe K n F ≡ true → below F (brim K n) ≡ true
brim_above K n F a =
    below_of F (brim K n)
    (λ q l. rw (tab-at n (λ _. K + 1) q 0 (rw (all_safe-length K n F a) at l)) (safe_at K F (all_safe-safe K n F a) q))

pub all_safe-brim : (K n : ℕ) → maximal_members K n (all_safe K n) ≡ brim K n ∷ []
all_safe-brim K n =
    members-tops K n (all_safe K n) (λ F a. a) (brim K n ∷ []) (λ F m. rw (Memᴰ.eq_of_singleton m) (brim-safe K n))
    (λ F a. (brim K n, Memᴰ.head refl, brim_above K n F a))
    ∙ tops-one (brim K n)

-- a position leads into a set exactly if it is below a maximal member stepped back
pub leads-back : (K : ℕ) (h : Half) (Y : Set) → Down Y → Within Y (all_safe K h.targets) → (F : Position)
    → all_safe K h.sources F ≡ true
    → (Y (forward K h F) ≡ true) ↔ Covered (map (back K h) (maximal_members K h.targets Y)) F
leads-back K h Y down safe F a = (to, fro)
  where
    -- below a member stepped back, and forward below the member, are the same
    same : (G : Position) → Y G ≡ true → (below (forward K h F) G ≡ true) ↔ (below F (back K h G) ≡ true)
    same G y =
        forward-back K h F G (all_safe-length K h.sources F a) (all_safe-length K h.targets G (safe G y))
        (all_safe-safe K h.sources F a)
        (all_safe-safe K h.targets G (safe G y))

    to : Y (forward K h F) ≡ true → Covered (map (back K h) (maximal_members K h.targets Y)) F
    to y =
        let r = climb K h.targets Y safe (forward K h F) y in
        (back K h r.0, Memᴰ.map (back K h) r.1, (same r.0 (member_in K h.targets Y safe r.0 r.1)).0 r.2)

    fro : Covered (map (back K h) (maximal_members K h.targets Y)) F → Y (forward K h F) ≡ true
    fro c =
        let r = Memᴰ.of_map (back K h) (maximal_members K h.targets Y) c.1 in
        let y : Y r.0 ≡ true = member_in K h.targets Y safe r.0 r.1 in
        down (forward K h F) r.0 (forward-length K h F ∙ sym (all_safe-length K h.targets r.0 (safe r.0 y)))
        ((same r.0 y).1 (ap (below F) r.2 ∙ c.2)) y

-- one input more, and one output more
pub set_a-suc : (K : ℕ) (t : Table) (W : Set) (j : ℕ) (F : Position)
    → (set_a K t W (suc j) F ≡ true) ↔ ((set_a K t W j F ≡ true) × (W (forward K (on_input t j) F) ≡ true))
set_a-suc K t W j F = (to, fro)
  where
    to : set_a K t W (suc j) F ≡ true → (set_a K t W j F ≡ true) × (W (forward K (on_input t j) F) ≡ true)
    to a =
        let leads = set_a-leads K t W (suc j) F a in
        (set_a-of K t W j F (set_a-safe K t W (suc j) F a) (λ i l. leads i (omega arith)), leads j (omega arith))

    fro : (set_a K t W j F ≡ true) × (W (forward K (on_input t j) F) ≡ true) → set_a K t W (suc j) F ≡ true
    fro p = set_a-of K t W (suc j) F (set_a-safe K t W j F p.0) (below_last j (set_a-leads K t W j F p.0) p.1)

pub set_b-suc : (K : ℕ) (t : Table) (W : Set) (k : ℕ) (F : Position) → all_safe K t.controllers F ≡ true
    → (set_b K t W (suc k) F ≡ true) ↔ ((set_b K t W k F ≡ true) ⊎ (set_a K t W t.inputs (forward K (on_output t k) F) ≡ true))
set_b-suc K t W k F s = (to, fro)
  where
    leads : ℕ → Type 0
    leads o = set_a K t W t.inputs (forward K (on_output t o) F) ≡ true

    to : set_b K t W (suc k) F ≡ true → (set_b K t W k F ≡ true) ⊎ leads k
    to b =
        let (o, l, a) = set_b-leads K t W (suc k) F b in
        below_last {P = λ (i : ℕ). leads i → (set_b K t W k F ≡ true) ⊎ leads k} k (λ i h c. inl (set_b-of K t W k F s i h c))
        (λ c. inr c) o l a

    fro : (set_b K t W k F ≡ true) ⊎ leads k → set_b K t W (suc k) F ≡ true
    fro (inl b) = let (o, l, a) = set_b-leads K t W k F b in set_b-of K t W (suc k) F s o (omega arith) a
    fro (inr a) = set_b-of K t W (suc k) F s k (omega arith) a

module _ (K : ℕ) (t : Table) (W : Set) (down : Down W) (safe : Within W (all_safe K t.controllers)) where
  -- A(r, 0)
  pub set_a-none : maximal_members K t.worlds (set_a K t W zero) ≡ brim K t.worlds ∷ []
  set_a-none =
      members-same K t.worlds (set_a K t W zero) (all_safe K t.worlds)
      (λ F. same_test (set_a K t W zero F) (all_safe K t.worlds F) (set_a-safe K t W zero F)
      (λ a. set_a-of K t W zero F a (λ i h. absurd (not-suc-le-zero h))))
      ∙ all_safe-brim K t.worlds

  -- A(r, j + 1)
  pub set_a_cut : (j : ℕ) → maximal_members K t.worlds (set_a K t W (suc j))
      ≡ tops (meets (maximal_members K t.worlds (set_a K t W j)) (map (back K (on_input t j)) (maximal_members K t.controllers W)))
  set_a_cut j =
      members-tops K t.worlds (set_a K t W (suc j)) (set_a-safe K t W (suc j)) (meets members backs) inside covered
    where
      members : List Position
      members = maximal_members K t.worlds (set_a K t W j)

      backs : List Position
      backs = map (back K (on_input t j)) (maximal_members K t.controllers W)

      inside : (H : Position) → Memᴰ H (meets members backs) → set_a K t W (suc j) H ≡ true
      inside H m =
          let (F, G, f, g, e) = member-meets members backs H m in
          let a : set_a K t W j H ≡ true =
          set_a-down K t W j down H F (ap length e ∙ lesser_length F G) (ap (λ (x : Position). below x F) e ∙ lesser_left F G)
          (member_in K t.worlds (set_a K t W j) (set_a-safe K t W j) F f) in
          (set_a-suc K t W j H).1 (
            a,
            (leads-back K (on_input t j) W down safe H (set_a-safe K t W j H a)).1
                (G, g, ap (λ (x : Position). below x G) e ∙ lesser_right F G),
          )

      covered : (F : Position) → set_a K t W (suc j) F ≡ true → Covered (meets members backs) F
      covered F a =
          let p = (set_a-suc K t W j F).0 a in
          let f = climb K t.worlds (set_a K t W j) (set_a-safe K t W j) F p.0 in
          let g = (leads-back K (on_input t j) W down safe F (set_a-safe K t W j F p.0)).0 p.1 in
          (lesser_counts f.0 g.0, meets-member members backs f.0 g.0 f.1 g.1, lesser_of f.0 g.0 F f.2 g.2)

  -- B(r, 0)
  pub set_b-none : maximal_members K t.controllers (set_b K t W zero) ≡ []
  unfolding tops
  set_b-none =
      members-tops K t.controllers (set_b K t W zero) (set_b-safe K t W zero) [] (λ F m. absurd (Memᴰ.not-nil m))
      (λ F b. absurd (not-suc-le-zero (set_b-leads K t W zero F b).1))

  -- B(r, k + 1)
  pub set_b_widen : (k : ℕ) → maximal_members K t.controllers (set_b K t W (suc k))
      ≡ tops (maximal_members K t.controllers (set_b K t W k)
      ++ map (back K (on_output t k)) (maximal_members K t.worlds (set_a K t W t.inputs)))
  set_b_widen k =
      members-tops K t.controllers (set_b K t W (suc k)) (set_b-safe K t W (suc k)) (members ++ backs) inside covered
    where
      members : List Position
      members = maximal_members K t.controllers (set_b K t W k)

      backs : List Position
      backs = map (back K (on_output t k)) (maximal_members K t.worlds (set_a K t W t.inputs))

      leads : (F : Position) → all_safe K t.controllers F ≡ true
          → (set_a K t W t.inputs (forward K (on_output t k) F) ≡ true) ↔ Covered backs F
      leads = leads-back K (on_output t k) (set_a K t W t.inputs) (set_a-down K t W t.inputs down) (set_a-safe K t W t.inputs)

      back_in : (F : Position) → Memᴰ F backs → all_safe K t.controllers F ≡ true
      back_in F m =
          let (G, g, e) = Memᴰ.of_map (back K (on_output t k)) (maximal_members K t.worlds (set_a K t W t.inputs)) m in
          rw (← e) (all_safe-of K t.controllers (back K (on_output t k) G) (back-length K (on_output t k) G)
          (back-safe K (on_output t k) G))

      inside : (F : Position) → Memᴰ F (members ++ backs) → set_b K t W (suc k) F ≡ true
      inside F m =
          ⊎_elim
          (λ f. let b : set_b K t W k F ≡ true = member_in K t.controllers (set_b K t W k) (set_b-safe K t W k) F f in
          (set_b-suc K t W k F (set_b-safe K t W k F b)).1 (inl b))
          (λ f. (set_b-suc K t W k F (back_in F f)).1 (inr ((leads F (back_in F f)).1 (F, f, below_refl F))))
          (Memᴰ.append_cases members m)

      covered : (F : Position) → set_b K t W (suc k) F ≡ true → Covered (members ++ backs) F
      covered F b =
          ⊎_elim
          (λ c. let r = climb K t.controllers (set_b K t W k) (set_b-safe K t W k) F c in (r.0, Memᴰ.append_left backs r.1, r.2))
          (λ a. let r = (leads F (set_b-safe K t W (suc k) F b)).0 a in (r.0, Memᴰ.append_right members r.1, r.2))
          ((set_b-suc K t W k F (set_b-safe K t W (suc k) F b)).0 b)
