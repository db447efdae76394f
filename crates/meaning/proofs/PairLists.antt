-- The first list of pairs: its maximal members are the pairs of the two winning lists' members, the first list's order before the
-- second's. A pair is maximal exactly if both halves are, and pairs compare by their first halves first.
use mathlib.Core.Path.{◌≡◌, refl, sym, ap, ap₂, ◌∙◌}
use mathlib.Core.Logic.{◌⊎◌, inl, inr}
use mathlib.Core.Bool.{true, ◌&&◌, true≢false}
use mathlib.Core.List.{List, [], ◌∷◌, ◌++◌, map, flat_map, map-map, map-id}
use mathlib.Core.List.Memᴰ
use mathlib.Core.List.{Memᴰ}
use Prim.Native.Nat.{ℕ, ◌+◌, ◌<◌}
use native.Mathlib.Omega.{arith}
use lib.ListN.{length, take, drop}
use lib.Seq.{take_at, drop_at}
use Rattle.meaning.specs.Lists.{before, Ascending, none, more}
use Rattle.meaning.specs.Table.{Table}
use Rattle.meaning.specs.Counting.{Position, below}
use Rattle.meaning.specs.Rounds.{Set, all_safe, maximal, maximal_members, Within}
use Rattle.meaning.specs.Written.{winners}
use Rattle.meaning.specs.Join.{pairs}
use Rattle.meaning.proofs.Tests.{both, both_left, both_right}
use Rattle.meaning.proofs.Steps.{below_refl}
use Rattle.meaning.proofs.Ascending.{before_cases, before-first, before-rest, append-ascends, cons-ascends}
use Rattle.meaning.proofs.Lists.{flat_map-member, member-flat_map}
use Rattle.meaning.proofs.Positions.{all_safe-length}
use Rattle.meaning.proofs.Rounds.{all_safe-first, winning-safe}
use Rattle.meaning.proofs.Maximal.{member-maximal, member_in, maximal-member, maximal-top, top-maximal, members_ascend, members_are}
use Rattle.meaning.proofs.Follows.{winning_set}
use Rattle.meaning.proofs.Union.{below-append, side_by_side}
use Rattle.meaning.proofs.Parts.{pairs-safe}

-- each position of the first list beside each of the second
unfoldable pub beside : List Position → List Position → List Position
beside Fs Gs = flat_map (λ (F : Position). map (λ (G : Position). F ++ G) Gs) Fs

-- the members of this list
pub beside-member : (Fs Gs : List Position) (F G : Position) → Memᴰ F Fs → Memᴰ G Gs → Memᴰ (F ++ G) (beside Fs Gs)
unfolding beside
beside-member Fs Gs F G f g = flat_map-member (λ (H : Position). map (λ (J : Position). H ++ J) Gs) Fs F (F ++ G) f
    (Memᴰ.map (λ (J : Position). F ++ J) g)

pub member-beside : (Fs Gs : List Position) (P : Position) → Memᴰ P (beside Fs Gs)
    → (F : Position) × (G : Position) × Memᴰ F Fs × Memᴰ G Gs × (F ++ G ≡ P)
unfolding beside
member-beside Fs Gs P m =
    let r = member-flat_map (λ (F : Position). map (λ (G : Position). F ++ G) Gs) Fs P m in
    let s = Memᴰ.of_map (λ (G : Position). r.0 ++ G) Gs r.2 in
    (r.0, s.0, r.1, s.1, s.2)

-- positions of one length side by side compare by their first halves
pub before-append : (F F' G G' : Position) → length F ≡ length F' → before F F' ≡ true → before (F ++ G) (F' ++ G') ≡ true
unfolding before
before-append F [] G G' e b = absurd (true≢false (sym b))
before-append [] (c ∷ F') G G' e b = absurd (omega arith)
before-append (c ∷ F) (d ∷ F') G G' e b = go (before_cases c d F F' b) (before-append F F' G G' (omega arith))
  where
    go : (c < d) ⊎ ((c ≡ d) × (before F F' ≡ true)) → (before F F' ≡ true → before (F ++ G) (F' ++ G') ≡ true)
        → before (c ∷ (F ++ G)) (d ∷ (F' ++ G')) ≡ true
    go (inl l) rest = before-first c d (F ++ G) (F' ++ G') l
    go (inr r) rest = before-rest c d (F ++ G) (F' ++ G') r.0 (rest r.1)

-- the same position before each
pub front-ascends : (F : Position) (Gs : List Position) → Ascending Gs → Ascending (map (λ (G : Position). F ++ G) Gs)
front-ascends [] Gs a = rw (map-id Gs) a
front-ascends (c ∷ F) Gs a =
    rw (map-map (λ (P : Position). c ∷ P) (λ (G : Position). F ++ G) Gs) at
    (cons-ascends c (map (λ (G : Position). F ++ G) Gs) (front-ascends F Gs a))

pub beside-ascends : (n : ℕ) (Fs Gs : List Position) → ((F : Position) → Memᴰ F Fs → length F ≡ n) → Ascending Fs → Ascending Gs
    → Ascending (beside Fs Gs)
unfolding beside flat_map
beside-ascends n [] Gs sized none b = none
beside-ascends n (F ∷ Fs) Gs sized (more p a) b =
    append-ascends (map (λ (G : Position). F ++ G) Gs) (beside Fs Gs) (front-ascends F Gs b)
    (beside-ascends n Fs Gs (λ H m. sized H (Memᴰ.tail m)) a b) earlier
  where
    earlier : (P Q : Position) → Memᴰ P (map (λ (G : Position). F ++ G) Gs) → Memᴰ Q (beside Fs Gs) → before P Q ≡ true
    earlier P Q m k =
        let r = Memᴰ.of_map (λ (G : Position). F ++ G) Gs m in
        let s = member-beside Fs Gs Q k in
        let same : length F ≡ length s.0 = sized F (Memᴰ.head refl) ∙ sym (sized s.0 (Memᴰ.tail s.2)) in
        rw (← r.2, ← s.4) (before-append F s.0 r.0 s.1 same (p s.0 s.2))

-- a maximal member is a member
maximal-holds : (K n : ℕ) (X : Set) → Within X (all_safe K n) → (F : Position) → maximal K n X F ≡ true → X F ≡ true
maximal-holds K n X safe F w = member_in K n X safe F (maximal-member K n X safe F w)

-- a set Z of pairs, each in it exactly if its first half is in X and its second in Y
module _ (K n m : ℕ) (X Y Z : Set) (safe_x : Within X (all_safe K n)) (safe_y : Within Y (all_safe K m))
    (safe_z : Within Z (all_safe K (n + m)))
    (halves : (F G : Position) → length F ≡ n → Z (F ++ G) ≡ (X F && Y G)) where
  size_x : (F : Position) → X F ≡ true → length F ≡ n
  size_x F x = all_safe-length K n F (safe_x F x)

  pair_in : (F G : Position) → X F ≡ true → Y G ≡ true → Z (F ++ G) ≡ true
  pair_in F G x y = halves F G (size_x F x) ∙ both (X F) (Y G) x y

  -- a pair of maximal halves is maximal
  pair-maximal : (F G : Position) → maximal K n X F ≡ true → maximal K m Y G ≡ true → maximal K (n + m) Z (F ++ G) ≡ true
  pair-maximal F G x y =
      top-maximal K (n + m) Z safe_z (F ++ G) (pair_in F G first (maximal-holds K m Y safe_y G y))
      (λ P z b. side_by_side n m (λ P. Z P ≡ true → below (F ++ G) P ≡ true → F ++ G ≡ P) top P (all_safe-length K (n + m) P (safe_z P z)) z
      b)
    where
      first : X F ≡ true
      first = maximal-holds K n X safe_x F x

      top : (F' G' : Position) → length F' ≡ n → length G' ≡ m → Z (F' ++ G') ≡ true → below (F ++ G) (F' ++ G') ≡ true → F ++ G ≡ F' ++ G'
      top F' G' e _ z b =
          let inside : (X F' && Y G') ≡ true = sym (halves F' G' e) ∙ z in
          let under : (below F F' && below G G') ≡ true = sym (below-append F G F' G' (size_x F first ∙ sym e)) ∙ b in
          ap₂ ◌++◌ (maximal-top K n X safe_x F F' x (both_left (X F') (Y G') inside) (both_left (below F F') (below G G') under))
          (maximal-top K m Y safe_y G G' y (both_right (X F') (Y G') inside) (both_right (below F F') (below G G') under))

  -- and the halves of a maximal pair are maximal: a half over one of them would make a pair over it
  maximal_halves : (F G : Position) → length F ≡ n → maximal K (n + m) Z (F ++ G) ≡ true
      → (maximal K n X F ≡ true) × (maximal K m Y G ≡ true)
  maximal_halves F G e z = (
    top-maximal K n X safe_x F x
        (λ F' x' b. sym (take_at F G n e) ∙ ap (take n) (top F' G x' y b (below_refl G)) ∙ take_at F' G n (size_x F' x')),
    top-maximal K m Y safe_y G y (λ G' y' b. sym (drop_at F G n e) ∙ ap (drop n) (top F G' x y' (below_refl F) b) ∙ drop_at F G' n e),
  )
    where
      inside : (X F && Y G) ≡ true
      inside = sym (halves F G e) ∙ maximal-holds K (n + m) Z safe_z (F ++ G) z

      x : X F ≡ true
      x = both_left (X F) (Y G) inside

      y : Y G ≡ true
      y = both_right (X F) (Y G) inside

      top : (F' G' : Position) → X F' ≡ true → Y G' ≡ true → below F F' ≡ true → below G G' ≡ true → F ++ G ≡ F' ++ G'
      top F' G' x' y' b c =
          maximal-top K (n + m) Z safe_z (F ++ G) (F' ++ G') z (pair_in F' G' x' y')
          (below-append F G F' G' (e ∙ sym (size_x F' x')) ∙ both (below F F') (below G G') b c)

  -- so the maximal pairs are the pairs of maximal halves
  pub members-beside : maximal_members K (n + m) Z ≡ beside (maximal_members K n X) (maximal_members K m Y)
  members-beside =
      sym (members_are K (n + m) Z safe_z (beside Fs Gs)
      (beside-ascends n Fs Gs (λ F f. size_x F (member_in K n X safe_x F f)) (members_ascend K n X safe_x) (members_ascend K m Y safe_y))
      listed held)
    where
      Fs : List Position
      Fs = maximal_members K n X

      Gs : List Position
      Gs = maximal_members K m Y

      listed : (P : Position) → Memᴰ P (beside Fs Gs) → maximal K (n + m) Z P ≡ true
      listed P k =
          let r = member-beside Fs Gs P k in
          rw r.4 at (pair-maximal r.0 r.1 (member-maximal K n X safe_x r.0 r.2) (member-maximal K m Y safe_y r.1 r.3))

      held : (P : Position) → maximal K (n + m) Z P ≡ true → Memᴰ P (beside Fs Gs)
      held P z =
          side_by_side n m (λ P. maximal K (n + m) Z P ≡ true → Memᴰ P (beside Fs Gs))
          (λ F G e _ z.
          let r = maximal_halves F G e z in
          beside-member Fs Gs F G (maximal-member K n X safe_x F r.0) (maximal-member K m Y safe_y G r.1))
          P (all_safe-length K (n + m) P (safe_z P (maximal-holds K (n + m) Z safe_z P z))) z

pub pairs-members : (K : ℕ) (t u : Table)
    → maximal_members K (t.controllers + u.controllers) (pairs K t u)
    ≡ beside (winners K t (all_safe K t.controllers)) (winners K u (all_safe K u.controllers))
unfolding winners pairs
pairs-members K t u =
    members-beside K t.controllers u.controllers (winning_set K t) (winning_set K u) (pairs K t u)
    (winning-safe K t (all_safe K t.controllers) (all_safe-first K t)) (winning-safe K u (all_safe K u.controllers) (all_safe-first K u))
    (pairs-safe K t u) (λ F G e. rw (take_at F G t.controllers e, drop_at F G t.controllers e))
