-- The first set of the rounds by its list: a list of maximal members covers exactly their set, since a position of the set is below one
-- of them and the set contains everything below its members. So a list that stands for a first set is a first list, and that of the brim
-- stands for all safe positions. Assumes nothing.
use mathlib.Core.Path.{◌≡◌, sym, ap, ◌∙◌, fun_ext}
use mathlib.Core.Bool.{true}
use mathlib.Core.List.Memᴰ
use mathlib.Core.List.{List, [], ◌∷◌, map}
use Prim.Native.Nat.{ℕ, ◌≤◌, ◌<◌}
use native.Mathlib.Omega.{arith}
use borrow.Author.Tests.{eqb-true, eq-eqb}
use lib.Dec.{eqb}
use lib.ListN.{length}
use Rattle.meaning.specs.Lists.{any}
use Rattle.meaning.specs.Table.{Table, Small}
use Rattle.meaning.specs.Counting.{Position, below}
use Rattle.meaning.specs.Rounds.{Set, all_safe, maximal_members, Down, Within, FirstSet}
use Rattle.meaning.specs.Written.{position_bytes}
use Rattle.meaning.proofs.Tests.{both, both_left, both_right, same_test}
use Rattle.meaning.proofs.Lists.{any_at, any_of}
use Rattle.meaning.proofs.Positions.{all_safe-length}
use Rattle.meaning.proofs.Rounds.{all_safe-first}
use Rattle.meaning.proofs.Maximal.{member_in, climb}
use Rattle.counts.proofs.Wide.{below_wide}
use Rattle.sets.specs.Engine.{brim, StandsFor}
use Rattle.sets.proofs.Engine.{all_safe-stands}
use Rattle.rounds.specs.Rounds.{covered_by, FirstList}

-- the list of a set covers exactly the set
module _ (K n : ℕ) (few : n ≤ 8) (X : Set) (down : Down X) (safe : Within X (all_safe K n)) (l : List Position)
    (stands : StandsFor K n X l) where
  below-member : (F G : Position) → length F ≡ n → X G ≡ true → below (position_bytes F) (position_bytes G) ≡ below F G
  below-member F G e y = below_wide F G (omega arith) (omega (arith, all_safe-length K n G (safe G y)))

  covered_in : (F : Position) → covered_by n l F ≡ true → X F ≡ true
  unfolding covered_by
  covered_in F c =
      let e : length F ≡ n = eqb-true (length F) n (both_left (eqb (length F) n) (any (below (position_bytes F)) l) c) in
      let above : any (below (position_bytes F)) l ≡ true = both_right (eqb (length F) n) (any (below (position_bytes F)) l) c in
      let r = any_at (below (position_bytes F)) (map position_bytes (maximal_members K n X)) (rw stands at above) in
      let m = Memᴰ.of_map position_bytes (maximal_members K n X) r.1 in
      let y : X m.0 ≡ true = member_in K n X safe m.0 m.1 in
      down F m.0 (e ∙ sym (all_safe-length K n m.0 (safe m.0 y)))
      (sym (below-member F m.0 e y) ∙ ap (below (position_bytes F)) m.2 ∙ r.2) y

  in-covered : (F : Position) → X F ≡ true → covered_by n l F ≡ true
  unfolding covered_by
  in-covered F x =
      let e : length F ≡ n = all_safe-length K n F (safe F x) in
      let r = climb K n X safe F x in
      both (eqb (length F) n) (any (below (position_bytes F)) l) (eq-eqb (length F) n e)
      (rw stands (any_of (below (position_bytes F)) (map position_bytes (maximal_members K n X)) (position_bytes r.0)
      (Memᴰ.map position_bytes r.1)
      (below-member F r.0 e (member_in K n X safe r.0 r.1) ∙ r.2)))

  pub covered-set : covered_by n l ≡ X
  covered-set = fun_ext (λ F. same_test (covered_by n l F) (X F) (covered_in F) (in-covered F))

-- a list that stands for a first set: it covers that set, and is a first list
module _ (K : ℕ) (t : Table) (small : Small t) (X : Set) (first : FirstSet K t X) (l : List Position)
    (stands : StandsFor K t.controllers X l) where
  pub first-covered : covered_by t.controllers l ≡ X
  first-covered = covered-set K t.controllers small.controllers X first.down first.safe l stands

  pub first_list : 0 < t.outputs → FirstList K t l
  first_list output = record { small = small; some-output = output; first = rw first-covered first; stands = rw first-covered stands }

-- the brim covers all safe positions
pub brim-covered : (K : ℕ) (t : Table) → Small t → covered_by t.controllers (position_bytes (brim K t.controllers) ∷ [])
    ≡ all_safe K t.controllers
brim-covered K t small = first-covered K t small (all_safe K t.controllers) (all_safe-first K t) _ (all_safe-stands K t.controllers)

pub brim-first : (K : ℕ) (t : Table) → Small t → 0 < t.outputs → FirstList K t (position_bytes (brim K t.controllers) ∷ [])
brim-first K t small = first_list K t small (all_safe K t.controllers) (all_safe-first K t) _ (all_safe-stands K t.controllers)
