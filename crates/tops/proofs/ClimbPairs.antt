-- Climbing over the lesser counts of pairs, member by member: a position below x is below the lesser counts of x and y exactly if it is
-- below y, and one that is not below x is below no pair of x. Assumes nothing.
use mathlib.Core.Path.{◌≡◌, sym, ap, ◌∙◌}
use mathlib.Core.Bool.{true, false}
use mathlib.Core.List.Memᴰ
use mathlib.Core.List.{List, [], ◌∷◌, ◌++◌, map, map-append, Memᴰ}
use Rattle.meaning.specs.Counting.{Position, below}
use Rattle.meaning.proofs.Tests.{clash, refuted}
use Rattle.meaning.proofs.Steps.{below_trans}
use Rattle.counts.specs.Halves.{lesser_counts}
use Rattle.counts.proofs.Lesser.{lesser_left, lesser_right, lesser_of}
use Rattle.tops.specs.Tops.{meets}
use Rattle.tops.specs.Candidates.{climbed}
use Rattle.tops.proofs.Climb.{climbed-append, climbed_up, climbed_past, climbed-none}
use Rattle.tops.proofs.Meets.{meets-more}

-- over the pairs of x: one more that is above, and one more that is not
module _ (x : Position) (l : List Position) (F T y : Position) (reached : T ≡ climbed (map (lesser_counts x) l) F) where
  pub row_up : below T x ≡ true → below T y ≡ true → lesser_counts x y ≡ climbed (map (lesser_counts x) (l ++ y ∷ [])) F
  row_up b c =
      sym (ap (λ (m : List Position). climbed m F) (map-append (lesser_counts x) l (y ∷ []))
      ∙ climbed_up (map (lesser_counts x) l) F (lesser_counts x y) (rw reached at (lesser_of x y T b c)))

  pub row_past : below T y ≡ false → T ≡ climbed (map (lesser_counts x) (l ++ y ∷ [])) F
  row_past b =
      reached
      ∙ sym (ap (λ (m : List Position). climbed m F) (map-append (lesser_counts x) l (y ∷ []))
      ∙ climbed_past (map (lesser_counts x) l) F (lesser_counts x y)
      (rw reached at (refuted (below T (lesser_counts x y))
      (λ t. clash (below T y) (below_trans T (lesser_counts x y) y t (lesser_right x y)) b))))

-- over all pairs: one more x that is above, and one more that is not
module _ (xs ys : List Position) (F T x : Position) (reached : T ≡ climbed (meets xs ys) F) where
  pub rows_up : (U : Position) → U ≡ climbed (map (lesser_counts x) ys) T → U ≡ climbed (meets (xs ++ x ∷ []) ys) F
  rows_up U e =
      e ∙ ap (climbed (map (lesser_counts x) ys)) reached
      ∙ sym (ap (λ (m : List Position). climbed m F) (meets-more xs x ys) ∙ climbed-append (meets xs ys) (map (lesser_counts x) ys) F)

  pub rows_past : below T x ≡ false → T ≡ climbed (meets (xs ++ x ∷ []) ys) F
  rows_past b = rows_up T (sym (climbed-none (map (lesser_counts x) ys) T none))
    where
      none : (G : Position) → Memᴰ G (map (lesser_counts x) ys) → below T G ≡ false
      none G m =
          let r = Memᴰ.of_map (lesser_counts x) ys m in
          refuted (below T G) (λ t. clash (below T x) (below_trans T G x t (rw (← r.2) (lesser_left x r.0))) b)
