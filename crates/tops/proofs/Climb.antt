-- Climbing: a position of a list climbs to a maximal one by one run over the list, since whatever is still over the one reached stands
-- further on. So the tops cover the list. Assumes nothing.
use mathlib.Core.Path.{◌≡◌, refl}
use mathlib.Core.Logic.{⊎_elim}
use mathlib.Core.Bool.{true, false, cond}
use mathlib.Core.List.Memᴰ
use mathlib.Core.List.{List, [], ◌∷◌, ◌++◌, Memᴰ}
use Rattle.meaning.specs.Counting.{Position, below}
use Rattle.meaning.proofs.Tests.{clash, decided, refuted, cond_cases}
use Rattle.meaning.proofs.Steps.{below_refl, below_trans}
use Rattle.tops.specs.Tops.{top, tops}
use Rattle.tops.specs.Candidates.{climbed}
use Rattle.tops.proofs.Kept.{Covered, top_of, tops-member}

-- climbing along a list: whatever of it is over the position reached stands in the rest
abbrev pub Climbing : List Position → List Position → Position → Type 0
Climbing Fs rest F = (G : Position) → Memᴰ G Fs → below F G ≡ true → below G F ≡ false → Memᴰ G rest

-- one that is not above is passed by
pub climbing_past : (Fs rest : List Position) (F G : Position) → Climbing Fs (G ∷ rest) F → below F G ≡ false → Climbing Fs rest F
climbing_past Fs rest F G over c H m a b =
    ⊎_elim (λ (e : H ≡ G). absurd (clash (below F H) a (rw e c))) (λ k. k) (Memᴰ.cases_cons (over H m a b))

-- one that is above is taken
pub climbing_up : (Fs rest : List Position) (F G : Position) → Climbing Fs (G ∷ rest) F → below F G ≡ true → Climbing Fs rest G
climbing_up Fs rest F G over c H m a b =
    ⊎_elim (λ (e : H ≡ G). absurd (clash (below H G) (rw e (below_refl G)) b)) (λ k. k)
    (Memᴰ.cases_cons (over H m (below_trans F G H c a) (refuted (below H F) (λ d. clash (below H G) (below_trans H F G d c) b))))

-- and at the end nothing is over the position reached
pub climbing_ends : (Fs : List Position) (F : Position) → Climbing Fs [] F → top Fs F ≡ true
climbing_ends Fs F over =
    top_of Fs F (λ G m b. ⊎_elim (λ (c : below G F ≡ true). c) (λ c. absurd (Memᴰ.not-nil (over G m b c))) (decided (below G F)))

-- a climb leads up
pub climbed_above : (l : List Position) (F : Position) → below F (climbed l F) ≡ true
unfolding climbed
climbed_above [] F = below_refl F
climbed_above (G ∷ l) F =
    cond_cases (below F G) G F (λ H. below F (climbed l H) ≡ true) (λ b. below_trans F G (climbed l G) b (climbed_above l G))
    (λ _. climbed_above l F)

-- and ends at a top of the list
pub climbed-top : (Fs rest : List Position) → ((G : Position) → Memᴰ G rest → Memᴰ G Fs) → (F : Position) → Memᴰ F Fs
    → Climbing Fs rest F → Memᴰ (climbed rest F) Fs × (top Fs (climbed rest F) ≡ true)
unfolding climbed
climbed-top Fs [] within F m over = (m, climbing_ends Fs F over)
climbed-top Fs (G ∷ rest) within F m over =
    cond_cases (below F G) G F (λ H. Memᴰ (climbed rest H) Fs × (top Fs (climbed rest H) ≡ true))
    (λ b. climbed-top Fs rest later G (within G (Memᴰ.head refl)) (climbing_up Fs rest F G over b))
    (λ b. climbed-top Fs rest later F m (climbing_past Fs rest F G over b))
  where
    later : (H : Position) → Memᴰ H rest → Memᴰ H Fs
    later H k = within H (Memᴰ.tail k)

-- over a whole list
pub climbed-whole : (Fs : List Position) (F : Position) → Memᴰ F Fs → Memᴰ (climbed Fs F) Fs × (top Fs (climbed Fs F) ≡ true)
climbed-whole Fs F m = climbed-top Fs Fs (λ G k. k) F m (λ G k _ _. k)

pub tops_cover : (Fs : List Position) (F : Position) → Memᴰ F Fs → Covered (tops Fs) F
tops_cover Fs F m =
    let t = climbed-whole Fs F m in
    (climbed Fs F, tops-member Fs (climbed Fs F) t.0 t.1, climbed_above Fs F)

-- a climb over two lists goes over one and then the other
pub climbed-append : (l m : List Position) (F : Position) → climbed (l ++ m) F ≡ climbed m (climbed l F)
unfolding climbed
climbed-append [] m F = refl
climbed-append (G ∷ l) m F = climbed-append l m (cond (below F G) G F)

-- one more that is above, one more that is not, and a list with none that is
module _ (l : List Position) (F G : Position) where
  pub climbed_up : below (climbed l F) G ≡ true → climbed (l ++ G ∷ []) F ≡ G
  unfolding climbed
  climbed_up b = rw (climbed-append l (G ∷ []) F, b)

  pub climbed_past : below (climbed l F) G ≡ false → climbed (l ++ G ∷ []) F ≡ climbed l F
  unfolding climbed
  climbed_past b = rw (climbed-append l (G ∷ []) F, b)

pub climbed-none : (l : List Position) (F : Position) → ((G : Position) → Memᴰ G l → below F G ≡ false) → climbed l F ≡ F
unfolding climbed
climbed-none [] F none = refl
climbed-none (G ∷ l) F none = rw (none G (Memᴰ.head refl)) (climbed-none l F (λ H m. none H (Memᴰ.tail m)))
