-- A run over candidates that passes by what a kept one covers and keeps what any other climbs to (`collected`): it keeps maximal ones, each
-- once (`Picked`), if whatever is over a candidate that none covered at first stands in the list that it climbs along; and it covers each
-- candidate. A run that has covered all keeps the tops. Assumes nothing.
use mathlib.Core.Path.{◌≡◌, refl, sym, ap, ◌∙◌}
use mathlib.Core.Logic.{⊎_elim}
use mathlib.Core.Bool.{true, false}
use mathlib.Core.List.Memᴰ
use mathlib.Core.List.{List, [], ◌∷◌, ◌++◌, append-nil}
use mathlib.Core.List.{Memᴰ}
use Prim.Native.Nat.{ℕ}
use native.Mathlib.Omega.{arith}
use lib.ListN.{length, length-append}
use Rattle.meaning.specs.Counting.{Position, below, covered}
use Rattle.meaning.proofs.Tests.{clash, cond_cases}
use Rattle.meaning.proofs.Lists.{any_at, any_of}
use Rattle.meaning.proofs.Steps.{below_refl, below_trans}
use Rattle.lists.specs.Sorted.{sorted}
use Rattle.lists.proofs.Sorted.{sorted_more, sorted-own, sorted-member, member-sorted, put-new}
use Rattle.lists.proofs.Members.{Sized}
use Rattle.tops.specs.Tops.{tops}
use Rattle.tops.specs.Candidates.{climbed, keep_one, collected}
use Rattle.tops.proofs.Kept.{Kept, Covered, kept_put, top-alone, tops-only}
use Rattle.tops.proofs.Climb.{Climbing, climbed_above, climbed-top}

-- a list keeps maximal ones of Fs, each once
pub record Picked (Fs l : List Position) : Type 0 where
  pub kept : Kept Fs (sorted l)
  pub different : length (sorted l) ≡ length l

pub picked_own : (Fs l : List Position) → Kept Fs l → Picked Fs l
picked_own Fs l k = let e = sorted-own l k.ascends in record { kept = rw e k; different = ap length e }

-- nothing of a list is over a position, so there is nothing to climb to
pub climbing_none : (Fs Cs : List Position) (F : Position) → ((G : Position) → Memᴰ G Fs → below F G ≡ true → F ≡ G) → Climbing Fs Cs F
climbing_none Fs Cs F top G m a b = absurd (clash (below G F) (rw (top G m a) (below_refl G)) b)

-- one more candidate: what was kept is, and it is covered
module _ (Cs l : List Position) (F : Position) where
  one_cases : (P : List Position → Type 0) → (covered l F ≡ true → P l) → (covered l F ≡ false → P (l ++ climbed Cs F ∷ []))
      → P (keep_one Cs l F)
  unfolding keep_one
  one_cases P = cond_cases (covered l F) l (l ++ climbed Cs F ∷ []) P

  one-keeps : (G : Position) → Memᴰ G l → Memᴰ G (keep_one Cs l F)
  one-keeps G m = one_cases (Memᴰ G) (λ _. m) (λ _. Memᴰ.append_left (climbed Cs F ∷ []) m)

  one_covers : Covered (keep_one Cs l F) F
  one_covers =
      one_cases (λ k. Covered k F) (any_at (below F) l) (λ _. (climbed Cs F, Memᴰ.append_right l (Memᴰ.head refl), climbed_above Cs F))

-- those kept at first and the candidates are covered
pub collected-covers : (Cs l rest : List Position) (F : Position) → Covered (l ++ rest) F → Covered (collected Cs l rest) F
unfolding collected
collected-covers Cs l [] F c = rw (append-nil l) at c
collected-covers Cs l (G ∷ rest) F c =
    collected-covers Cs (keep_one Cs l G) rest F
    (⊎_elim (λ m. (c.0, Memᴰ.append_left rest (one-keeps Cs l G c.0 m), c.2))
    (λ m. ⊎_elim (λ (e : c.0 ≡ G). first (rw e at c.2)) (λ k. (c.0, Memᴰ.append_right (keep_one Cs l G) k, c.2))
    (Memᴰ.cases_cons m))
    (Memᴰ.append_cases l c.1))
  where
    first : below F G ≡ true → Covered (keep_one Cs l G ++ rest) F
    first b = let d = one_covers Cs l G in (d.0, Memᴰ.append_left rest d.1, below_trans F G d.0 b d.2)

module _ (n : ℕ) (Fs : List Position) (s : Sized n Fs) where
  -- one more
  one-run : (Cs l : List Position) (F : Position) → ((G : Position) → Memᴰ G Cs → Memᴰ G Fs) → Picked Fs l → Memᴰ F Fs
      → ((Covered l F → ⊥) → Climbing Fs Cs F) → Picked Fs (keep_one Cs l F)
  one-run Cs l F within run m climb = one_cases Cs l F (Picked Fs) (λ _. run) more
    where
      more : covered l F ≡ false → Picked Fs (l ++ climbed Cs F ∷ [])
      more c =
          let new : Covered l F → ⊥ = λ d. clash (covered l F) (any_of (below F) l d.0 d.1 d.2) c in
          let T = climbed Cs F in
          let t = climbed-top Fs Cs within F m (climb new) in
          record {
            kept = rw (sorted_more l T) (kept_put Fs (sorted l) T run.kept t.0 (top-alone n Fs s T t.0 t.1));
            different = rw (sorted_more l T)
                (omega (
                  arith,
                  put-new T (sorted l) (λ k. new (T, member-sorted l T k, climbed_above Cs F)),
                  run.different,
                  length-append l (T ∷ []),
                ));
          }

  -- all of them
  pub collected_picked : (Cs l rest : List Position) → ((G : Position) → Memᴰ G Cs → Memᴰ G Fs) → Picked Fs l
      → ((F : Position) → Memᴰ F rest → Memᴰ F Fs) → ((F : Position) → Memᴰ F rest → (Covered l F → ⊥) → Climbing Fs Cs F)
      → Picked Fs (collected Cs l rest)
  unfolding collected
  collected_picked Cs l [] within run among climb = run
  collected_picked Cs l (F ∷ rest) within run among climb =
      collected_picked Cs (keep_one Cs l F) rest within
      (one-run Cs l F within run (among F (Memᴰ.head refl)) (climb F (Memᴰ.head refl)))
      (λ G m. among G (Memᴰ.tail m))
      (λ G m new. climb G (Memᴰ.tail m) (λ c. new (c.0, one-keeps Cs l F c.0 c.1, c.2)))

  -- where all is covered, the tops are kept
  pub picked_tops : (l : List Position) → Picked Fs l → ((F : Position) → Memᴰ F Fs → Covered l F)
      → (sorted l ≡ tops Fs) × (length l ≡ length (tops Fs))
  picked_tops l run covers = (e, sym run.different ∙ ap length e)
    where
      e : sorted l ≡ tops Fs
      e = tops-only n Fs (sorted l) s run.kept (λ F m. let c = covers F m in (c.0, sorted-member l c.0 c.1, c.2))
