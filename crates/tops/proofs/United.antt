-- Two lists together: those of the first that the second does not cover, and what the second adds, are the tops of both. Those of the first
-- have only themselves above them, in either list. One of the second that they do not cover has nothing over it: what is above it is
-- itself, or is of the first and covered by one of the second, which then is itself too. Assumes nothing.
use mathlib.Core.Path.{◌≡◌, ap}
use mathlib.Core.Logic.{⊎_elim}
use mathlib.Core.Bool.{true, not}
use mathlib.Core.List.Memᴰ
use mathlib.Core.List.{List, [], ◌++◌, Memᴰ}
use Prim.Native.Nat.{ℕ}
use lib.ListN.{length}
use borrow.Author.Tests.{not-true}
use Rattle.meaning.specs.Lists.{keep}
use Rattle.meaning.specs.Counting.{Position, below, covered}
use Rattle.meaning.proofs.Tests.{clash, decided}
use Rattle.meaning.proofs.Lists.{any_at, any_of, keep-member, keep-holds, keep-of}
use Rattle.meaning.proofs.Ascending.{keep-ascends}
use Rattle.meaning.proofs.Steps.{below_refl, below_trans}
use Rattle.lists.specs.Sorted.{sorted}
use Rattle.lists.proofs.Members.{Sized}
use Rattle.tops.specs.Tops.{tops}
use Rattle.tops.specs.Candidates.{uncovered, united}
use Rattle.tops.proofs.Kept.{Kept, Covered, append-sized}
use Rattle.tops.proofs.Climb.{Climbing}
use Rattle.tops.proofs.SameTops.{Alone, own-kept, own_alone}
use Rattle.tops.proofs.Picked.{collected-covers, picked_own, collected_picked, picked_tops}

module _ (n : ℕ) (B E : List Position) (s : Sized n B) (r : Sized n E) (own : tops B ≡ B) (alone : Alone E) where
  abbrev first : List Position
  first = keep (uncovered E) B

  first-kept : Kept (B ++ E) first
  first-kept =
      record {
        ascends = keep-ascends (uncovered E) B (own-kept n B s own).ascends;
        among = λ F m. Memᴰ.append_left E (keep-member (uncovered E) B F m);
        maximal = λ F G m k b. ⊎_elim (λ i. own_alone n B s own F G (keep-member (uncovered E) B F m) i b)
            (λ i. absurd (clash (covered E F) (any_of (below F) E G i b) (not-true (covered E F) (keep-holds (uncovered E) B F m))))
            (Memᴰ.append_cases B k);
      }

  -- one of the first list is kept, or one of the second covers it
  first-covers : (F : Position) → Memᴰ F B → Covered (first ++ E) F
  first-covers F m =
      ⊎_elim (λ c. let d = any_at (below F) E c in (d.0, Memᴰ.append_right first d.1, d.2))
      (λ c. (F, Memᴰ.append_left E (keep-of (uncovered E) B F m (ap not c)), below_refl F)) (decided (covered E F))

  second_climbs : (F : Position) → Memᴰ F E → (Covered first F → ⊥) → Climbing (B ++ E) [] F
  second_climbs F m new G k a b = absurd (⊎_elim among_first (λ i. itself G i a (below_refl G)) (Memᴰ.append_cases B k))
    where
      -- what is above it in the second list is itself, so it is not below that
      itself : (H : Position) → Memᴰ H E → below F H ≡ true → below G H ≡ true → ⊥
      itself H i c d = clash (below G F) (rw (alone F H m i c) d) b

      among_first : Memᴰ G B → ⊥
      among_first i =
          let c = first-covers G i in
          ⊎_elim (λ j. new (c.0, j, below_trans F G c.0 a c.2)) (λ j. itself c.0 j (below_trans F G c.0 a c.2) c.2)
          (Memᴰ.append_cases first c.1)

  pub united-tops : (sorted (united B E) ≡ tops (B ++ E)) × (length (united B E) ≡ length (tops (B ++ E)))
  unfolding united
  united-tops =
      let sized = append-sized n B E s r in
      picked_tops n (B ++ E) sized (united B E)
      (collected_picked n (B ++ E) sized [] first E (λ G m. absurd (Memᴰ.not-nil m)) (picked_own (B ++ E) first first-kept)
      (λ F m. Memᴰ.append_right B m) second_climbs)
      (λ F m. collected-covers [] first E F
      (⊎_elim (λ k. first-covers F k) (λ k. (F, Memᴰ.append_right first k, below_refl F)) (Memᴰ.append_cases B m)))
