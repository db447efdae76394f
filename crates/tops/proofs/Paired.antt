-- The pairs of two lists: those of either that the other covers are pairs themselves, and maximal, since every pair is below a position of
-- each list and each list is alone. Any other pair below none of them is of two that are not covered. Of those, row by row: what is over a
-- candidate of a row is covered by none kept, or the candidate would be, and is not of the row, since the row's thinned ones cover it and
-- are alone; so it stands in the rows to come, along which the candidate climbs. When no row is left all is covered. Assumes nothing.
use mathlib.Core.Path.{◌≡◌, sym, ap, ◌∙◌}
use mathlib.Core.Logic.{◌⊎◌, inl, inr, ⊎_elim}
use mathlib.Core.Bool.{true, not}
use mathlib.Core.List.Memᴰ
use mathlib.Core.List.{List, [], ◌∷◌, ◌++◌, map, flat_map, reverse}
use mathlib.Core.List.{Memᴰ}
use Prim.Native.Nat.{ℕ}
use lib.ListN.{length}
use Rattle.meaning.specs.Lists.{keep}
use Rattle.meaning.specs.Counting.{Position, below, covered}
use Rattle.meaning.proofs.Tests.{clash, decided}
use Rattle.meaning.proofs.Lists.{any_at, keep-member, keep-holds, keep-of}
use Rattle.meaning.proofs.Ascending.{keep-ascends}
use Rattle.meaning.proofs.Steps.{below_refl, below_trans, below_antisym}
use Rattle.counts.specs.Halves.{lesser_counts}
use Rattle.counts.proofs.Lesser.{lesser_length, lesser_left, lesser_right, lesser_of}
use Rattle.lists.specs.Sorted.{sorted}
use Rattle.lists.proofs.Sorted.{reverse-member, member-reverse}
use Rattle.lists.proofs.Members.{Sized}
use Rattle.tops.specs.Tops.{tops, meets, thinned}
use Rattle.tops.specs.Candidates.{uncovered, collected, rows_of, paired}
use Rattle.tops.proofs.Kept.{Kept, Covered}
use Rattle.tops.proofs.Climb.{Climbing}
use Rattle.tops.proofs.Meets.{meets-member, member-meets, meets-within, meets-sized}
use Rattle.tops.proofs.SameTops.{Alone, own-kept, own_alone}
use Rattle.tops.proofs.Thinned.{thinned-among, thinned-covers, thinned-alone}
use Rattle.tops.proofs.Picked.{Picked, climbing_none, collected-covers, picked_own, collected_picked, picked_tops}

-- a position of a list that is alone and covers all pairs has only itself above it
alone-maximal : (n : ℕ) (Fs Zs : List Position) → Sized n Fs → Sized n Zs → Alone Zs → ((G : Position) → Memᴰ G Fs → Covered Zs G)
    → (F G : Position) → Memᴰ F Zs → Memᴰ G Fs → below F G ≡ true → F ≡ G
alone-maximal n Fs Zs s r alone covers F G m k b =
    let c = covers G k in
    let e : F ≡ c.0 = alone F c.0 m c.1 (below_trans F G c.0 b c.2) in
    below_antisym F G (r F m ∙ sym (s G k)) b (rw e c.2)

-- what is left to do: what no kept one covers
abbrev Left : List Position → List Position → List Position → Type 0
Left Fs l rest = (G : Position) → Memᴰ G Fs → Covered l G ⊎ Memᴰ G rest

-- the pairs of one position, and those of them that are tried
abbrev row : Position → List Position → List Position
row x ys = map (lesser_counts x) ys

abbrev candidates : Position → List Position → List Position
candidates x ys = thinned (reverse (row x ys))

-- row by row
module _ (Fs : List Position) (x : Position) (xs ys l : List Position) (left : Left Fs l (row x ys ++ meets xs ys)) where
  row-covered : (G : Position) → Memᴰ G (row x ys) → Covered (candidates x ys) G
  row-covered G m = thinned-covers (reverse (row x ys)) G (reverse-member (row x ys) G m)

  row_climbs : (F : Position) → Memᴰ F (candidates x ys) → (Covered l F → ⊥) → Climbing Fs (meets xs ys) F
  row_climbs F m new G k a b =
      ⊎_elim (λ c. absurd (new (c.0, c.1, below_trans F G c.0 a c.2)))
      (λ i. ⊎_elim (λ j. absurd (itself (row-covered G j))) (λ j. j) (Memᴰ.append_cases (row x ys) i)) (left G k)
    where
      itself : Covered (candidates x ys) G → ⊥
      itself c = clash (below G F) (rw (thinned-alone (reverse (row x ys)) F c.0 m c.1 (below_trans F G c.0 a c.2)) c.2) b

  row-left : Left Fs (collected (meets xs ys) l (candidates x ys)) (meets xs ys)
  row-left G k =
      ⊎_elim (λ c. inl (still (c.0, Memᴰ.append_left (candidates x ys) c.1, c.2)))
      (λ i. ⊎_elim (λ j. let c = row-covered G j in inl (still (c.0, Memᴰ.append_right l c.1, c.2))) (λ j. inr j)
      (Memᴰ.append_cases (row x ys) i))
      (left G k)
    where
      still : Covered (l ++ candidates x ys) G → Covered (collected (meets xs ys) l (candidates x ys)) G
      still = collected-covers (meets xs ys) l (candidates x ys) G

rows_run : (n : ℕ) (Fs : List Position) → Sized n Fs → (xs ys l : List Position)
    → ((G : Position) → Memᴰ G (meets xs ys) → Memᴰ G Fs) → Picked Fs l
    → Left Fs l (meets xs ys) → Picked Fs (rows_of xs ys l) × ((G : Position) → Memᴰ G Fs → Covered (rows_of xs ys l) G)
unfolding rows_of meets flat_map
rows_run n Fs s [] ys l within run left = (run, λ G m. ⊎_elim (λ (c : Covered l G). c) (λ k. absurd (Memᴰ.not-nil k)) (left G m))
rows_run n Fs s (x ∷ xs) ys l within run left =
    rows_run n Fs s xs ys (collected (meets xs ys) l (candidates x ys)) later
    (collected_picked n Fs s (meets xs ys) l (candidates x ys) later run
    (λ F m. within F (Memᴰ.append_left (meets xs ys) (member-reverse (row x ys) F (thinned-among (reverse (row x ys)) F m))))
    (row_climbs Fs x xs ys l left))
    (row-left Fs x xs ys l left)
  where
    later : (G : Position) → Memᴰ G (meets xs ys) → Memᴰ G Fs
    later G m = within G (Memᴰ.append_right (row x ys) m)

-- before the rows those of either list that the other covers
module _ (n : ℕ) (X Y : List Position) (s : Sized n X) (r : Sized n Y) (own : tops X ≡ X) (alone : Alone Y) where
  sized : Sized n (meets X Y)
  sized = meets-sized n X Y s

  abbrev whole : List Position
  whole = keep (covered Y) X

  abbrev fits : List Position
  fits = keep (covered X) Y

  -- and what is left then
  abbrev xs : List Position
  xs = keep (uncovered Y) X

  abbrev ys : List Position
  ys = keep (uncovered X) Y

  -- one below both of a pair, and above their lesser counts, is a pair
  pair : (F x y : Position) → Memᴰ x X → Memᴰ y Y → length F ≡ n → below F x ≡ true → below F y ≡ true
      → below (lesser_counts x y) F ≡ true
      → Memᴰ F (meets X Y)
  pair F x y m k e b c d =
      Memᴰ.cast (below_antisym F (lesser_counts x y) (e ∙ sym (lesser_length x y ∙ s x m)) (lesser_of x y F b c) d)
      (meets-member X Y x y m k)

  whole-kept : Kept (meets X Y) whole
  whole-kept =
      record {
        ascends = keep-ascends (covered Y) X (own-kept n X s own).ascends;
        among = λ F m.
            let c = any_at (below F) Y (keep-holds (covered Y) X F m) in
            let k = keep-member (covered Y) X F m in
            pair F F c.0 k c.1 (s F k) (below_refl F) c.2 (lesser_left F c.0);
        maximal = λ F G m. alone-maximal n (meets X Y) X sized s (own_alone n X s own) first F G (keep-member (covered Y) X F m);
      }
    where
      first : (G : Position) → Memᴰ G (meets X Y) → Covered X G
      first G m = let p = member-meets X Y G m in (p.0, p.2, ap (λ (F : Position). below F p.0) p.4 ∙ lesser_left p.0 p.1)

  fits-run : Picked (meets X Y) (collected [] whole fits)
  fits-run =
      collected_picked n (meets X Y) sized [] whole fits (λ G m. absurd (Memᴰ.not-nil m)) (picked_own (meets X Y) whole whole-kept)
      (λ F m. let c = any_at (below F) X (keep-holds (covered X) Y F m) in
      let k = keep-member (covered X) Y F m in
      pair F c.0 F c.1 k (r F k) c.2 (below_refl F) (lesser_right c.0 F))
      (λ F m _. climbing_none (meets X Y) [] F
      (λ G. alone-maximal n (meets X Y) Y sized r alone second F G (keep-member (covered X) Y F m)))
    where
      second : (G : Position) → Memᴰ G (meets X Y) → Covered Y G
      second G m = let p = member-meets X Y G m in (p.1, p.3, ap (λ (F : Position). below F p.1) p.4 ∙ lesser_right p.0 p.1)

  fits-left : Left (meets X Y) (collected [] whole fits) (meets xs ys)
  fits-left G m = go (member-meets X Y G m)
    where
      still : Covered (whole ++ fits) G → Covered (collected [] whole fits) G
      still = collected-covers [] whole fits G

      go : (x : Position) × (y : Position) × Memᴰ x X × Memᴰ y Y × (G ≡ lesser_counts x y)
          → Covered (collected [] whole fits) G ⊎ Memᴰ G (meets xs ys)
      go (x, y, k, j, e) =
          ⊎_elim (λ c. inl (still (x, Memᴰ.append_left fits (keep-of (covered Y) X x k c), rw e (lesser_left x y))))
          (λ c. ⊎_elim (λ d. inl (still (y, Memᴰ.append_right whole (keep-of (covered X) Y y j d), rw e (lesser_right x y))))
          (λ d. inr (Memᴰ.cast e (meets-member xs ys x y (keep-of (uncovered Y) X x k (ap not c))
          (keep-of (uncovered X) Y y j (ap not d)))))
          (decided (covered X y)))
          (decided (covered Y x))

  pub paired-tops : (sorted (paired X Y) ≡ tops (meets X Y)) × (length (paired X Y) ≡ length (tops (meets X Y)))
  unfolding paired
  paired-tops =
      let t = rows_run n (meets X Y) sized xs ys (collected [] whole fits)
      (meets-within xs X ys Y (keep-member (uncovered Y) X) (keep-member (uncovered X) Y)) fits-run fits-left in
      picked_tops n (meets X Y) sized (paired X Y) t.0 t.1
