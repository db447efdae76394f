-- Thinning a list: what is left is of the list, covers it, and none of it is above another, by induction on the list; one position more is
-- a case split on whether one that is left covers it. So a thinned list has the same tops as the list, paired with another list or after
-- it. Assumes nothing.
use mathlib.Core.Path.{◌≡◌, refl, sym, ap, ◌∙◌}
use mathlib.Core.Logic.{◌⊎◌, inl, inr, ⊎_elim}
use mathlib.Core.Bool.{true, false, not}
use mathlib.Core.List.Memᴰ
use mathlib.Core.List.{List, [], ◌∷◌, ◌++◌}
use mathlib.Core.List.{Memᴰ}
use Prim.Native.Nat.{ℕ, suc, ◌≤◌}
use native.Mathlib.Nat.{le_refl}
use native.Mathlib.Omega.{arith}
use lib.ListN.{length, length-append}
use borrow.Author.Tests.{not-true}
use Rattle.meaning.specs.Lists.{keep}
use Rattle.meaning.specs.Counting.{Position, below, covered}
use Rattle.meaning.proofs.Tests.{clash, decided, cond_cases}
use Rattle.meaning.proofs.Lists.{any_at, any_of, keep-member, keep-holds, keep-of}
use Rattle.meaning.proofs.Steps.{below_refl, below_trans}
use Rattle.counts.specs.Halves.{lesser_counts}
use Rattle.counts.proofs.Lesser.{lesser_mono}
use Rattle.lists.specs.Members.{thin_one}
use Rattle.lists.proofs.Members.{Sized}
use Rattle.tops.specs.Tops.{tops, meets, thinned}
use Rattle.tops.proofs.Positions.{keep-length}
use Rattle.tops.proofs.Kept.{Covered, append-sized}
use Rattle.tops.proofs.Meets.{meets-member, member-meets, meets-within, meets-sized}
use Rattle.tops.proofs.SameTops.{Alone, tops-thin}

-- one position more
module _ (F : Position) (l : List Position) where
  abbrev left : List Position
  left = keep (λ (G : Position). not (below G F)) l

  one_cases : (P : List Position → Type 0) → (covered l F ≡ true → P l) → (covered l F ≡ false → P (left ++ F ∷ [])) → P (thin_one F l)
  unfolding thin_one
  one_cases P = cond_cases (covered l F) l (left ++ F ∷ []) P

  left_cases : (G : Position) → Memᴰ G (left ++ F ∷ []) → (Memᴰ G l × (below G F ≡ false)) ⊎ (G ≡ F)
  left_cases G m =
      ⊎_elim (λ k. inl (keep-member _ l G k, not-true (below G F) (keep-holds _ l G k))) (λ k. inr (Memᴰ.eq_of_singleton k))
      (Memᴰ.append_cases left m)

  one-among : (G : Position) → Memᴰ G (thin_one F l) → Memᴰ G (F ∷ l)
  one-among G =
      one_cases (λ k. Memᴰ G k → Memᴰ G (F ∷ l)) (λ _ m. Memᴰ.tail m)
      (λ _ m. ⊎_elim (λ k. Memᴰ.tail k.0) (λ e. Memᴰ.head e) (left_cases G m))

  one_covers : (G : Position) → Memᴰ G (F ∷ l) → Covered (thin_one F l) G
  one_covers G m =
      one_cases (λ k. Covered k G)
      (λ c. ⊎_elim (λ (e : G ≡ F). rw e (any_at (below F) l c)) (λ k. (G, k, below_refl G)) (Memᴰ.cases_cons m))
      (λ _. ⊎_elim (λ (b : below G F ≡ true). (F, Memᴰ.append_right left (Memᴰ.head refl), b))
      (λ b. ⊎_elim (λ (e : G ≡ F). absurd (clash (below G F) (rw e (below_refl F)) b))
      (λ k. (G, Memᴰ.append_left (F ∷ []) (keep-of _ l G k (ap not b)), below_refl G)) (Memᴰ.cases_cons m))
      (decided (below G F)))

  one-alone : Alone l → Alone (thin_one F l)
  one-alone alone = one_cases Alone (λ _. alone) (λ c G H m k b. go c G H b (left_cases G m) (left_cases H k))
    where
      go : covered l F ≡ false → (G H : Position) → below G H ≡ true → (Memᴰ G l × (below G F ≡ false)) ⊎ (G ≡ F)
          → (Memᴰ H l × (below H F ≡ false)) ⊎ (H ≡ F) → G ≡ H
      go c G H b (inl i) (inl j) = alone G H i.0 j.0 b
      go c G H b (inl i) (inr e) = absurd (clash (below G F) (rw e at b) i.1)
      go c G H b (inr e) (inl j) = absurd (clash (covered l F) (any_of (below F) l H j.0 (rw e at b)) c)
      go c G H b (inr e) (inr d) = e ∙ sym d

-- the positions of a list that no other is above
pub thinned-among : (Fs : List Position) (F : Position) → Memᴰ F (thinned Fs) → Memᴰ F Fs
unfolding thinned
thinned-among [] F m = m
thinned-among (G ∷ Gs) F m =
    ⊎_elim (λ (e : F ≡ G). Memᴰ.head e) (λ k. Memᴰ.tail (thinned-among Gs F k))
    (Memᴰ.cases_cons (one-among G (thinned Gs) F m))

pub thinned-covers : (Fs : List Position) (F : Position) → Memᴰ F Fs → Covered (thinned Fs) F
unfolding thinned
thinned-covers [] F m = absurd (Memᴰ.not-nil m)
thinned-covers (G ∷ Gs) F m =
    ⊎_elim (λ (e : F ≡ G). one_covers G (thinned Gs) F (Memᴰ.head e))
    (λ k. let c = thinned-covers Gs F k in
    let d = one_covers G (thinned Gs) c.0 (Memᴰ.tail c.1) in
    (d.0, d.1, below_trans F c.0 d.0 c.2 d.2))
    (Memᴰ.cases_cons m)

-- there are no more of them than in the list
pub thinned-length : (Fs : List Position) → length (thinned Fs) ≤ length Fs
unfolding thinned
thinned-length [] = le_refl 0
thinned-length (F ∷ Fs) =
    one_cases F (thinned Fs) (λ l. length l ≤ suc (length Fs)) (λ _. omega (arith, thinned-length Fs))
    (λ _. omega (
      arith,
      thinned-length Fs,
      keep-length (λ (G : Position). not (below G F)) (thinned Fs),
      length-append (keep (λ (G : Position). not (below G F)) (thinned Fs)) (F ∷ []),
    ))

pub thinned-alone : (Fs : List Position) → Alone (thinned Fs)
unfolding thinned
thinned-alone [] = λ F G m k b. absurd (Memᴰ.not-nil m)
thinned-alone (H ∷ Hs) = one-alone H (thinned Hs) (thinned-alone Hs)

-- paired with another list, and after it
pub meets-thinned : (n : ℕ) (Fs Gs : List Position) → Sized n Fs → tops (meets Fs (thinned Gs)) ≡ tops (meets Fs Gs)
meets-thinned n Fs Gs s =
    tops-thin n (meets Fs (thinned Gs)) (meets Fs Gs) (meets-sized n Fs Gs s)
    (meets-within Fs Fs (thinned Gs) Gs (λ F m. m) (thinned-among Gs)) thin
  where
    thin : (H : Position) → Memᴰ H (meets Fs Gs) → Covered (meets Fs (thinned Gs)) H
    thin H m =
        let p = member-meets Fs Gs H m in
        let c = thinned-covers Gs p.1 p.3 in (
          lesser_counts p.0 c.0,
          meets-member Fs (thinned Gs) p.0 c.0 p.2 c.1,
          ap (λ (x : Position). below x (lesser_counts p.0 c.0)) p.4 ∙ lesser_mono p.0 p.1 c.0 c.2,
        )

pub append-thinned : (n : ℕ) (Fs Gs : List Position) → Sized n Fs → Sized n Gs → tops (Fs ++ thinned Gs) ≡ tops (Fs ++ Gs)
append-thinned n Fs Gs s r =
    tops-thin n (Fs ++ thinned Gs) (Fs ++ Gs) (append-sized n Fs Gs s r)
    (λ F m. ⊎_elim (λ k. Memᴰ.append_left Gs k) (λ k. Memᴰ.append_right Fs (thinned-among Gs F k)) (Memᴰ.append_cases Fs m))
    (λ F m. ⊎_elim (λ k. (F, Memᴰ.append_left (thinned Gs) k, below_refl F))
    (λ k. let c = thinned-covers Gs F k in (c.0, Memᴰ.append_right Fs c.1, c.2)) (Memᴰ.append_cases Fs m))
