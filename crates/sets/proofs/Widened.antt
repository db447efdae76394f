-- Widening positions of at most eight counts to eight keeps below and the order as byte strings, so it keeps the tops, and lesser counts.
-- Assumes nothing.
use mathlib.Core.Path.{◌≡◌, refl, sym, ap, ap₂, ◌∙◌}
use mathlib.Core.Bool.{true}
use mathlib.Core.List.Memᴰ
use mathlib.Core.List.{List, [], ◌∷◌, ◌++◌, map, flat_map, map-map, map-append}
use mathlib.Core.List.{Memᴰ}
use Prim.Native.Nat.{ℕ, ◌≤◌}
use lib.ListN.{length}
use Rattle.meaning.specs.Lists.{before, Ascending, none, more}
use Rattle.meaning.specs.Counting.{Position, below}
use Rattle.meaning.specs.Written.{position_bytes}
use Rattle.counts.specs.Halves.{lesser_counts}
use Rattle.counts.proofs.Wide.{wide_length, below_wide, before_wide}
use Rattle.counts.proofs.Lesser.{wide_lesser}
use Rattle.lists.proofs.Members.{Sized}
use Rattle.tops.specs.Tops.{tops, meets}
use Rattle.tops.proofs.Kept.{Covered, member-tops, tops-kept, tops-only, tops-sized}
use Rattle.tops.proofs.Climb.{tops_cover}

-- in eight counts: the tops of positions with at most eight counts, widened, are the tops of the widened
wide_ascends : (n : ℕ) (l : List Position) → n ≤ 8 → Sized n l → Ascending l → Ascending (map position_bytes l)
wide_ascends n [] h s none = none
wide_ascends n (F ∷ l) h s (more p a) = more first (wide_ascends n l h (λ G m. s G (Memᴰ.tail m)) a)
  where
    first : (y : Position) → Memᴰ y (map position_bytes l) → before (position_bytes F) y ≡ true
    first y m =
        let r = Memᴰ.of_map position_bytes l m in
        let e : length F ≡ n = s F (Memᴰ.head refl) in
        rw (← r.2) (before_wide F r.0 (e ∙ sym (s r.0 (Memᴰ.tail r.1))) (rw e h) ∙ p r.0 r.1)

pub tops_wide : (n : ℕ) (Fs : List Position) → n ≤ 8 → Sized n Fs → map position_bytes (tops Fs) ≡ tops (map position_bytes Fs)
tops_wide n Fs h s =
    tops-only 8 (map position_bytes Fs) (map position_bytes (tops Fs))
    (λ F m. let r = Memᴰ.of_map position_bytes Fs m in rw (← r.2) (wide_length r.0))
    (record {
      ascends = wide_ascends n (tops Fs) h (tops-sized n Fs s) (tops-kept n Fs s).ascends;
      among = λ F m. let r = Memᴰ.of_map position_bytes (tops Fs) m in
          Memᴰ.cast (sym r.2) (Memᴰ.map position_bytes (member-tops Fs r.0 r.1));
      maximal = alone;
    })
    covered
  where
    alone : (F G : Position) → Memᴰ F (map position_bytes (tops Fs)) → Memᴰ G (map position_bytes Fs) → below F G ≡ true → F ≡ G
    alone F G m k b =
        let f = Memᴰ.of_map position_bytes (tops Fs) m in
        let g = Memᴰ.of_map position_bytes Fs k in
        let c : below f.0 g.0 ≡ true =
        sym (below_wide f.0 g.0 (rw (tops-sized n Fs s f.0 f.1) h) (rw (s g.0 g.1) h)) ∙ ap₂ below f.2 g.2 ∙ b in
        sym f.2 ∙ ap position_bytes ((tops-kept n Fs s).maximal f.0 g.0 f.1 g.1 c) ∙ g.2

    covered : (F : Position) → Memᴰ F (map position_bytes Fs) → Covered (map position_bytes (tops Fs)) F
    covered F m =
        let f = Memᴰ.of_map position_bytes Fs m in
        let c = tops_cover Fs f.0 f.1 in (
          position_bytes c.0,
          Memᴰ.map position_bytes c.1,
          ap (λ (x : Position). below x (position_bytes c.0)) (sym f.2) ∙ below_wide f.0 c.0 (rw (s f.0 f.1) h)
              (rw (tops-sized n Fs s c.0 c.1) h) ∙ c.2,
        )

pub meets_wide : (n : ℕ) (Fs Gs : List Position) → n ≤ 8 → Sized n Fs → Sized n Gs
    → map position_bytes (meets Fs Gs) ≡ meets (map position_bytes Fs) (map position_bytes Gs)
unfolding meets flat_map
meets_wide n [] Gs h s r = refl
meets_wide n (F ∷ Fs) Gs h s r =
    map-append position_bytes (map (lesser_counts F) Gs) (meets Fs Gs)
    ∙ ap₂ ◌++◌ row (meets_wide n Fs Gs h (λ G m. s G (Memᴰ.tail m)) r)
  where
    row : map position_bytes (map (lesser_counts F) Gs) ≡ map (lesser_counts (position_bytes F)) (map position_bytes Gs)
    row = simp (map-map, wide_lesser)
