-- The lesser counts of the pairs of two lists: their members, their sizes, and the pairs of one list after another. All by the definition
-- of flat_map, and by induction on the first list. Assumes nothing.
use mathlib.Core.Path.{◌≡◌, refl, sym, ap, ◌∙◌}
use mathlib.Core.List.Memᴰ
use mathlib.Core.List.{List, [], ◌∷◌, ◌++◌, map, flat_map, append-nil, append_assoc, Memᴰ}
use Prim.Native.Nat.{ℕ}
use Rattle.meaning.specs.Counting.{Position}
use Rattle.meaning.proofs.Lists.{flat_map-member, member-flat_map}
use Rattle.counts.specs.Halves.{lesser_counts}
use Rattle.counts.proofs.Lesser.{lesser_length}
use Rattle.lists.specs.Members.{positions}
use Rattle.lists.proofs.Members.{Sized}
use Rattle.tops.specs.Tops.{meets}

-- the members of the pairs' lesser counts
pub meets-member : (Fs Gs : List Position) (F G : Position) → Memᴰ F Fs → Memᴰ G Gs → Memᴰ (lesser_counts F G) (meets Fs Gs)
unfolding meets
meets-member Fs Gs F G m k =
    flat_map-member (λ (H : Position). map (lesser_counts H) Gs) Fs F (lesser_counts F G) m (Memᴰ.map (lesser_counts F) k)

pub member-meets : (Fs Gs : List Position) (H : Position) → Memᴰ H (meets Fs Gs)
    → (F : Position) × (G : Position) × Memᴰ F Fs × Memᴰ G Gs × (H ≡ lesser_counts F G)
unfolding meets
member-meets Fs Gs H m =
    let r = member-flat_map (λ (F : Position). map (lesser_counts F) Gs) Fs H m in
    let s = Memᴰ.of_map (lesser_counts r.0) Gs r.2 in
    (r.0, s.0, r.1, s.1, sym s.2)

pub meets-within : (Es Fs Gs Hs : List Position) → ((F : Position) → Memᴰ F Es → Memᴰ F Fs)
    → ((F : Position) → Memᴰ F Gs → Memᴰ F Hs)
    → (F : Position) → Memᴰ F (meets Es Gs) → Memᴰ F (meets Fs Hs)
meets-within Es Fs Gs Hs left right F m =
    let p = member-meets Es Gs F m in Memᴰ.cast p.4 (meets-member Fs Hs p.0 p.1 (left p.0 p.2) (right p.1 p.3))

pub meets-sized : (n : ℕ) (Fs Gs : List Position) → Sized n Fs → Sized n (meets Fs Gs)
meets-sized n Fs Gs s H m = let r = member-meets Fs Gs H m in rw (r.4, lesser_length r.0 r.1) (s r.0 r.2)

-- of no words there are none
pub meets_none : meets (positions []) (positions []) ≡ []
unfolding positions meets flat_map
meets_none = refl

-- the pairs of two lists of members, of those around one, and of one more
meets-append : (Es Fs Gs : List Position) → meets (Es ++ Fs) Gs ≡ meets Es Gs ++ meets Fs Gs
unfolding meets flat_map
meets-append [] Fs Gs = refl
meets-append (E ∷ Es) Fs Gs =
    ap (λ (l : List Position). map (lesser_counts E) Gs ++ l) (meets-append Es Fs Gs)
    ∙ sym (append_assoc (map (lesser_counts E) Gs) (meets Es Gs) (meets Fs Gs))

pub meets_around : (Es : List Position) (F : Position) (rest Gs : List Position)
    → meets (Es ++ F ∷ rest) Gs ≡ meets Es Gs ++ (map (lesser_counts F) Gs ++ meets rest Gs)
unfolding meets flat_map
meets_around Es F rest Gs = meets-append Es (F ∷ rest) Gs

pub meets-more : (Es : List Position) (F : Position) (Gs : List Position) → meets (Es ++ F ∷ []) Gs
    ≡ meets Es Gs ++ map (lesser_counts F) Gs
unfolding meets flat_map
meets-more Es F Gs = meets_around Es F [] Gs ∙ ap (λ (l : List Position). meets Es Gs ++ l) (append-nil (map (lesser_counts F) Gs))
