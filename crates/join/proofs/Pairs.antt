-- All pairs of two lists, in eight counts: how many there are, those of one position more, and that they are the pairs of the positions
-- that the lists stand for. By the laws of appending, and count by count. Assumes nothing.
use mathlib.Core.Path.{◌≡◌, refl, sym, ap, ap₂, ◌∙◌}
use mathlib.Core.Bool.{Bool, true, false, cond}
use mathlib.Core.List.Memᴰ
use mathlib.Core.List.{List, [], ◌∷◌, ◌++◌, map, flat_map, map-map, map-append}
use Prim.Native.Nat.{ℕ, suc, ◌+◌, ◌-◌, ◌*◌, ◌≤◌, ◌<◌}
use native.Mathlib.Nat.{suc-mul, mul-le-mul_right}
use native.Mathlib.Omega.{arith}
use lib.ListN.{length, take, length-map, length-append, get_or-append}
use lib.Seq.{get_or-append-add, length-take-le}
use lib.Dec.{ltb}
use borrow.Author.Tests.{ltb-true, ltb-false}
use Rattle.meaning.specs.Counting.{Position, count}
use Rattle.meaning.specs.Written.{position_bytes}
use Rattle.meaning.proofs.Lists.{tab-same, flat_map-length, flat_map-more}
use Rattle.meaning.proofs.PairLists.{beside}
use Rattle.counts.proofs.Wide.{wide_at}
use Rattle.lists.specs.Members.{positions}
use Rattle.lists.proofs.Members.{Sized, positions-length}
use Rattle.join.specs.Beside.{beside_at, all_beside}

module _ (n : ℕ) where
  -- how many there are
  pub all-number : (Fs Gs : List Position) → length (all_beside n Fs Gs) ≡ length Fs * length Gs
  unfolding all_beside
  all-number Fs Gs = flat_map-length (λ (F : Position). map (beside_at n F) Gs) (length Gs) Fs (λ F. length-map Gs (beside_at n F))

  -- those of one position more
  pub all_more : (Fs Gs : List Position) (F : Position) → all_beside n (Fs ++ F ∷ []) Gs ≡ all_beside n Fs Gs ++ map (beside_at n F) Gs
  unfolding all_beside
  all_more Fs Gs F = flat_map-more (λ (H : Position). map (beside_at n H) Gs) Fs F

-- rows of one length, one after the other
row_fits : (i rows size : ℕ) → i < rows → i * size + size ≤ rows * size
row_fits i rows size h = rw suc-mul at (mul-le-mul_right {m = suc i} {n = rows} size h)

-- the pairs of two lists of words, in rows: how many there are, and that those before one of them are fewer
module _ (n : ℕ) (a b : List ℕ) where
  pub pairs-number : length (all_beside n (positions a) (positions b)) ≡ length a * length b
  pairs-number = all-number n (positions a) (positions b) ∙ ap₂ ◌*◌ (positions-length a) (positions-length b)

  pub pairs-before : (i j : ℕ) (F : Position) (out : List ℕ) → i < length a → j < length b
      → positions out ≡ all_beside n (positions (take i a)) (positions b) ++ map (beside_at n F) (positions (take j b))
      → length out < length a * length b
  pairs-before i j F out h l e =
      let rows = all_beside n (positions (take i a)) (positions b) in
      let row = map (beside_at n F) (positions (take j b)) in
      omega (
        arith,
        sym (positions-length out) ∙ ap length e ∙ length-append rows row,
        all-number n (positions (take i a)) (positions b),
        ap₂ ◌*◌ (positions-length (take i a) ∙ length-take-le i a (omega arith)) (positions-length b),
        length-map (positions (take j b)) (beside_at n F) ∙ positions-length (take j b) ∙ length-take-le j b (omega arith),
        row_fits i (length a) (length b) h,
      )

-- a pair in eight counts is the pair of the positions
pub beside_wide : (n : ℕ) (F G : Position) → length F ≡ n → beside_at n (position_bytes F) (position_bytes G) ≡ position_bytes (F ++ G)
unfolding beside_at position_bytes
beside_wide n F G e = tab-same 8 _ _ (λ q l. go q l (ltb q n) refl)
  where
    go : (q : ℕ) → q < 8 → (b : Bool) → ltb q n ≡ b
        → cond b (count (position_bytes F) q) (count (position_bytes G) (q - n)) ≡ count (F ++ G) q
    go q l true t = wide_at F q l ∙ sym (get_or-append F G 0 q (omega (arith, ltb-true q n t)))
    go q l false t =
        let place : length F + (q - n) ≡ q = omega (arith, ltb-false q n t) in
        wide_at G (q - n) (omega arith) ∙ sym (get_or-append-add F G (q - n) 0) ∙ ap (count (F ++ G)) place

pub all_wide : (n : ℕ) (Fs Gs : List Position) → Sized n Fs
    → all_beside n (map position_bytes Fs) (map position_bytes Gs) ≡ map position_bytes (beside Fs Gs)
unfolding all_beside beside flat_map
all_wide n [] Gs sized = refl
all_wide n (F ∷ Fs) Gs sized =
    ap₂ ◌++◌ row (all_wide n Fs Gs (λ H m. sized H (Memᴰ.tail m)))
    ∙ sym (map-append position_bytes (map (λ (G : Position). F ++ G) Gs) (beside Fs Gs))
  where
    one : (G : Position) → beside_at n (position_bytes F) (position_bytes G) ≡ position_bytes (F ++ G)
    one G = beside_wide n F G (sized F (Memᴰ.head refl))

    row : map (beside_at n (position_bytes F)) (map position_bytes Gs) ≡ map position_bytes (map (λ (G : Position). F ++ G) Gs)
    row = simp (map-map, one)
