-- How far counts may still rise. Where each of a list's counts is at most the other's, and one is less and not over K + 2 there, the other
-- has less room; and so have all states together if one of them has. A flag taken down leaves fewer flags. By induction on the lists.
-- Assumes nothing.
use mathlib.Core.Path.{◌≡◌, refl, sym, ap, ◌∙◌}
use mathlib.Core.Logic.{⊎_elim}
use mathlib.Core.Bool.{Bool, true, false, ◌&&◌, and-true, true≢false}
use mathlib.Core.List.{List, [], ◌∷◌}
use Prim.Native.Nat.{ℕ, zero, suc, ◌+◌, ◌*◌, ◌≤◌, ◌<◌}
use native.Mathlib.Nat.{le_of_suc-le-suc, not-suc-le-zero}
use native.Mathlib.Omega.{arith}
use lib.Dec.{leb}
use lib.ListN.{length, get_or, set}
use borrow.Author.Tests.{leb-false}
use Rattle.meaning.specs.Lists.{each, keep}
use Rattle.meaning.specs.Counting.{Position, count, below}
use Rattle.meaning.proofs.Sizes.{keep-length}
use Rattle.counts.specs.Words.{counts_in}
use Rattle.checker.specs.Raised.{room, room_of_all, Rises}

room-least : (K : ℕ) (F G : Position) → length F ≡ length G → ((q : ℕ) → count F q ≤ count G q) → room K G ≤ room K F
unfolding room
room-least K [] [] e le = omega arith
room-least K [] (d ∷ G) e le = absurd (omega (arith, e))
room-least K (c ∷ F) [] e le = absurd (omega (arith, e))
room-least K (c ∷ F) (d ∷ G) e le = omega (arith, le zero, room-least K F G (omega (arith, e)) (λ q. le (suc q)))

pub room_less : (K : ℕ) (F G : Position) → length F ≡ length G → ((q : ℕ) → count F q ≤ count G q) → (q : ℕ) → count F q < count G q
    → count G q ≤ K + 2 → room K G < room K F
unfolding room
room_less K [] [] e le q less most = absurd (not-suc-le-zero less)
room_less K [] (d ∷ G) e le q less most = absurd (omega (arith, e))
room_less K (c ∷ F) [] e le q less most = absurd (omega (arith, e))
room_less K (c ∷ F) (d ∷ G) e le zero less most = omega (arith, room-least K F G (omega (arith, e)) (λ q. le (suc q)))
room_less K (c ∷ F) (d ∷ G) e le (suc q) less most =
    omega (arith, le zero, room_less K F G (omega (arith, e)) (λ q. le (suc q)) q less most)

-- one state's counts set anew
pub room-set : (K : ℕ) (most : List ℕ) (s m : ℕ) → s < length most → room K (counts_in m) < room K (counts_in (get_or most s 0))
    → room_of_all K (set most s m) < room_of_all K most
unfolding room_of_all
room-set K [] s m l less = absurd (not-suc-le-zero l)
room-set K (x ∷ most) zero m l less = omega (arith, less)
room-set K (x ∷ most) (suc s) m l less = omega (arith, room-set K most s m (le_of_suc-le-suc l) less)

-- where a test of each fails, it fails somewhere; so a position that is not below another is over it somewhere
pub each-refuted : (n : ℕ) (f : ℕ → Bool) → each n f ≡ false → (i : ℕ) × (f i ≡ false)
each-refuted zero f p = absurd (true≢false p)
each-refuted (suc n) f p = go (f n) refl (each-refuted n f)
  where
    go : (b : Bool) → f n ≡ b → (each n f ≡ false → (i : ℕ) × (f i ≡ false)) → (i : ℕ) × (f i ≡ false)
    go false e rest = (n, e)
    go true e rest = rest (sym (and-true (each n f)) ∙ sym (ap (λ (b : Bool). each n f && b) e) ∙ p)

pub not_below : (F G : Position) → below F G ≡ false → (q : ℕ) × (count G q < count F q)
unfolding below
not_below F G b = let q = each-refuted (length F) (λ q. leb (count F q) (count G q)) b in (q.0, leb-false _ _ q.1)

-- how many states are flagged
abbrev pub flags : List Bool → ℕ
flags risen = length (keep (λ b. b) risen)

-- a flag taken down
flags-down : (risen : List Bool) (s : ℕ) → s < length risen → get_or risen s false ≡ true → suc (flags (set risen s false)) ≡ flags risen
flags-down [] s l f = absurd (not-suc-le-zero l)
flags-down (b ∷ risen) zero l f = rw f
flags-down (true ∷ risen) (suc s) l f = ap suc (flags-down risen s (le_of_suc-le-suc l) f)
flags-down (false ∷ risen) (suc s) l f = flags-down risen s (le_of_suc-le-suc l) f

-- what falls each time that a state is led on: the room, or with the same room the number of flags, of which there are at most 256
abbrev pub ahead : ℕ → List ℕ → List Bool → ℕ
ahead K most risen = room_of_all K most * 257 + flags risen

pub led_less : (K : ℕ) (most most' : List ℕ) (risen risen' : List Bool) (s : ℕ) → s < length risen → get_or risen s false ≡ true
    → length risen' ≡ 256 → Rises K most (set risen s false) most' risen' → ahead K most' risen' < ahead K most risen
led_less K most most' risen risen' s l f long =
    ⊎_elim
    (λ (less : room_of_all K most' < room_of_all K most). omega (arith, keep-length (λ b. b) risen'))
    (λ same. rw (same.0, same.1) (omega (arith, flags-down risen s l f)))
