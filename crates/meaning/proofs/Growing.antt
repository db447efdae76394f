-- The order of records, as numbers: within the limits each byte after the kind is below 8, so that records compare as byte strings
-- exactly as their values compare, the kind counting 512, byte 1 64, byte 2 8 and byte 3 1. A table's records grow: their values strictly
-- grow between two bounds. So there are no more of them than numbers between the bounds, and lists that grow one after the other grow as
-- a whole.
use mathlib.Core.Path.{◌≡◌, refl}
use mathlib.Core.Logic.{⊎_elim}
use mathlib.Core.Bool.{Bool, true}
use mathlib.Core.List.{List, [], ◌∷◌, ◌++◌, map, Memᴰ}
use Prim.Native.Nat.{ℕ, zero, suc, ◌+◌, ◌*◌, ◌≤◌, ◌<◌, suc-le-suc}
use native.Mathlib.Omega.{arith}
use lib.ListN.{length}
use lib.Dec.{eqb}
use borrow.Author.Tests.{ltb-true, lt-ltb}
use Rattle.meaning.specs.Lists.{keep}
use Rattle.meaning.specs.Records.{Record, blank, at, ascends, of_kind}
use Rattle.meaning.proofs.Tests.{ordered_cases, ordered_of}
use Rattle.meaning.proofs.Lists.{member-at, keep_one_lem}
use Rattle.meaning.proofs.Records.{Inside, inside-bytes}
use Rattle.meaning.proofs.Sound.{Sound}

unfoldable pub value : Record → ℕ
value r = 512 * r.kind + 64 * r.from + 8 * r.letter + r.to

pub value_range : (r : Record) → Inside r → (512 * r.kind + 64 * r.from ≤ value r) × (value r < 512 * r.kind + 64 * r.from + 64)
unfolding value
value_range r s = let low = inside-bytes r s in omega arith

pub ascends-below : (r s : Record) → Inside r → Inside s → ascends r s ≡ true → value r < value s
unfolding ascends value
ascends-below r s in-r in-s p =
    let low-r = inside-bytes r in-r in
    let low-s = inside-bytes s in-s in
    ⊎_elim (λ k. omega arith) (λ k.
    ⊎_elim (λ f. omega arith) (λ f.
    ⊎_elim (λ l. omega arith) (λ l. omega (arith, ltb-true r.to s.to l.1))
    (ordered_cases r.letter s.letter _ f.1))
    (ordered_cases r.from s.from _ k.1))
    (ordered_cases r.kind s.kind _ p)

pub below-ascends : (r s : Record) → Inside r → Inside s → value r < value s → ascends r s ≡ true
unfolding ascends value
below-ascends r s in-r in-s h =
    let low-r = inside-bytes r in-r in
    let low-s = inside-bytes s in-s in
    ordered_of r.kind s.kind _ (omega arith) (λ k.
    ordered_of r.from s.from _ (omega arith) (λ f.
    ordered_of r.letter s.letter _ (omega arith) (λ l. lt-ltb r.to s.to (omega arith))))

-- the values strictly grow, from low and up to below high
abbrev pub Growing : ℕ → List Record → ℕ → Type 0
Growing low [] high = low ≤ high
Growing low (r ∷ rs) high = (low ≤ value r) × Growing (suc (value r)) rs high

pub growing_lower : (low low' high : ℕ) (rs : List Record) → low ≤ low' → Growing low' rs high → Growing low rs high
growing_lower low low' high [] h c = omega arith
growing_lower low low' high (r ∷ rs) h c = (omega arith, c.1)

pub growing_append : (low mid high : ℕ) (rs ss : List Record) → Growing low rs mid → Growing mid ss high → Growing low (rs ++ ss) high
growing_append low mid high [] ss c d = growing_lower low mid high ss c d
growing_append low mid high (r ∷ rs) ss c d = (c.0, growing_append (suc (value r)) mid high rs ss c.1 d)

pub growing_length : (low high : ℕ) (rs : List Record) → Growing low rs high → length rs + low ≤ high
growing_length low high [] c = omega arith
growing_length low high (r ∷ rs) c = omega (arith, growing_length (suc (value r)) high rs c.1)

growing_keep : (f : Record → Bool) (low high : ℕ) (rs : List Record) → Growing low rs high → Growing low (keep f rs) high
growing_keep f low high [] c = c
growing_keep f low high (r ∷ rs) c =
    let rest = growing_keep f (suc (value r)) high rs c.1 in
    keep_one_lem (f r) r (keep f rs) (λ l. Growing low l high) (λ _. (c.0, rest))
    (λ _. growing_lower low (suc (value r)) high (keep f rs) (omega arith) rest)

pub growing_of_kind : (kind low high : ℕ) (rs : List Record) → Growing low rs high → Growing low (of_kind kind rs) high
unfolding of_kind
growing_of_kind kind low high rs c = growing_keep (λ (r : Record). eqb r.kind kind) low high rs c

-- moved up by one amount
pub growing_map : (f : Record → Record) (up low high : ℕ) (rs : List Record) → ((r : Record) → Memᴰ r rs → value (f r) ≡ up + value r)
    → Growing low rs high → Growing (up + low) (map f rs) (up + high)
growing_map f up low high [] e c = omega arith
growing_map f up low high (r ∷ rs) e c =
    let moved : value (f r) ≡ up + value r = e r (Memᴰ.head refl) in (
      omega arith,
      growing_lower (suc (value (f r))) (up + suc (value r)) (up + high) (map f rs) (omega arith)
          (growing_map f up (suc (value r)) high rs (λ s m. e s (Memᴰ.tail m)) c.1),
    )

-- between the bounds of the members
growing_upper : (low high high' : ℕ) (rs : List Record) → Growing low rs high → low ≤ high'
    → ((r : Record) → Memᴰ r rs → value r < high') → Growing low rs high'
growing_upper low high high' [] c h p = h
growing_upper low high high' (r ∷ rs) c h p =
    (c.0, growing_upper (suc (value r)) high high' rs c.1 (p r (Memᴰ.head refl)) (λ s m. p s (Memᴰ.tail m)))

pub growing_within : (low high low' high' : ℕ) (rs : List Record) → Growing low rs high → low' ≤ high'
    → ((r : Record) → Memᴰ r rs → (low' ≤ value r) × (value r < high')) → Growing low' rs high'
growing_within low high low' high' [] c h p = h
growing_within low high low' high' (r ∷ rs) c h p = (
  (p r (Memᴰ.head refl)).0,
  growing_upper (suc (value r)) high high' rs c.1 (p r (Memᴰ.head refl)).1
      (λ s m. (p s (Memᴰ.tail m)).1),
)

-- neighbours
pub growing_at : (low high : ℕ) (rs : List Record) → Growing low rs high → (i : ℕ) → suc i < length rs
    → value (at rs i) < value (at rs (suc i))
growing_at low high [] c i h = absurd (omega arith)
growing_at low high (r ∷ []) c i h = absurd (omega arith)
growing_at low high (r ∷ s ∷ rs) c zero h = c.1.0
growing_at low high (r ∷ s ∷ rs) c (suc i) h = growing_at (suc (value r)) high (s ∷ rs) c.1 i (omega arith)

pub growing_of : (low high : ℕ) (rs : List Record) → low ≤ high → (0 < length rs → low ≤ value (at rs 0))
    → ((r : Record) → Memᴰ r rs → value r < high) → ((i : ℕ) → suc i < length rs → value (at rs i) < value (at rs (suc i)))
    → Growing low rs high
growing_of low high [] h first bound step = h
growing_of low high (r ∷ rs) h first bound step = (
  first (omega arith),
  growing_of (suc (value r)) high rs (bound r (Memᴰ.head refl)) (λ l. step zero (suc-le-suc l))
      (λ s m. bound s (Memᴰ.tail m)) (λ i l. step (suc i) (suc-le-suc l)),
)

-- a table's records grow
pub sound_growing : (rs : List Record) → Sound rs → Growing 0 rs 2560
sound_growing rs s =
    growing_of 0 2560 rs (omega arith) (λ _. omega arith)
    (λ r m. let w = s.within r m in omega (arith, value_range r w, inside-bytes r w))
    (λ i h. ascends-below (at rs i) (at rs (suc i)) (s.within (at rs i) (member-at rs i blank (omega arith)))
    (s.within (at rs (suc i)) (member-at rs (suc i) blank h)) (s.ascending i h))
