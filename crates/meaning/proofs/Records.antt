-- Laws of records: each is made of four bytes in their place, they come back from their bytes, each has one of four kinds, the records of a
-- kind are the members of that kind, an edge of a table is a record of its list, the number of letters is the least above every letter of a
-- kind, and a record that is not outside the table of limits has every byte within them.
use mathlib.Core.Path.{◌≡◌, refl, sym, ap, ◌∙◌}
use mathlib.Core.Bool.{true, false, ◌&&◌, ◌||◌}
use mathlib.Core.List.Memᴰ
use mathlib.Core.List.{List, [], ◌∷◌, flat_map, Memᴰ}
use Prim.Native.Nat.{ℕ, zero, suc, ◌+◌, ◌-◌, ◌*◌, ◌/◌, ◌≤◌, ◌<◌, zero-le}
use native.Mathlib.Nat.{not-suc-le-zero}
use native.Mathlib.Omega.{arith}
use lib.ListN.{length, get_or, get_or-eq_default}
use lib.Dec.{eqb, leb, ltb}
use borrow.Author.Tests.{eqb-true, eq-eqb, ltb-false, le-ltb, leb-true}
use Rattle.meaning.specs.Lists.{every}
use Rattle.meaning.specs.Records.{Record, records_of, bytes_of, blank, at, controller, world, output, input, limits, limit, outside}
use Rattle.meaning.specs.Records.{same, of_kind}
use Rattle.meaning.specs.Table.{letters, edge_of}
use Rattle.meaning.proofs.Tests.{both_left, both_right, neither_left, neither_right, largest-at, largest-of}
use Rattle.meaning.proofs.Lists.{member-at, at-member, any_at, any_of, keep-member, keep-holds, keep-of}

-- four bytes a record
pub records_count : (bytes : List ℕ) → length (records_of bytes) ≡ length bytes / 4
unfolding records_of
records_count [] = refl
records_count (a ∷ []) = refl
records_count (a ∷ b ∷ []) = refl
records_count (a ∷ b ∷ c ∷ []) = refl
records_count (a ∷ b ∷ c ∷ d ∷ rest) = let e = records_count rest in omega arith

-- the four kinds
pub data Kind : ℕ → Type 0 where
  of-controller : Kind controller
  of-world : Kind world
  of_output : Kind output
  of-input : Kind input

pub kind-of : (kind : ℕ) → 1 ≤ kind → kind ≤ 4 → Kind kind
kind-of zero low high = absurd (omega arith)
kind-of (suc zero) low high = of-controller
kind-of (suc (suc zero)) low high = of-world
kind-of (suc (suc (suc zero))) low high = of_output
kind-of (suc (suc (suc (suc zero)))) low high = of-input
kind-of (suc (suc (suc (suc (suc kind))))) low high = absurd (omega arith)

pub kind_bounds : (kind : ℕ) → Kind kind → (1 ≤ kind) × (kind ≤ 4)
kind_bounds _ of-controller = omega arith
kind_bounds _ of-world = omega arith
kind_bounds _ of_output = omega arith
kind_bounds _ of-input = omega arith

-- records of the same four bytes are equal
pub record_same : (r s : Record) → r.kind ≡ s.kind → r.from ≡ s.from → r.letter ≡ s.letter → r.to ≡ s.to → r ≡ s
record_same r s k f l t = λ i. record { kind = k i; from = f i; letter = l i; to = t i }

-- the record that starts at a byte
abbrev pub starting_at : List ℕ → ℕ → Record
starting_at bytes k =
    record { kind = get_or bytes k 0; from = get_or bytes (k + 1) 0; letter = get_or bytes (k + 2) 0; to = get_or bytes (k + 3) 0 }

pub records_at : (bytes : List ℕ) (i : ℕ) → i < length bytes / 4 → at (records_of bytes) i ≡ starting_at bytes (4 * i)
unfolding records_of
records_at [] i h = absurd (not-suc-le-zero h)
records_at (a ∷ []) i h = absurd (not-suc-le-zero h)
records_at (a ∷ b ∷ []) i h = absurd (not-suc-le-zero h)
records_at (a ∷ b ∷ c ∷ []) i h = absurd (not-suc-le-zero h)
records_at (a ∷ b ∷ c ∷ d ∷ rest) zero h = refl
records_at (a ∷ b ∷ c ∷ d ∷ rest) (suc i) h =
    let later : (k m : ℕ) → m ≡ suc (suc (suc (suc k))) → get_or rest k 0 ≡ get_or (a ∷ b ∷ c ∷ d ∷ rest) m 0 =
    λ k m e. ap (λ (n : ℕ). get_or (a ∷ b ∷ c ∷ d ∷ rest) n 0) (sym e) in
    records_at rest i (omega arith)
    ∙ record_same (starting_at rest (4 * i)) (starting_at (a ∷ b ∷ c ∷ d ∷ rest) (4 * suc i)) (later (4 * i) (4 * suc i) (omega arith))
    (later (4 * i + 1) (4 * suc i + 1) (omega arith)) (later (4 * i + 2) (4 * suc i + 2) (omega arith))
    (later (4 * i + 3) (4 * suc i + 3) (omega arith))

pub records_beyond : (bytes : List ℕ) (i : ℕ) → length bytes / 4 ≤ i → at (records_of bytes) i ≡ blank
records_beyond bytes i h = get_or-eq_default (records_of bytes) blank (omega (arith, records_count bytes))

pub same-equal : (r s : Record) → same r s ≡ true → r ≡ s
unfolding same
same-equal r s p =
    let kinds = eqb r.kind s.kind in
    let froms = eqb r.from s.from in
    let letters = eqb r.letter s.letter in
    let tos = eqb r.to s.to in
    let three = both_left (kinds && froms && letters) tos p in
    let two = both_left (kinds && froms) letters three in
    record_same r s
    (eqb-true r.kind s.kind (both_left kinds froms two)) (eqb-true r.from s.from (both_right kinds froms two))
    (eqb-true r.letter s.letter (both_right (kinds && froms) letters three))
    (eqb-true r.to s.to (both_right (kinds && froms && letters) tos p))

pub same_self : (r : Record) → same r r ≡ true
unfolding same
same_self r =
    rw (
      eq-eqb r.kind r.kind refl,
      eq-eqb r.from r.from refl,
      eq-eqb r.letter r.letter refl,
      eq-eqb r.to r.to refl,
    ) refl

-- records come back from their bytes, four for each
pub records_back : (rs : List Record) → records_of (bytes_of rs) ≡ rs
unfolding records_of bytes_of flat_map
records_back [] = refl
records_back (r ∷ rs) = ap {B = List Record} (λ l. r ∷ l) (records_back rs)

pub bytes-length : (rs : List Record) → length (bytes_of rs) ≡ 4 * length rs
unfolding bytes_of flat_map
bytes-length [] = refl
bytes-length (r ∷ rs) = omega (arith, bytes-length rs)

-- the records of one kind
pub of_kind-member : (kind : ℕ) (rs : List Record) (r : Record) → Memᴰ r (of_kind kind rs) → Memᴰ r rs
unfolding of_kind
of_kind-member kind rs r m = keep-member (λ (s : Record). eqb s.kind kind) rs r m

pub of_kind-kind : (kind : ℕ) (rs : List Record) (r : Record) → Memᴰ r (of_kind kind rs) → r.kind ≡ kind
unfolding of_kind
of_kind-kind kind rs r m = eqb-true r.kind kind (keep-holds (λ (s : Record). eqb s.kind kind) rs r m)

pub of_kind-of : (kind : ℕ) (rs : List Record) (r : Record) → Memᴰ r rs → r.kind ≡ kind → Memᴰ r (of_kind kind rs)
unfolding of_kind
of_kind-of kind rs r m e = keep-of (λ (s : Record). eqb s.kind kind) rs r m (eq-eqb r.kind kind e)

-- an edge is a record of the list
abbrev pub edge_record : ℕ → ℕ → ℕ → ℕ → Record
edge_record kind letter p q = record { kind = kind; from = p; letter = letter; to = q }

pub edge-member : (kind : ℕ) (rs : List Record) (letter p q : ℕ) → edge_of kind rs letter p q ≡ true
    → Memᴰ (edge_record kind letter p q) rs
unfolding edge_of
edge-member kind rs letter p q e =
    let r = edge_record kind letter p q in
    let found = any_at (same r) rs e in
    Memᴰ.cast (same-equal r found.0 found.2) found.1

pub member-edge : (kind : ℕ) (rs : List Record) (letter p q : ℕ) → Memᴰ (edge_record kind letter p q) rs
    → edge_of kind rs letter p q ≡ true
unfolding edge_of
member-edge kind rs letter p q m = let r = edge_record kind letter p q in any_of (same r) rs r m (same_self r)

-- the number of letters is above each letter of the kind, and the least such
pub letters_above : (kind : ℕ) (rs : List Record) (r : Record) → Memᴰ r (of_kind kind rs) → r.letter < letters kind rs
unfolding letters
letters_above kind rs r m =
    let es = of_kind kind rs in
    let place = at-member es r blank m in
    let e : (at es place.0).letter ≡ r.letter = ap {B = ℕ} (λ (s : Record). s.letter) place.2 in
    omega (arith, largest-at (length es) (λ i. suc (at es i).letter) place.0 place.1)

pub letters-least : (kind : ℕ) (rs : List Record) (b : ℕ) → ((r : Record) → Memᴰ r (of_kind kind rs) → r.letter < b)
    → letters kind rs ≤ b
unfolding letters
letters-least kind rs b p =
    let es = of_kind kind rs in
    largest-of (length es) (λ i. suc (at es i).letter) b (λ i h. p (at es i) (member-at es i blank h))

-- a record with every byte within the table of limits
pub record Inside (r : Record) : Type 0 where
  pub kind-low : 1 ≤ r.kind
  pub kind_high : r.kind ≤ 4
  pub from_high : r.from ≤ limit r.kind 1
  pub letter_high : r.letter ≤ limit r.kind 2
  pub to_high : r.to ≤ limit r.kind 3

pub inside-at : (r : Record) → outside r ≡ false → Inside r
unfolding outside limits
inside-at r p =
    let few = ltb r.kind 1 in
    let many = ltb 4 r.kind in
    let from = ltb (limit r.kind 1) r.from in
    let letter = ltb (limit r.kind 2) r.letter in
    let to = ltb (limit r.kind 3) r.to in
    let four = neither_left (few || many || from || letter) to p in
    let three = neither_left (few || many || from) letter four in
    let two = neither_left (few || many) from three in
    record {
      kind-low = ltb-false r.kind 1 (neither_left few many two);
      kind_high = ltb-false 4 r.kind (neither_right few many two);
      from_high = ltb-false (limit r.kind 1) r.from (neither_right (few || many) from three);
      letter_high = ltb-false (limit r.kind 2) r.letter (neither_right (few || many || from) letter four);
      to_high = ltb-false (limit r.kind 3) r.to (neither_right (few || many || from || letter) to p);
    }

pub inside_of : (r : Record) → Inside r → outside r ≡ false
unfolding outside limits
inside_of r s =
    rw (
      le-ltb r.kind 1 s.kind-low,
      le-ltb 4 r.kind s.kind_high,
      le-ltb (limit r.kind 1) r.from s.from_high,
      le-ltb (limit r.kind 2) r.letter s.letter_high,
      le-ltb (limit r.kind 3) r.to s.to_high,
    ) refl

-- no limit is over 7
pub limit-top : (kind byte : ℕ) → limit kind byte ≤ 7
unfolding limit limits
limit-top kind byte = row (kind - 1) (byte - 1)
  where
    small : (xs : List ℕ) (i : ℕ) → every (λ (x : ℕ). leb x 7) xs ≡ true → get_or xs i 0 ≤ 7
    small [] i p = zero-le
    small (x ∷ xs) zero p = leb-true x 7 (both_left (leb x 7) (every (λ (y : ℕ). leb y 7) xs) p)
    small (x ∷ xs) (suc i) p = small xs i (both_right (leb x 7) (every (λ (y : ℕ). leb y 7) xs) p)

    row : (k i : ℕ) → get_or (get_or limits k []) i 0 ≤ 7
    row zero i = small (7 ∷ 3 ∷ 0 ∷ []) i refl
    row (suc zero) i = small (7 ∷ 1 ∷ 0 ∷ []) i refl
    row (suc (suc zero)) i = small (7 ∷ 7 ∷ 7 ∷ []) i refl
    row (suc (suc (suc zero))) i = small (7 ∷ 7 ∷ 7 ∷ []) i refl
    row (suc (suc (suc (suc k)))) i = small [] i refl

-- so each byte after the kind is at most 7,
pub inside-bytes : (r : Record) → Inside r → (r.from ≤ 7) × (r.letter ≤ 7) × (r.to ≤ 7)
inside-bytes r s = (
  omega (arith, s.from_high, limit-top r.kind 1),
  omega (arith, s.letter_high, limit-top r.kind 2),
  omega (arith, s.to_high, limit-top r.kind 3),
)

-- and a table has at most 8 letters of a kind
pub letters-top : (kind : ℕ) (rs : List Record) → ((r : Record) → Memᴰ r rs → Inside r) → letters kind rs ≤ 8
letters-top kind rs within =
    letters-least kind rs 8 (λ r m. omega (arith, (inside-bytes r (within r (of_kind-member kind rs r m))).1))
