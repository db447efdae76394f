-- Two good tables with the same records have the same bytes: records that ascend are ascending as byte strings, two ascending lists with
-- the same members are equal, and a table's bytes are those of its records. So what is said of a table's records alone fixes its bytes.
use mathlib.Core.Path.{◌≡◌, refl, sym, ap, ◌∙◌}
use mathlib.Core.Logic.{◌↔◌, ⊎_elim}
use mathlib.Core.Bool.{true, not, ◌||◌}
use mathlib.Core.List.{List, [], ◌∷◌, map, flat_map, Memᴰ}
use Prim.Native.Nat.{ℕ, suc, ◌%◌, ◌<◌, suc-le-suc}
use native.Mathlib.Omega.{arith}
use lib.ListN.{length, get_or}
use lib.Dec.{eqb, ltb}
use borrow.Author.Tests.{eqb-true, ltb-true, not-false}
use Rattle.meaning.specs.Lists.{Ascending, none, more, before}
use Rattle.meaning.specs.Records.{Record, records_of, bytes_of, at, ascends}
use Rattle.meaning.specs.Checks.{Passes, wrong_size, table_checks}
use Rattle.meaning.proofs.Tests.{ordered_cases, neither_left, neither_right}
use Rattle.meaning.proofs.Ascending.{before-first, before-rest, before_trans, ascending-equal}
use Rattle.meaning.proofs.Sound.{passes-length, passes_sound}

-- a record's four bytes, and the record that they state
abbrev four_of : Record → List ℕ
four_of r = r.kind ∷ r.from ∷ r.letter ∷ r.to ∷ []

abbrev record_of : List ℕ → Record
record_of l = record { kind = get_or l 0 0; from = get_or l 1 0; letter = get_or l 2 0; to = get_or l 3 0 }

fours_back : (rs : List Record) → map record_of (map four_of rs) ≡ rs
fours_back [] = refl
fours_back (r ∷ rs) = ap {B = List Record} (λ l. r ∷ l) (fours_back rs)

-- a record that ascends to another comes before it
ascends-before : (r s : Record) → ascends r s ≡ true → before (four_of r) (four_of s) ≡ true
unfolding ascends
ascends-before r s p =
    ⊎_elim (before-first r.kind s.kind _ _)
    (λ k. before-rest r.kind s.kind _ _ k.0
    (⊎_elim (before-first r.from s.from _ _)
    (λ f. before-rest r.from s.from _ _ f.0
    (⊎_elim (before-first r.letter s.letter _ _)
    (λ l. before-rest r.letter s.letter _ _ l.0 (before-first r.to s.to [] [] (ltb-true r.to s.to l.1)))
    (ordered_cases r.letter s.letter _ f.1)))
    (ordered_cases r.from s.from _ k.1)))
    (ordered_cases r.kind s.kind _ p)

-- so records each of which ascends to the next ascend as byte strings
records_ascending : (rs : List Record) → ((i : ℕ) → suc i < length rs → ascends (at rs i) (at rs (suc i)) ≡ true)
    → Ascending (map four_of rs)
records_ascending [] p = none
records_ascending (r ∷ []) p = more (λ y m. absurd (mathlib.Core.List.Memᴰ.not-nil m)) none
records_ascending (r ∷ s ∷ rs) p = go (records_ascending (s ∷ rs) (λ i h. p (suc i) (suc-le-suc h)))
  where
    first : before (four_of r) (four_of s) ≡ true
    first = ascends-before r s (p 0 (suc-le-suc (omega arith)))

    go : Ascending (map four_of (s ∷ rs)) → Ascending (map four_of (r ∷ s ∷ rs))
    go (more q a) =
        more
        (λ y m. ⊎_elim (λ (e : y ≡ four_of s). ap (before (four_of r)) e
        ∙ first) (λ k. before_trans (four_of r) (four_of s) y first (q y k))
        (mathlib.Core.List.Memᴰ.cases_cons m))
        (more q a)

-- bytes of whole records are those of their records
bytes_whole : (bytes : List ℕ) → length bytes % 4 ≡ 0 → bytes_of (records_of bytes) ≡ bytes
unfolding records_of bytes_of flat_map
bytes_whole [] e = refl
bytes_whole (a ∷ []) e = absurd (omega arith)
bytes_whole (a ∷ b ∷ []) e = absurd (omega arith)
bytes_whole (a ∷ b ∷ c ∷ []) e = absurd (omega arith)
bytes_whole (a ∷ b ∷ c ∷ d ∷ rest) e = ap {B = List ℕ} (λ l. a ∷ b ∷ c ∷ d ∷ l) (bytes_whole rest (omega arith))

passes-whole : (bytes : List ℕ) → Passes (table_checks 0 bytes) → bytes_of (records_of bytes) ≡ bytes
unfolding wrong_size
passes-whole bytes p =
    let empty = eqb (length bytes) 0 in
    let ragged = not (eqb (length bytes % 4) 0) in
    let whole = neither_right empty ragged (neither_left (empty || ragged) (ltb 4160 (length bytes)) (passes-length 0 bytes p)) in
    bytes_whole bytes (eqb-true (length bytes % 4) 0 (not-false (eqb (length bytes % 4) 0) whole))

pub same_bytes : (one two : List ℕ) → Passes (table_checks 0 one) → Passes (table_checks 0 two)
    → ((r : Record) → Memᴰ r (records_of one) ↔ Memᴰ r (records_of two)) → one ≡ two
same_bytes one two p q same =
    let rs = records_of one in
    let ss = records_of two in
    let along : (rs ss : List Record) → ((r : Record) → Memᴰ r rs → Memᴰ r ss) → (x : List ℕ) → Memᴰ x (map four_of rs)
    → Memᴰ x (map four_of ss) =
    λ rs ss f x m. let found = mathlib.Core.List.Memᴰ.of_map four_of rs m in mathlib.Core.List.Memᴰ.cast (sym found.2)
    (mathlib.Core.List.Memᴰ.map four_of (f found.0 found.1)) in
    let fours =
    ascending-equal (map four_of rs) (map four_of ss) (records_ascending rs (passes_sound 0 one p).ascending)
    (records_ascending ss (passes_sound 0 two q).ascending) (along rs ss (λ r. (same r).0)) (along ss rs (λ r. (same r).1)) in
    sym (passes-whole one p)
    ∙ ap bytes_of (sym (fours_back rs) ∙ ap (map record_of) fours ∙ fours_back ss)
    ∙ passes-whole two q
