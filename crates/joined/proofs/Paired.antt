-- What the checks of two tables come to, part by part: a fault of the first table, then of the second, then 13 and 14; and what a call may
-- take from it where they pass. By the laws of judging. Assumes nothing.
use mathlib.Core.Path.{◌≡◌, refl, sym, ap, ◌∙◌}
use mathlib.Core.Bool.{Bool, true, false, cond, not, ◌||◌}
use mathlib.Core.List.Memᴰ
use mathlib.Core.List.{List, [], ◌∷◌, ◌++◌, map, append_assoc}
use Prim.Native.Nat.{ℕ, ◌+◌, ◌%◌, ◌≤◌, ◌<◌}
use native.Mathlib.Omega.{arith}
use lib.ListN.{length, get_or}
use lib.Dec.{eqb, ltb}
use borrow.Author.Tests.{ltb-false}
use Rattle.std.specs.Prelude.{Result, Ok, Err}
use Rattle.meaning.specs.declared.Fault.{Fault}
use Rattle.meaning.specs.declared.Refusal.TheVariants.{Letters, Size}
use Rattle.meaning.specs.Records.{Record, records_of, blank}
use Rattle.meaning.specs.Table.{table_of, stated}
use Rattle.meaning.specs.Checks.{Check, check, judge, table_checks, other_letters, too_large, pair_checks, wrong_size}
use Rattle.meaning.specs.Checks as N
use Rattle.meaning.specs.Answers.{fault_of}
use Rattle.meaning.specs.Join.{joined_bytes}
use Rattle.meaning.proofs.Tests.{neither_right}
use Rattle.meaning.proofs.Lists.{member-at}
use Rattle.meaning.proofs.Records.{inside-bytes}
use Rattle.meaning.proofs.Sound.{passes-small, passes_sound, passes-first, passes-second, passes-paired}
use Rattle.meaning.proofs.JoinGood.{joined_length}
use Rattle.table.specs.declared.Table.{Table}
use Rattle.table.specs.Packed.{packed, table_in, of_bytes}
use Rattle.table.specs.Checked.{reading_of}
use Rattle.table.proofs.Records.{as_many, record-at}
use Rattle.table.proofs.Judged.{by_reading, told, judge-told, told-passes, told-granted, table-refuses, table-passes}
use Rattle.table.proofs.Judged.{passes-none-fails, reading-table}
use Rattle.table.proofs.Good.{good-table}
use Rattle.joined.specs.declared.pair.Tables.{Tables}
use Rattle.joined.specs.declared.pair.Unpaired.{Unpaired}
use Rattle.joined.specs.Joined.{tables_in, with_tables, pair_of, ReadBoth}

-- 13 and 14
abbrev size_checks : List ℕ → List ℕ → List Check
size_checks one two = other_letters (stated one) (stated two) ∷ too_large (stated one) (stated two) ∷ []

-- the tests of 13 and 14 on the tables that were read
abbrev pub letters_differ : Table → Table → Bool
letters_differ t u = not (eqb t.outputs u.outputs) || not (eqb t.inputs u.inputs)

abbrev pub size_over : Table → Table → Bool
size_over t u = ltb 8 (t.controllers + u.controllers) || ltb 8 (t.worlds + u.worlds)

-- what `pair` answers, without the tables beside a fault
abbrev pub alone : Result Tables Unpaired → Result Tables Fault
alone (Ok tables) = Ok tables
alone (Err unpaired) = Err unpaired.fault

module _ (one two : List ℕ) where
  -- the checks, told with nothing beside a fault
  abbrev pub told_pair : Result Tables Fault
  told_pair = told (pair_checks one two) (tables_in one two)

  -- a fault of theirs, beside what was read
  abbrev pub refuses : Check → Result Tables Unpaired
  refuses c = Err (with_tables (fault_of c) (reading_of one) (reading_of two))

  told-alone : (cs : List Check) → told cs (tables_in one two) ≡ alone (judge cs refuses (Ok (tables_in one two)))
  told-alone [] = refl
  told-alone (c ∷ cs) = go c.failed (told-alone cs)
    where
      go : (b : Bool) → told cs (tables_in one two) ≡ alone (judge cs refuses (Ok (tables_in one two)))
          → cond b (Err (fault_of c)) (told cs (tables_in one two)) ≡ alone (cond b (refuses c) (judge cs refuses (Ok (tables_in one two))))
      go true rest = refl
      go false rest = rest

  -- so what `pair` answers tells them
  pub pair-told : {answer : Result Tables Unpaired} → answer ≡ pair_of one two → told_pair ≡ alone answer
  pair-told e = told-alone (pair_checks one two) ∙ sym (ap alone e)

  -- and judging them gives what it says
  pub judge-pair : {A : Type 0} (refuse : Check → A) (grant : A) {answer : Result Tables Unpaired} → answer ≡ pair_of one two
      → judge (pair_checks one two) refuse grant
      ≡ by_reading (λ f. refuse (check f.refusal f.place f.which true)) (λ _. grant) (alone answer)
  judge-pair refuse grant e =
      judge-told (pair_checks one two) (tables_in one two) refuse grant
      ∙ ap (by_reading (λ (f : Fault). refuse (check f.refusal f.place f.which true)) (λ _. grant)) (pair-told e)

  -- part by part
  in_parts : pair_of one two ≡ judge (table_checks 1 one ++ (table_checks 2 two ++ size_checks one two)) refuses (Ok (tables_in one two))
  unfolding pair_checks
  in_parts =
      ap (λ (cs : List Check). judge cs refuses (Ok (tables_in one two)))
      (append_assoc (table_checks 1 one) (table_checks 2 two) (size_checks one two))

  -- a fault of the first table
  pub first-fails : {f : Fault} → reading_of one ≡ Err f → pair_of one two ≡ refuses (check f.refusal f.place 1 true)
  first-fails e = in_parts ∙ table-refuses 1 one (table_checks 2 two ++ size_checks one two) refuses (Ok (tables_in one two)) e

  module _ {t : Table} (first : reading_of one ≡ Ok t) where
    second_left : pair_of one two ≡ judge (table_checks 2 two ++ size_checks one two) refuses (Ok (tables_in one two))
    second_left =
        in_parts
        ∙ table-passes 1 one (table_checks 2 two ++ size_checks one two) refuses (Ok (tables_in one two)) (passes-none-fails one first 1)

    -- of the second
    pub second-fails : {f : Fault} → reading_of two ≡ Err f → pair_of one two ≡ refuses (check f.refusal f.place 2 true)
    second-fails e = second_left ∙ table-refuses 2 two (size_checks one two) refuses (Ok (tables_in one two)) e

    -- of neither: 13 and 14 are left
    module _ {u : Table} (second : reading_of two ≡ Ok u) where
      pub sizes_left : pair_of one two
          ≡ cond (letters_differ t u) (refuses (check Letters 0 0 true))
          (cond (size_over t u) (refuses (check Size 0 0 true)) (Ok (record { first = t; second = u })))
      unfolding other_letters too_large packed
      sizes_left =
          rw (reading-table one first, reading-table two second)
          (second_left ∙ table-passes 2 two (size_checks one two) refuses (Ok (tables_in one two)) (passes-none-fails two second 2))

-- a table that passes has at most 8 states on a side
pub few-states : (bytes : List ℕ) (t : Table) → t ≡ packed (table_of (records_of bytes)) → N.Passes (table_checks 0 bytes)
    → (t.controllers ≤ 8) × (t.worlds ≤ 8)
unfolding packed table_of
few-states bytes t e p =
    let small = passes-small 0 bytes p in
    rw e (small.controllers, small.worlds)

-- and each of its records is from and to a state below 8
pub low-states : (bytes : List ℕ) (chunks : List (List ℕ)) (i : ℕ) (r : Record) → map of_bytes chunks ≡ records_of bytes → i < length chunks
    → r ≡ of_bytes (get_or chunks i []) → N.Passes (table_checks 0 bytes)
    → (r.from ≤ 7) × (r.to ≤ 7)
low-states bytes chunks i r stated h e p =
    let here = record-at chunks stated i r h e in
    let member = Memᴰ.cast here (member-at (records_of bytes) i blank (omega (arith, as_many chunks stated))) in
    let inside = inside-bytes r ((passes_sound 0 bytes p).within r member) in
    (inside.0, inside.2)

-- what a join takes from two tables that pass: each does, and the joined table's bytes are not too many
pub record Joinable (one two : List ℕ) : Type 0 where
  pub first : N.Passes (table_checks 0 one)
  pub second : N.Passes (table_checks 0 two)
  pub short : length (joined_bytes one two) ≤ 4160

pub joinable : (one two : List ℕ) → N.Passes (pair_checks one two) → Joinable one two
unfolding wrong_size
joinable one two p =
    let new = joined_bytes one two in
    let ragged = eqb (length new) 0 || not (eqb (length new % 4) 0) in
    record {
      first = passes-first one two p 0;
      second = passes-second one two p 0;
      short =
          ltb-false 4160 (length new)
          (neither_right ragged (ltb 4160 (length new)) (joined_length (records_of one) (records_of two) (passes-paired one two p)));
    }

-- what two tables that were checked and read are known to be
module _ (one two : List ℕ) {tables : Tables} (both : ReadBoth one two tables) where
  pub read-passes : N.Passes (pair_checks one two)
  read-passes = told-passes (pair_checks one two) (tables_in one two) tables (pair-told one two (sym both.both_read))

  pub read-joinable : Joinable one two
  read-joinable = joinable one two read-passes

  read-both : tables ≡ tables_in one two
  read-both = told-granted (pair_checks one two) (tables_in one two) tables (pair-told one two (sym both.both_read))

  pub read_first : tables.first ≡ packed (stated one)
  read_first = ap (λ (p : Tables). p.first) read-both

  pub read-second : tables.second ≡ packed (stated two)
  read-second = ap (λ (p : Tables). p.second) read-both

  -- so each is the table that its bytes state, and may be solved
  pub first-stated : table_in tables.first ≡ stated one
  first-stated = good-table 0 one tables.first read_first read-joinable.first

  pub second-stated : table_in tables.second ≡ stated two
  second-stated = good-table 0 two tables.second read-second read-joinable.second
