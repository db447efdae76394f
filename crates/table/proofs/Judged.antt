-- What a call may take from what `check` answers, a table or a fault: whichever of its tables the bytes are, judging checks 4 to 10 gives
-- what the answer says, and where it is a table none of them fails and the table is that of the records. The checks of table 1 or 2 differ
-- from those of table 0 in that number alone. By induction on the checks, and since the first check that fails is told. Assumes nothing.
use mathlib.Core.Path.{◌≡◌, refl, ap, ◌∙◌}
use mathlib.Core.Logic.{◌⊎◌, inl, inr}
use mathlib.Core.Bool.{Bool, true, false}
use mathlib.Core.List.{List, [], ◌∷◌, ◌++◌, map}
use Prim.Native.Nat.{ℕ}
use Rattle.std.specs.Prelude.{Result, Ok, Err}
use Rattle.meaning.specs.declared.Fault.{Fault}
use Rattle.meaning.specs.Records.{records_of}
use Rattle.meaning.specs.Table.{table_of}
use Rattle.meaning.specs.Checks.{Check, check, judge, table_checks}
use Rattle.meaning.specs.Checks as N
use Rattle.meaning.specs.Answers.{fault_of}
use Rattle.meaning.proofs.Checks.{Failure, first_failure, judge-fails, judge-passes, judge-append}
use Rattle.meaning.proofs.Sound.{other_which}
use Rattle.table.specs.declared.Table.{Table}
use Rattle.table.specs.Packed.{table_in, packed}
use Rattle.table.specs.Checked.{reading_of}
use Rattle.table.proofs.Good.{good-table}

-- what an answer comes to
abbrev pub by_reading : {A B : Type 0} → (Fault → A) → (B → A) → Result B Fault → A
by_reading refuse grant (Ok t) = grant t
by_reading refuse grant (Err fault) = refuse fault

-- checks that are told as a fault, or as what they grant
abbrev pub told : {B : Type 0} → List Check → B → Result B Fault
told cs granted = judge cs (λ c. Err (fault_of c)) (Ok granted)

-- judging them gives what is told
pub judge-told : {A B : Type 0} (cs : List Check) (granted : B) (refuse : Check → A) (grant : A)
    → judge cs refuse grant ≡ by_reading (λ f. refuse (check f.refusal f.place f.which true)) (λ _. grant) (told cs granted)
judge-told [] granted refuse grant = refl
judge-told (c ∷ cs) granted refuse grant = go c.failed refl (judge-told cs granted refuse grant)
  where
    go : (b : Bool) → c.failed ≡ b
        → judge cs refuse grant ≡ by_reading (λ f. refuse (check f.refusal f.place f.which true)) (λ _. grant) (told cs granted)
        → judge (c ∷ cs) refuse grant ≡ by_reading (λ f. refuse (check f.refusal f.place f.which true)) (λ _. grant) (told (c ∷ cs) granted)
    go true e rest = rw e
    go false e rest = rw e rest

-- where what they grant is told none of them fails, and that is it
module _ {B : Type 0} (cs : List Check) (granted t : B) (e : told cs granted ≡ Ok t) where
  pub told-passes : N.Passes cs
  told-passes = go (first_failure cs)
    where
      go : N.Passes cs ⊎ Failure cs → N.Passes cs
      go (inl q) = q
      go (inr f) =
          let fails : told cs granted ≡ Err (fault_of f.1) = judge-fails cs _ _ f.0 f.1 f.2 in absurd cc

  pub told-granted : t ≡ granted
  told-granted = let passes : told cs granted ≡ Ok granted = judge-passes cs _ _ told-passes in cc

-- the same check of another table
abbrev of_table : ℕ → Check → Check
of_table which c = record { failed = c.failed; refusal = c.refusal; fault_at = c.fault_at; table = which }

judge_cases : {A B : Type 0} (which : ℕ) (cs : List Check) (granted : B) (refuse : Check → A) (grant : A)
    → judge (map (of_table which) cs) refuse grant
    ≡ by_reading (λ f. refuse (check f.refusal f.place which true)) (λ _. grant) (told cs granted)
judge_cases which [] granted refuse grant = refl
judge_cases which (c ∷ cs) granted refuse grant = go c.failed refl (judge_cases which cs granted refuse grant)
  where
    go : (b : Bool) → c.failed ≡ b
        → judge (map (of_table which) cs) refuse grant
        ≡ by_reading (λ f. refuse (check f.refusal f.place which true)) (λ _. grant) (told cs granted)
        → judge (map (of_table which) (c ∷ cs)) refuse grant
        ≡ by_reading (λ f. refuse (check f.refusal f.place which true)) (λ _. grant) (told (c ∷ cs) granted)
    go true e rest = rw e
    go false e rest = rw e rest

pub judge_checked : {A : Type 0} (which : ℕ) (bytes : List ℕ) (refuse : Check → A) (grant : A)
    → judge (table_checks which bytes) refuse grant
    ≡ by_reading (λ f. refuse (check f.refusal f.place which true)) (λ _. grant) (reading_of bytes)
unfolding table_checks
judge_checked which bytes refuse grant = judge_cases which (table_checks 0 bytes) (packed (table_of (records_of bytes))) refuse grant

-- before any others: a refusal of the table is what all of them come to, and where it passes the others are left
module _ {A : Type 0} (which : ℕ) (bytes : List ℕ) (cs : List Check) (refuse : Check → A) (grant : A) where
  pub table-refuses : {fault : Fault} → reading_of bytes ≡ Err fault
      → judge (table_checks which bytes ++ cs) refuse grant ≡ refuse (check fault.refusal fault.place which true)
  table-refuses f =
      judge-append (table_checks which bytes) cs refuse grant
      ∙ judge_checked which bytes refuse (judge cs refuse grant)
      ∙ ap (by_reading (λ (f : Fault). refuse (check f.refusal f.place which true)) (λ _. judge cs refuse grant)) f

  pub table-passes : N.Passes (table_checks which bytes) → judge (table_checks which bytes ++ cs) refuse grant ≡ judge cs refuse grant
  table-passes p =
      judge-append (table_checks which bytes) cs refuse grant ∙ judge-passes (table_checks which bytes) refuse (judge cs refuse grant) p

-- where the answer is a table, none of the checks fails, and it is the table of the records
module _ (bytes : List ℕ) {t : Table} (e : reading_of bytes ≡ Ok t) where
  none-fails : N.Passes (table_checks 0 bytes)
  none-fails = told-passes (table_checks 0 bytes) (packed (table_of (records_of bytes))) t e

  pub passes-none-fails : (which : ℕ) → N.Passes (table_checks which bytes)
  passes-none-fails which = other_which 0 which bytes none-fails

  pub reading-table : t ≡ packed (table_of (records_of bytes))
  reading-table = told-granted (table_checks 0 bytes) (packed (table_of (records_of bytes))) t e

  pub table-read : table_in t ≡ table_of (records_of bytes)
  table-read = good-table 0 bytes t reading-table none-fails
