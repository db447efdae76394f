-- The call `check`, by the order of its checks: 2, 4 to 10 by the answer of the table's check, 15, 13, and then the verdict. A check that
-- fails is what the whole list comes to, whatever would be granted, so that the list does not pass. Assumes nothing.
use mathlib.Core.Path.{◌≡◌, sym, ap, ◌∙◌}
use mathlib.Core.Logic.{◌↔◌}
use mathlib.Core.Bool.{Bool, true, false, not, or-true}
use mathlib.Core.List.{List, [], ◌∷◌, ◌++◌}
use Prim.Native.Nat.{ℕ, ◌≤◌, ◌<◌}
use borrow.Author.Tests.{lt-ltb, le-ltb, eq-eqb, ne_eqb}
use Rattle.meaning.specs.declared.Answer.{Answer}
use Rattle.std.specs.Prelude.{Ok, Err}
use Rattle.meaning.specs.declared.Fault.{Fault}
use Rattle.meaning.specs.declared.Refusal.TheVariants.{Bound, Letters, Rows}
use Rattle.meaning.specs.Records.{records_of}
use Rattle.meaning.specs.Table.{table_of, stated}
use Rattle.meaning.specs.Checks.{Check, check, judge, Passes, bound, table_checks}
use Rattle.meaning.specs.Answers.{refused, fault_of}
use Rattle.meaning.specs.Play.{rows_in, Realizes}
use Rattle.meaning.specs.Controller.{inputs_in, well_formed, misshapen, of_letters, foreign, check_checks, followed, verdict_on, Found}
use Rattle.meaning.proofs.Answers.{cond-granted}
use Rattle.meaning.proofs.Checks.{judge-passes}
use Rattle.table.specs.Packed.{packed}
use Rattle.table.specs.Checked.{reading_of}
use Rattle.table.proofs.Judged.{by_reading, judge_checked, table-refuses, table-passes}

module _ (bytes : List ℕ) (K : ℕ) (rows : List ℕ) where
  -- 15 and 13
  abbrev of_rows : List Check
  of_rows = misshapen rows ∷ foreign (stated bytes) (rows_in rows) ∷ []

  refusing : (c : Check) → ((grant : Answer) → judge (check_checks bytes K rows) refused grant ≡ refused c) → {answer : Answer}
      → answer ≡ refused c → Found bytes K rows answer
  unfolding refused
  refusing c same e =
      record {
        right = false;
        exactly = λ p.
            absurd (cond-granted false 0 c.refusal
            (ap (λ (a : Answer). a.verdict)
            (sym (judge-passes (check_checks bytes K rows) refused (verdict_on false) p) ∙ same (verdict_on false))));
        answers = e ∙ sym (same (verdict_on false));
      }

  pub found-bound : 7 < K → {answer : Answer} → answer ≡ refused (check Bound 0 0 true) → Found bytes K rows answer
  unfolding check_checks bound refused
  found-bound h e = refusing (check Bound 0 0 true) (λ grant. rw (lt-ltb 7 K h)) e

  module _ (patient : K ≤ 7) where
    opened : (grant : Answer) → judge (check_checks bytes K rows) refused grant ≡ judge (table_checks 0 bytes ++ of_rows) refused grant
    unfolding check_checks bound
    opened grant = rw (le-ltb 7 K patient)

    -- of a fault of the table, which is told of no table of two
    pub found-table : {fault : Fault} → reading_of bytes ≡ Err fault
        → Found bytes K rows (refused (check fault.refusal fault.place fault.which true))
    found-table {fault} f =
        let alone = check fault.refusal fault.place 0 true in
        let granted = Ok (packed (table_of (records_of bytes))) in
        let told : Err fault ≡ Err (fault_of alone) =
        sym f ∙ judge_checked 0 bytes (λ c. Err (fault_of c)) granted
        ∙ ap (by_reading (λ (f : Fault). Err (fault_of (check f.refusal f.place 0 true))) (λ _. granted)) f in
        let same : fault ≡ fault_of alone = cc in
        refusing alone (λ grant. opened grant ∙ table-refuses 0 bytes of_rows refused grant f)
        (ap (λ (f : Fault). refused (check f.refusal f.place f.which true)) same)

    module _ (good : Passes (table_checks 0 bytes)) where
      read : (grant : Answer) → judge (check_checks bytes K rows) refused grant ≡ judge of_rows refused grant
      read grant = opened grant ∙ table-passes 0 bytes of_rows refused grant good

      pub found_rows : well_formed rows ≡ false → {answer : Answer} → answer ≡ refused (check Rows 0 0 true) → Found bytes K rows answer
      unfolding misshapen refused
      found_rows w e = refusing (check Rows 0 0 true) (λ grant. read grant ∙ (rw w)) e

      module _ (formed : well_formed rows ≡ true) where
        foreign-refused : (foreign (stated bytes) (rows_in rows)).failed ≡ true
            → {answer : Answer} → answer ≡ refused (check Letters 0 0 true)
            → Found bytes K rows answer
        unfolding misshapen foreign refused
        foreign-refused f e = refusing (check Letters 0 0 true) (λ grant. read grant ∙ (rw (formed, f))) e

        pub found-outputs : of_letters (stated bytes).outputs (rows_in rows) ≡ false → {answer : Answer}
            → answer ≡ refused (check Letters 0 0 true) → Found bytes K rows answer
        unfolding foreign
        found-outputs f e = foreign-refused (rw f) e

        pub found-inputs : (inputs_in (rows_in rows) ≡ (stated bytes).inputs → ⊥) → {answer : Answer}
            → answer ≡ refused (check Letters 0 0 true) → Found bytes K rows answer
        unfolding foreign
        found-inputs d e =
            let strange = not (of_letters (stated bytes).outputs (rows_in rows)) in
            foreign-refused (rw (ne_eqb _ _ d) (or-true strange)) e

        pub found_verdict : of_letters (stated bytes).outputs (rows_in rows) ≡ true → inputs_in (rows_in rows) ≡ (stated bytes).inputs
            → (right : Bool)
            → (right ≡ true) ↔ Realizes K (stated bytes) (followed rows) → {answer : Answer} → answer ≡ verdict_on right
            → Found bytes K rows answer
        unfolding misshapen foreign
        found_verdict outputs inputs right exactly e =
            record {
              right = right;
              exactly = λ _. exactly;
              answers = e ∙ sym (read (verdict_on right) ∙ (rw (formed, outputs, eq-eqb _ _ inputs)));
            }
