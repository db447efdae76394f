-- `pair` answers with the fault of the first table, then of the second, then with 13 and 14: where both tables pass 4 to 10, the tables
-- that were read state their letters and sizes. Beside each fault stands what was read of both. Assumes nothing.
use mathlib.Core.Path.{◌≡◌, sym, ap, ap₂, ◌∙◌}
use mathlib.Core.Bool.{true, false}
use mathlib.Core.List.{List}
use Prim.Native.Nat.{ℕ, ◌≤◌}
use native.Mathlib.Omega.{arith}
use borrow.Author.Rules.{rules}
use borrow.Author.Tests.{tests, eq-eqb, ne_eqb, lt-ltb, le-ltb}
use Rattle.std.specs.Prelude.{Result, Ok, Err}
use Rattle.std.specs.Result.{MatchResult, IsErrAnd}
use Rattle.std.proofs.lemmas.Result.{err_from_is_err_and}
use Rattle.meaning.specs.declared.Fault.{Fault}
use Rattle.meaning.specs.declared.Refusal.TheVariants.{Letters, Size}
use Rattle.meaning.specs.Checks.{Check, check}
use Rattle.meaning.specs.Answers.{fault_of}
use Rattle.table.specs.declared.Table.{Table}
use Rattle.table.specs.Checked.{reading_of}
use Rattle.table.proofs.Judged.{passes-none-fails, reading-table}
use Rattle.joined.specs.declared.pair.Unpaired.{Unpaired}
use Rattle.joined.specs.Joined.{with_tables}
use Rattle.joined.proofs.Paired.{refuses, first-fails, second-fails, sizes_left, few-states, letters_differ, size_over}
use Rattle.joined.proofs.pair.pair.Goals as goal
use Rattle.joined.proofs.pair.pair.Goals.{then-first-second-gt8-via-then-first-second-gt8}
use Rattle.joined.proofs.pair.pair.Goals.{then-first-second-gt8-via-else-first-second-gt8+then-first-second-gt8-2}
use Rattle.joined.proofs.pair.pair.Goals.{then-first-second-via-then-first-second}
use Rattle.joined.proofs.pair.pair.Goals.{then-first-second-via-else-first-second+then-first-second-2}

-- what is told of a table whose faults are told anew
module _ (anew : Fault → Unpaired → Type 0) (bytes : List ℕ) where
  of_fault : (read : Result Table Fault) (told : Result Table Unpaired) → read ≡ reading_of bytes
      → MatchResult read (λ t. told ≡ Ok t) (λ f. IsErrAnd told (anew f)) → (u : Unpaired) → told ≡ Err u
      → (f : Fault) × (reading_of bytes ≡ Err f) × anew f u
  of_fault (Ok t) told r m u e = let clash : Ok t ≡ Err u = sym m ∙ e in absurd cc
  of_fault (Err f) told r m u e = (f, sym r, rw e at m)

  of_table : (read : Result Table Fault) (told : Result Table Unpaired) → read ≡ reading_of bytes
      → MatchResult read (λ t. told ≡ Ok t) (λ f. IsErrAnd told (anew f)) → (t : Table) → told ≡ Ok t → reading_of bytes ≡ Ok t
  of_table (Ok u) told r m t e =
      let same : ◌≡◌ {A = Result Table Unpaired} (Ok u) (Ok t) = sym m ∙ e in
      let read : ◌≡◌ {A = Result Table Fault} (Ok u) (Ok t) = cc in sym r ∙ read
  of_table (Err f) told r m t e = absurd (rw e at m)

-- a check that fails, beside what was read of the tables
refused : (one two : List ℕ) (c : Check) {u : Unpaired} {r s : Result Table Fault} → u ≡ with_tables (fault_of c) r s
    → r ≡ reading_of one → s ≡ reading_of two → Err u ≡ refuses one two c
refused one two c e first second = ap Err (e ∙ ap₂ (with_tables (fault_of c)) first second)

few : (bytes : List ℕ) (t : Table) → reading_of bytes ≡ Ok t → (t.controllers ≤ 8) × (t.worlds ≤ 8)
few bytes t e = few-states bytes t (reading-table bytes e) (passes-none-fails bytes e 0)

pub returns-in_err-first : goal.returns-in_err-first
returns-in_err-first c =
    let p = err_from_is_err_and c.from_residual.result c.from_residual.ensures.1 in
    let fault = of_fault _ _ _ c.map_err.result c.check-one.ensures c.map_err.ensures.cases _ c.in_err-first.was in
    rw (p.1, p.2) (refused _ _ (check fault.0.refusal fault.0.place 1 true) (search (rules, tests)) c.check-one.ensures c.check-two.ensures
    ∙ sym (first-fails _ _ fault.1))

pub returns-in_err-second : goal.returns-in_err-second
returns-in_err-second c =
    let first = of_table _ _ _ c.map_err.result c.check-one.ensures c.map_err.ensures.cases _ c.in_ok-first.was in
    let p = err_from_is_err_and c.from_residual-in_err-second.result c.from_residual-in_err-second.ensures.1 in
    let fault = of_fault _ _ _ c.map_err-2.result c.check-two.ensures c.map_err-2.ensures.cases _ c.in_err-second.was in
    rw (p.1, p.2) (refused _ _ (check fault.0.refusal fault.0.place 2 true) (search (rules, tests)) c.check-one.ensures c.check-two.ensures
    ∙ sym (second-fails _ _ first fault.1))

pub returns-then-first-second : goal.returns-then-first-second
returns-then-first-second c =
    let first = of_table _ _ _ c.map_err.result c.check-one.ensures c.map_err.ensures.cases _ c.in_ok-first.was in
    let second = of_table _ _ _ c.map_err-2.result c.check-two.ensures c.map_err-2.ensures.cases _ c.in_ok-second.was in
    let differ : letters_differ c.in_ok-first.first c.in_ok-second.second ≡ true = elim c.then-first-second.branch [
      | then-first-second-via-then-first-second w ↦ rw (ne_eqb _ _ w.if-first-second.true)
      | then-first-second-via-else-first-second+then-first-second-2 w ↦
          rw (eq-eqb _ _ w.if-first-second.false, ne_eqb _ _ w.if-first-second-2.true)
    ] in
    refused _ _ (check Letters 0 0 true) (rw c.at.ensures at c.with_tables.ensures) c.check-one.ensures c.check-two.ensures
    ∙ sym (sizes_left _ _ first second ∙ rw differ)

pub overflow_add-first : goal.overflow_add-first
overflow_add-first c =
    let first = of_table _ _ _ c.map_err.result c.check-one.ensures c.map_err.ensures.cases _ c.in_ok-first.was in
    let second = of_table _ _ _ c.map_err-2.result c.check-two.ensures c.map_err-2.ensures.cases _ c.in_ok-second.was in
    omega (arith, few _ _ first, few _ _ second)

pub overflow_add-first-else-first-second-gt8 : goal.overflow_add-first-else-first-second-gt8
overflow_add-first-else-first-second-gt8 c =
    let first = of_table _ _ _ c.map_err.result c.check-one.ensures c.map_err.ensures.cases _ c.in_ok-first.was in
    let second = of_table _ _ _ c.map_err-2.result c.check-two.ensures c.map_err-2.ensures.cases _ c.in_ok-second.was in
    omega (arith, few _ _ first, few _ _ second)

-- their letters are the same
same-letters : (t u : Table) → t.outputs ≡ u.outputs → t.inputs ≡ u.inputs → letters_differ t u ≡ false
same-letters t u p q = rw (eq-eqb _ _ p, eq-eqb _ _ q)

pub returns-then-first-second-gt8 : goal.returns-then-first-second-gt8
returns-then-first-second-gt8 c =
    let first = of_table _ _ _ c.map_err.result c.check-one.ensures c.map_err.ensures.cases _ c.in_ok-first.was in
    let second = of_table _ _ _ c.map_err-2.result c.check-two.ensures c.map_err-2.ensures.cases _ c.in_ok-second.was in
    let same = same-letters c.in_ok-first.first c.in_ok-second.second c.if-first-second.false c.if-first-second-2.false in
    let over : size_over c.in_ok-first.first c.in_ok-second.second ≡ true = elim c.then-first-second-gt8.branch [
      | then-first-second-gt8-via-then-first-second-gt8 w ↦ rw (lt-ltb _ _ w.if-first-second-gt8.true)
      | then-first-second-gt8-via-else-first-second-gt8+then-first-second-gt8-2 w ↦
          rw (le-ltb _ _ w.if-first-second-gt8.false, lt-ltb _ _ w.if-first-second-gt8-2.true)
    ] in
    let large = rw c.at-then-first-second-gt8.ensures at c.with_tables-then-first-second-gt8.ensures in
    refused _ _ (check Size 0 0 true) large c.check-one.ensures c.check-two.ensures
    ∙ sym (sizes_left _ _ first second ∙ rw (same, over))

pub returns : goal.returns
returns c =
    let first = of_table _ _ _ c.map_err.result c.check-one.ensures c.map_err.ensures.cases _ c.in_ok-first.was in
    let second = of_table _ _ _ c.map_err-2.result c.check-two.ensures c.map_err-2.ensures.cases _ c.in_ok-second.was in
    let same = same-letters c.in_ok-first.first c.in_ok-second.second c.if-first-second.false c.if-first-second-2.false in
    let fit : size_over c.in_ok-first.first c.in_ok-second.second ≡ false =
    rw (le-ltb _ _ c.if-first-second-gt8.false, le-ltb _ _ c.if-first-second-gt8-2.false) in
    sym (sizes_left _ _ first second ∙ rw (same, fit))
