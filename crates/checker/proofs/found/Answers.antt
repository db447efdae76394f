-- `found` tells the first check that fails. Where none does, the table that was read states the table of the bytes, and the rows can be
-- followed on it, so that the verdict is what following them comes to. Assumes nothing.
use mathlib.Core.Path.{◌≡◌, sym, ap, ◌∙◌}
use mathlib.Core.Bool.{Bool, true}
use mathlib.Core.List.{List}
use Prim.Native.Nat.{ℕ, ◌≤◌}
use Rattle.std.specs.Prelude.{Ok}
use Rattle.std.proofs.lemmas.Result.{err_from_is_err_and}
use Rattle.meaning.specs.declared.Answer.{Answer}
use Rattle.meaning.specs.declared.Fault.{Fault}
use Rattle.meaning.specs.Records.{records_of}
use Rattle.meaning.specs.Table.{stated}
use Rattle.meaning.specs.Table as M
use Rattle.meaning.specs.Checks.{check, table_checks}
use Rattle.meaning.specs.Checks as N
use Rattle.meaning.specs.Answers.{refused}
use Rattle.meaning.specs.Play.{rows_in}
use Rattle.meaning.specs.Controller.{well_formed, of_letters, inputs_in}
use Rattle.meaning.proofs.Realizes.{start-declared}
use Rattle.meaning.proofs.Sound.{passes-good, passes-small}
use Rattle.table.specs.declared.Table.{Table}
use Rattle.table.specs.Packed.{table_in}
use Rattle.table.specs.Checked.{reading_of}
use Rattle.table.proofs.Judged.{passes-none-fails, table-read}
use Rattle.checker.specs.Followable.{Followable}
use Rattle.checker.proofs.InOrder.{found-bound, found-table, found_rows, found-outputs, found-inputs, found_verdict}
use Rattle.checker.proofs.found.Goals as goal
use Rattle.checker.proofs.found.Goals.{In_ok-table}

-- what a fault is answered by
abbrev answered : Fault → Answer
answered fault = refused (check fault.refusal fault.place fault.which true)

-- where 4 to 10 have passed
module _ (bytes : List ℕ) (table : Table) (told : reading_of bytes ≡ Ok table) where
  passes : N.Passes (table_checks 0 bytes)
  passes = passes-none-fails bytes told 0

  -- the table that was read
  same-table : table_in table ≡ stated bytes
  same-table = table-read bytes told

  same-outputs : table.outputs ≡ (stated bytes).outputs
  unfolding table_in
  same-outputs = ap (λ (t : M.Table). t.outputs) same-table

  same_inputs : table.inputs ≡ (stated bytes).inputs
  unfolding table_in
  same_inputs = ap (λ (t : M.Table). t.inputs) same-table

  -- what the rows' outputs come to
  letters : (rows : List ℕ) {b : Bool} → b ≡ of_letters table.outputs (rows_in rows) → b ≡ of_letters (stated bytes).outputs (rows_in rows)
  letters rows e = e ∙ ap (λ (n : ℕ). of_letters n (rows_in rows)) same-outputs

  -- where 15 and 13 have passed too
  followable : (K : ℕ) (rows : List ℕ) → K ≤ 7 → well_formed rows ≡ true → of_letters (stated bytes).outputs (rows_in rows) ≡ true
      → inputs_in (rows_in rows) ≡ table.inputs → Followable K (stated bytes) rows
  followable K rows patient formed outputs inputs =
      record {
        bounded = record { patience = patient; small = passes-small 0 bytes passes };
        good = passes-good 0 bytes passes;
        declared = start-declared (records_of bytes);
        formed = formed;
        outputs = outputs;
        inputs = inputs ∙ same_inputs;
      }

-- the table that was read, and what the reading of the bytes is then
read : (c : In_ok-table) → reading_of c.args.table.now ≡ Ok c.in_ok-table.table
read c = sym c.check.ensures ∙ c.in_ok-table.was

pub returns-then-k-gt7 : goal.returns-then-k-gt7
returns-then-k-gt7 c =
    found-bound c.args.table.now c.args.k c.args.rows.now c.if-k-gt7.true (ap answered c.at.ensures)

pub returns-in_err-table : goal.returns-in_err-table
returns-in_err-table c =
    let p = err_from_is_err_and c.from_residual.result c.from_residual.ensures.1 in
    let told = sym c.check.ensures ∙ c.in_err-table.was in
    rw (p.1, p.2) (found-table c.args.table.now c.args.k c.args.rows.now c.if-k-gt7.false told)

pub returns-then-not-well_formed : goal.returns-then-not-well_formed
returns-then-not-well_formed c =
    let bytes = c.args.table.now in
    let told = read (goal.at.returns-then-not-well_formed c).In_ok-table in
    found_rows bytes c.args.k c.args.rows.now c.if-k-gt7.false (passes bytes c.in_ok-table.table told)
    (sym c.well_formed-2.ensures ∙ c.if-not-well_formed.true) (ap answered c.at-then-not-well_formed.ensures)

pub returns-then-not-of_letters : goal.returns-then-not-of_letters
returns-then-not-of_letters c =
    let bytes = c.args.table.now in
    let rows = c.args.rows.now in
    let table = c.in_ok-table.table in
    let told = read (goal.at.returns-then-not-of_letters c).In_ok-table in
    found-outputs bytes c.args.k rows c.if-k-gt7.false (passes bytes table told) (sym c.well_formed-2.ensures ∙ c.if-not-well_formed.false)
    (sym (letters bytes table told rows c.of_letters.ensures) ∙ c.if-not-of_letters.true) (ap answered c.at-then-not-of_letters.ensures)

pub returns-then-inputs-table : goal.returns-then-inputs-table
returns-then-inputs-table c =
    let bytes = c.args.table.now in
    let table = c.in_ok-table.table in
    let told = read (goal.at.returns-then-inputs-table c).In_ok-table in
    found-inputs bytes c.args.k c.args.rows.now c.if-k-gt7.false (passes bytes table told)
    (sym c.well_formed-2.ensures ∙ c.if-not-well_formed.false)
    (λ e. c.if-inputs-table.true (c.inputs.ensures ∙ e ∙ sym (same_inputs bytes table told))) (ap answered c.at-then-inputs-table.ensures)

pub keeps-requires : goal.keeps-requires
keeps-requires c =
    let bytes = c.args.table.now in
    let rows = c.args.rows.now in
    let table = c.in_ok-table.table in
    let told = read (goal.at.keeps-requires c).In_ok-table in
    rw (same-table bytes table told)
    (followable bytes table told c.args.k rows c.if-k-gt7.false (sym c.well_formed-2.ensures ∙ c.if-not-well_formed.false)
    (sym (letters bytes table told rows c.of_letters.ensures) ∙ c.if-not-of_letters.false)
    (sym c.inputs.ensures ∙ c.if-inputs-table.false))

pub returns : goal.returns
returns c =
    let bytes = c.args.table.now in
    let rows = c.args.rows.now in
    let table = c.in_ok-table.table in
    let told = read (goal.at.returns c).In_ok-table in
    found_verdict bytes c.args.k rows c.if-k-gt7.false (passes bytes table told)
    (sym c.well_formed-2.ensures ∙ c.if-not-well_formed.false)
    (sym (letters bytes table told rows c.of_letters.ensures) ∙ c.if-not-of_letters.false)
    (sym c.inputs.ensures ∙ c.if-inputs-table.false ∙ same_inputs bytes table told) c.keeps.result
    (rw (same-table bytes table told) at c.keeps.ensures) c.verdict_on.ensures
