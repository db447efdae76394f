-- Document 02, R-1, "Check a controller from elsewhere": when rows are well formed, the checks of the call, and what it comes to. A state's
-- output and its next state for an input are read from rows as Play.antt reads them from the controller written.
use Rattle.std.specs.Prelude.{◌≡◌, ◌↔◌, Bool, true, not, cond, ◌&&◌, ◌||◌, List, [], ◌∷◌, ◌++◌, ℕ, suc, ◌-◌, length, eqb, leb, ltb}
use Rattle.meaning.specs.declared.Answer.{Answer}
use Rattle.meaning.specs.declared.Verdict.TheVariants.{Realizable, Unrealizable}
use Rattle.meaning.specs.declared.Refusal.TheVariants.{Letters, Rows}
use Rattle.meaning.specs.Lists.{each, keep, every, any}
use Rattle.meaning.specs.Table.{Table, stated}
use Rattle.meaning.specs.Written.{Row}
use Rattle.meaning.specs.Checks.{Check, check, judge, Passes, bound, wrong_size, table_checks}
use Rattle.meaning.specs.Answers.{refused}
use Rattle.meaning.specs.Play.{Strategy, Realizes, rows_in, row, follow}

-- the state of the first record, and the input of the last
abbrev pub first_state : List Row → ℕ
first_state rows = (row rows 0).state

abbrev pub last_input : List Row → ℕ
last_input rows = (row rows (length rows - 1)).input

-- Well formed: two neighbours, the row r and the row s after it
-- "the first state's rows come first and the others ascend": the state stays, or one follows that is not the first, and that is above the
-- one before it unless that is the first
unfoldable pub in_order : ℕ → Row → Row → Bool
in_order first r s = eqb s.state r.state || not (eqb s.state first) && (eqb r.state first || ltb r.state s.state)

-- "each state has the inputs 0 up to the same last one, .. once each in order": the state stays and its next input follows, or after the
-- last input there follows input 0 of another state
unfoldable pub input_goes_on : ℕ → Row → Row → Bool
input_goes_on last r s = cond (eqb s.state r.state) (eqb s.input (suc r.input)) (eqb r.input last && eqb s.input 0)

-- "a state has one output"
unfoldable pub output_stays : Row → Row → Bool
output_stays r s = not (eqb s.state r.state) || eqb s.output r.output

unfoldable pub goes_on : ℕ → ℕ → Row → Row → Bool
goes_on first last r s = in_order first r s && input_goes_on last r s && output_stays r s

-- a state has rows
unfoldable pub has_rows : List Row → ℕ → Bool
has_rows rows s = any (λ (r : Row). eqb r.state s) rows

-- each row for itself: "every next state has rows", and an output is "at most 7"
unfoldable pub leads_on : List Row → Row → Bool
leads_on rows r = leb r.output 7 && has_rows rows r.next

-- "Rows are well formed if the length is a positive multiple of 4 up to 8,192", the first input is 0 and the last "at most 7", and so on
unfoldable pub well_formed : List ℕ → Bool
well_formed bytes =
    let rows = rows_in bytes in
    not (wrong_size 8192 bytes)
    && eqb (row rows 0).input 0
    && leb (last_input rows) 7
    && each (length rows - 1) (λ i. goes_on (first_state rows) (last_input rows) (row rows i) (row rows (suc i)))
    && every (leads_on rows) rows

-- how many inputs well-formed rows have, and how many states: each has one row of input 0
abbrev pub inputs_in : List Row → ℕ
inputs_in rows = suc (last_input rows)

unfoldable pub states_in : List Row → ℕ
states_in rows = length (keep (λ (r : Row). eqb r.input 0) rows)

-- 15 ROWS, "not well formed"
unfoldable pub misshapen : List ℕ → Check
misshapen rows = check Rows 0 0 (not (well_formed rows))

-- each row's output is one of so many letters
abbrev pub of_letters : ℕ → List Row → Bool
of_letters outputs = every (λ (r : Row). ltb r.output outputs)

-- 13 "if a row's output isn't a letter of the table or the inputs differ in number"
unfoldable pub foreign : Table → List Row → Check
foreign t rows = check Letters 0 0 (not (of_letters t.outputs rows) || not (eqb (inputs_in rows) t.inputs))

-- "Refusals: 2, then 4 to 10, then 15 .., then 13"
unfoldable pub check_checks : List ℕ → ℕ → List ℕ → List Check
check_checks bytes K rows = bound K ∷ (table_checks 0 bytes ++ (misshapen rows ∷ foreign (stated bytes) (rows_in rows) ∷ []))

-- "following the rows", from the state of the first record
abbrev pub followed : List ℕ → Strategy
followed rows = follow (rows_in rows) (first_state (rows_in rows))

-- 0 or 1, and "the answer's other fields are 0"
abbrev pub verdict_on : Bool → Answer
verdict_on right = record { verdict = cond right (Realizable 0) Unrealizable; place = 0; which = 0; rounds = 0; winners = 0 }

-- What checking rows comes to: the first check that fails, or "0 if following the rows keeps every run to at most K visits for every
-- finite input sequence, and 1 if it doesn't". "Right rows are accepted whoever made them.": nothing else is asked of them
pub record Found (bytes : List ℕ) (K : ℕ) (rows : List ℕ) (answer : Answer) : Type 0 where
  pub right : Bool
  pub exactly : Passes (check_checks bytes K rows) → (right ≡ true) ↔ Realizes K (stated bytes) (followed rows)
  pub answers : answer ≡ judge (check_checks bytes K rows) refused (verdict_on right)

-- What a caller learns from a call of `check`
pub record CheckCall (bytes : List ℕ) (K : ℕ) (rows : List ℕ) : Type 0 where
  pub answer : Answer
  pub promise : Found bytes K rows answer
