-- What a caller is told by a call: the record of a call says that what it left is what the definition gives of what it was lent, so
-- whatever holds of every outcome of the definition holds of what the call left, and two calls that are lent the same leave the same.
use mathlib.Core.Path.{◌≡◌, sym, ap, ◌∙◌, subst⁻¹}
use mathlib.Core.List.{List}
use Prim.Native.Nat.{ℕ}
use Rattle.meaning.specs.Table.{stated}
use Rattle.meaning.specs.Rounds.{all_safe}
use Rattle.meaning.specs.Join.{joined_table, joined_bytes, pairs}
use Rattle.meaning.specs.Checks.{solve_checks, join_checks, parts_checks}
use Rattle.meaning.specs.Answers.{Joined, unjoined, joined_into}
use Rattle.meaning.specs.Calls.{Call, SolveCall, PartsCall, JoinCall}
use Rattle.meaning.proofs.Checks.{Judged}
use Rattle.meaning.proofs.Answers.{Answered, solve-answered, parts-answered, join-judged}

-- no second outcome fits
pub one-outcome : {A B : Type 0} {outcome : A → B} (call again : Call outcome) → call.lent ≡ again.lent → call.left ≡ again.left
one-outcome {A} {B} {outcome} call again e = call.promise ∙ ap outcome e ∙ sym again.promise

-- what holds of the definition's outcome holds of what a call left
pub told : {A B : Type 0} {outcome : A → B} (call : Call outcome) (P : B → Type 0) → P (outcome call.lent) → P call.left
told call P = subst⁻¹ P call.promise

-- the checks of `solve` that a call went through, and of `parts` and `join`
pub solve-told : (bytes : List ℕ) (K N : ℕ) (call : SolveCall bytes K N)
    → Answered (solve_checks bytes K N call.lent.winners_before call.lent.controller_before) K (stated bytes)
    (all_safe K (stated bytes).controllers) call.lent.winners_before call.lent.controller_before call.left
solve-told bytes K N call = rw call.promise (solve-answered bytes K N call.lent.winners_before call.lent.controller_before)

pub parts-told : (one two : List ℕ) (K N : ℕ) (call : PartsCall one two K N)
    → Answered (parts_checks one two K N call.lent.winners_before call.lent.controller_before) K (joined_table one two)
    (pairs K (stated one) (stated two)) call.lent.winners_before call.lent.controller_before call.left
parts-told one two K N call = rw call.promise (parts-answered one two K N call.lent.winners_before call.lent.controller_before)

pub join-told : (one two : List ℕ) (call : JoinCall one two)
    → Judged (λ (j : Joined). j.answer.verdict) (join_checks one two call.lent) (unjoined call.lent)
    (joined_into (joined_bytes one two) call.lent) call.left
join-told one two call = rw call.promise (join-judged one two call.lent)
