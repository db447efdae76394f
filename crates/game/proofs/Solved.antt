-- The call `solve`, by the order of its checks: 2, 3, 4 to 10, and what is left to judge of the one stage. Assumes nothing.
use mathlib.Core.Path.{◌≡◌, ◌∙◌}
use mathlib.Core.Bool.{true, false}
use mathlib.Core.List.{List, ◌++◌}
use Prim.Native.Nat.{ℕ, ◌≤◌, ◌<◌}
use Rattle.std.specs.Prelude.{Result, Err}
use Rattle.std.specs.Result.{IsErrAnd}
use Rattle.meaning.specs.declared.Answer.{Answer}
use Rattle.meaning.specs.declared.Fault.{Fault}
use Rattle.meaning.specs.declared.Refusal.TheVariants.{Bound, Room}
use Rattle.meaning.specs.Rounds.{all_safe}
use Rattle.meaning.specs.Answers.{Solved, unsolved, solved_from, solve, solved, told, fault_of}
use Rattle.meaning.specs.Checks.{Check, check, judge, room, table_checks, stage_checks, solve_checks, Passes}
use Rattle.meaning.specs.Table.{stated}
use Rattle.table.specs.Packed.{packed}
use Rattle.table.specs.Checked.{reading_of}
use Rattle.game.proofs.InOrder.{bound-refused, room-refused, opened-on, fault-refused, read-on}

module _ (bytes : List ℕ) (K N : ℕ) (win con : List ℕ) where
  -- 11 and 12, and what comes if no check fails
  abbrev stage : List Check
  stage = stage_checks 0 K N (stated bytes) (all_safe K (stated bytes).controllers)

  abbrev grant : Solved
  grant = solved_from K (stated bytes) (all_safe K (stated bytes).controllers) win con

  pub solve-bound : 7 < K → {fault : Fault} → fault ≡ fault_of (check Bound 0 0 true)
      → solved (told (Err fault)) win con ≡ solve bytes K N win con
  unfolding solve solve_checks
  solve-bound = bound-refused K N win con (table_checks 0 bytes ++ stage) grant

  module _ (patient : K ≤ 7) where
    pub solve-room : (room N win con).failed ≡ true → {fault : Fault} → fault ≡ fault_of (check Room 0 0 true)
        → solved (told (Err fault)) win con ≡ solve bytes K N win con
    unfolding solve solve_checks
    solve-room = room-refused K N win con (table_checks 0 bytes ++ stage) grant patient

    module _ (roomy : (room N win con).failed ≡ false) where
      pub solve-table : {fault : Fault} → reading_of bytes ≡ Err fault → (result : Result Answer Fault) → IsErrAnd result (λ f. f ≡ fault)
          → solved (told result) win con ≡ solve bytes K N win con
      unfolding solve solve_checks
      solve-table f result e =
          fault-refused (table_checks 0 bytes) (packed (stated bytes)) win con stage grant f result e
          ∙ opened-on K N win con (table_checks 0 bytes ++ stage) grant patient roomy

      pub solve-stage : Passes (table_checks 0 bytes) → judge stage (unsolved win con) grant ≡ solve bytes K N win con
      unfolding solve solve_checks
      solve-stage p =
          read-on (table_checks 0 bytes) (packed (stated bytes)) win con stage grant p
          ∙ opened-on K N win con (table_checks 0 bytes ++ stage) grant patient roomy
