-- A call that solves good tables, with room that reason 3 accepts, is refused only by 2 or as FULL (Full.antt). So where it is not full
-- it comes to what 2 leaves of its last stage's outcome.
use mathlib.Core.Path.{◌≡◌, ap, ◌∙◌}
use mathlib.Core.Logic.{◌⊎◌, inl, inr, ⊎_elim}
use mathlib.Core.Bool.{true, false}
use mathlib.Core.List.{List, [], ◌∷◌, ◌++◌}
use Prim.Native.Nat.{ℕ}
use Rattle.meaning.specs.declared.Refusal.TheVariants.{Full}
use Rattle.meaning.specs.Records.{records_of}
use Rattle.meaning.specs.Table.{stated}
use Rattle.meaning.specs.Rounds.{all_safe}
use Rattle.meaning.specs.Join.{joined, joined_table, joined_bytes, pairs}
use Rattle.meaning.specs.Checks.{Check, judge, Passes, bound, room, table_checks, stage_checks, solve_checks, pair_checks, parts_stages}
use Rattle.meaning.specs.Checks.{parts_checks}
use Rattle.meaning.specs.Answers.{number_of, refused, Solved, unsolved, solved_from, solve, parts}
use Rattle.meaning.specs.Calls.{code}
use Rattle.meaning.proofs.Tests.{decided}
use Rattle.meaning.proofs.Rounds.{all_safe-first}
use Rattle.meaning.proofs.Records.{records_back}
use Rattle.meaning.proofs.Checks.{Failure, fails-member, first_failure, judge-passes, judge-fails, judge-append}
use Rattle.meaning.proofs.Sound.{passes-good}
use Rattle.meaning.proofs.Join.{joined-passes}
use Rattle.meaning.proofs.Full.{FullOnly, full-stage, full-parts}

-- where the last of a call's checks may give FULL alone, and it was not given, those before them decide
unless_full : (cs rest : List Check) (win con : List ℕ) (grant : Solved) {P : Type 0} → FullOnly rest P
    → (code (judge (cs ++ rest) (unsolved win con) grant).answer ≡ number_of Full → ⊥)
    → judge (cs ++ rest) (unsolved win con) grant ≡ judge cs (unsolved win con) grant
unfolding unsolved refused
unless_full [] rest win con grant only spare = go (first_failure rest)
  where
    go : Passes rest ⊎ Failure rest → judge rest (unsolved win con) grant ≡ grant
    go (inl p) = judge-passes rest (unsolved win con) grant p
    go (inr f) =
        let c = f.1 in
        absurd (spare
        (ap (λ (s : Solved). code s.answer) (judge-fails rest (unsolved win con) grant f.0 c f.2)
        ∙ ap number_of (only.fails c (fails-member rest f.0 c f.2) f.2.fails).0))
unless_full (c ∷ cs) rest win con grant only spare =
    ⊎_elim (λ (f : c.failed ≡ true). rw f) (λ f. rw f (unless_full cs rest win con grant only (rw f at spare))) (decided c.failed)

-- what 2 leaves of an outcome
abbrev pub bounded : ℕ → List ℕ → List ℕ → Solved → Solved
bounded K win con grant = judge (bound K ∷ []) (unsolved win con) grant

-- after 2 and 3, checks that pass leave the rest
call_passed : (K N : ℕ) (win con : List ℕ) (cs rest : List Check) (grant : Solved) → (room N win con).failed ≡ false → Passes cs
    → judge (bound K ∷ room N win con ∷ (cs ++ rest)) (unsolved win con) grant ≡ judge (bound K ∷ rest) (unsolved win con) grant
call_passed K N win con cs rest grant accepted passes =
    rw accepted
    (ap (bounded K win con)
    (judge-append cs rest (unsolved win con) grant ∙ judge-passes cs (unsolved win con) (judge rest (unsolved win con) grant) passes))

-- and those that may give FULL alone leave nothing, where it was not given
call_unless_full : (K N : ℕ) (win con : List ℕ) (cs rest : List Check) (grant : Solved) {P : Type 0} → (room N win con).failed ≡ false
    → Passes cs → FullOnly rest P
    → (code (judge (bound K ∷ room N win con ∷ (cs ++ rest)) (unsolved win con) grant).answer ≡ number_of Full → ⊥)
    → judge (bound K ∷ room N win con ∷ (cs ++ rest)) (unsolved win con) grant ≡ bounded K win con grant
call_unless_full K N win con cs rest grant accepted passes only spare =
    let passed = call_passed K N win con cs rest grant accepted passes in
    passed ∙ unless_full (bound K ∷ []) rest win con grant only (rw passed at spare)

pub parts_unless_full : (one two : List ℕ) (K N : ℕ) (win con : List ℕ) → Passes (pair_checks one two) → (room N win con).failed ≡ false
    → (code (parts one two K N win con).answer ≡ 11 → ⊥)
    → parts one two K N win con ≡ bounded K win con (solved_from K (joined_table one two) (pairs K (stated one) (stated two)) win con)
unfolding parts parts_checks
parts_unless_full one two K N win con p accepted spare =
    call_unless_full K N win con (pair_checks one two) (parts_stages one two K N)
    (solved_from K (joined_table one two) (pairs K (stated one) (stated two)) win con) accepted p (full-parts one two p K N) spare

pub solve_unless_full : (bytes : List ℕ) (K N : ℕ) (win con : List ℕ) → Passes (table_checks 0 bytes) → (room N win con).failed ≡ false
    → (code (solve bytes K N win con).answer ≡ 11 → ⊥)
    → solve bytes K N win con ≡ bounded K win con (solved_from K (stated bytes) (all_safe K (stated bytes).controllers) win con)
unfolding solve solve_checks
solve_unless_full bytes K N win con p accepted spare =
    let t = stated bytes in
    let X = all_safe K t.controllers in
    call_unless_full K N win con (table_checks 0 bytes) (stage_checks 0 K N t X) (solved_from K t X win con) accepted p
    (full-stage 0 K N t X (all_safe-first K t) (passes-good 0 bytes p).some-output) spare

-- of a joined table, which is good
pub joined_unless_full : (one two : List ℕ) (K N : ℕ) (win con : List ℕ) → Passes (pair_checks one two) → (room N win con).failed ≡ false
    → (code (solve (joined_bytes one two) K N win con).answer ≡ 11 → ⊥)
    → solve (joined_bytes one two) K N win con
    ≡ bounded K win con (solved_from K (joined_table one two) (all_safe K (joined_table one two).controllers) win con)
joined_unless_full one two K N win con p accepted spare =
    rw (records_back (joined (records_of one) (records_of two))) at
    (solve_unless_full (joined_bytes one two) K N win con (joined-passes one two p 0) accepted spare)

-- and whether full or not, 2, 11 and 12 are left to judge
solve-staged : (bytes : List ℕ) (K N : ℕ) (win con : List ℕ) → Passes (table_checks 0 bytes) → (room N win con).failed ≡ false
    → solve bytes K N win con
    ≡ judge (bound K ∷ stage_checks 0 K N (stated bytes) (all_safe K (stated bytes).controllers)) (unsolved win con)
    (solved_from K (stated bytes) (all_safe K (stated bytes).controllers) win con)
unfolding solve solve_checks
solve-staged bytes K N win con p accepted =
    let t = stated bytes in
    let X = all_safe K t.controllers in
    call_passed K N win con (table_checks 0 bytes) (stage_checks 0 K N t X) (solved_from K t X win con) accepted p

pub joined-staged : (one two : List ℕ) (K N : ℕ) (win con : List ℕ) → Passes (pair_checks one two) → (room N win con).failed ≡ false
    → solve (joined_bytes one two) K N win con
    ≡ judge (bound K ∷ stage_checks 0 K N (joined_table one two) (all_safe K (joined_table one two).controllers)) (unsolved win con)
    (solved_from K (joined_table one two) (all_safe K (joined_table one two).controllers) win con)
joined-staged one two K N win con p accepted =
    rw (records_back (joined (records_of one) (records_of two))) at
    (solve-staged (joined_bytes one two) K N win con (joined-passes one two p 0) accepted)
