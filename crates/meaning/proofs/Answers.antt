-- Demand 1 for the three calls, from what holds of every list of checks (Checks.antt): each reason is given exactly if its check is the
-- first to fail, codes 0 and 1 exactly if none fails and the start position is covered or not, and a refusal leaves every buffer. Then
-- what the checks of a call that solves say part by part where all pass.
use mathlib.Core.Path.{◌≡◌, refl, sym, ap, ◌∙◌}
use mathlib.Core.Logic.{◌↔◌}
use mathlib.Core.Bool.{Bool, true, false, cond}
use mathlib.Core.List.{List, [], ◌∷◌, ◌++◌}
use Prim.Native.Nat.{ℕ, ◌≤◌, ◌<◌}
use native.Mathlib.Omega.{arith}
use lib.ListN.{length}
use lib.Dec.{ltb}
use borrow.Author.Tests.{ltb-true, ltb-false, lt-ltb, le-ltb}
use Rattle.meaning.specs.declared.Verdict.{Verdict}
use Rattle.meaning.specs.declared.Verdict.TheVariants.{Realizable, Unrealizable, Refused}
use Rattle.meaning.specs.declared.Refusal.{Refusal}
use Rattle.meaning.specs.declared.Refusal.TheVariants.{Full}
use Rattle.meaning.specs.Lists.{written}
use Rattle.meaning.specs.Table.{Table, stated}
use Rattle.meaning.specs.Rounds.{Set, all_safe, maximal_members}
use Rattle.meaning.specs.Written.{winners, start_state, row_bytes, controller_rows}
use Rattle.meaning.specs.Join.{pairs, joined_table, joined_bytes}
use Rattle.meaning.specs.Answers.{refused, Solved, unsolved, solved_from, solve, join, parts, unjoined, joined_into, answered}
use Rattle.meaning.specs.Checks.{Check, judge, bound, room, table_checks, stage_checks, solve_checks, parts_stages, check}
use Rattle.meaning.specs.Checks.{pair_checks, join_checks, parts_checks, Passes}
use Rattle.meaning.proofs.Tests.{clash}
use Rattle.meaning.proofs.Checks.{passes_at, passes-left, passes-right, Judged, judged, refusal-leaves}
use Rattle.meaning.proofs.Restated.{start_wins}

-- the verdict where no check fails
pub cond_realizable : (b : Bool) (s start : ℕ) → (cond b (Realizable s) Unrealizable ≡ Realizable start) ↔ ((b ≡ true) × (start ≡ s))
cond_realizable true s start = (λ e. (refl, cc), λ p. ap Realizable (sym p.1))
cond_realizable false s start = (λ e. (cc, cc), λ p. absurd (clash false p.0 refl))

pub cond_unrealizable : (b : Bool) (s : ℕ) → (cond b (Realizable s) Unrealizable ≡ Unrealizable) ↔ (b ≡ false)
cond_unrealizable true s = (λ e. cc, λ p. absurd (clash true refl p))
cond_unrealizable false s = (λ e. refl, λ p. refl)

pub cond-granted : (b : Bool) (s : ℕ) (r : Refusal) → cond b (Realizable s) Unrealizable ≡ Refused r → ⊥
cond-granted true s r e = let z : ◌≡◌ {A = ℕ} 0 1 = cc in omega arith
cond-granted false s r e = let z : ◌≡◌ {A = ℕ} 0 1 = cc in omega arith

abbrev pub verdict_of : Solved → Verdict
verdict_of s = s.answer.verdict

-- Demand 1 of a call that solves table t from the first set X, with these buffers lent
pub record Answered (cs : List Check) (K : ℕ) (t : Table) (X : Set) (win con : List ℕ) (s : Solved) : Type 0 where
  pub judged : Judged verdict_of cs (unsolved win con) (solved_from K t X win con) s
  -- codes 0 and 1: "the start position wins", "it doesn't"
  pub realizable_exactly : (start : ℕ)
      → (verdict_of s ≡ Realizable start) ↔ (Passes cs × (start ≡ start_state K t (winners K t X)) × (start < length (winners K t X)))
  pub unrealizable_exactly : (verdict_of s ≡ Unrealizable) ↔ (Passes cs × (length (winners K t X) ≤ start_state K t (winners K t X)))
  -- "write no byte of a result buffer"
  pub refusal-leaves : (r : Refusal) → verdict_of s ≡ Refused r → (s.winners_after ≡ win) × (s.controller_after ≡ con)
  -- "controller buffer untouched"
  pub unrealizable_leaves : verdict_of s ≡ Unrealizable → s.controller_after ≡ con

stage-answered : (cs : List Check) (K : ℕ) (t : Table) (X : Set) (win con : List ℕ)
    → Answered cs K t X win con (judge cs (unsolved win con) (solved_from K t X win con))
unfolding solved_from answered controller_rows unsolved refused
stage-answered cs K t X win con =
    let ws = winners K t X in
    let s = start_state K t ws in
    let won = start_wins s ws in
    let j = judged verdict_of cs (unsolved win con) (solved_from K t X win con) (λ c. refl) (cond-granted won s) in
    let exact = j.granted-exactly Unrealizable (λ r. cond-granted false 0 r) in
    record {
      judged = j;
      realizable_exactly = λ start.
          let won-exact = j.granted-exactly (Realizable start) (λ r. cond-granted true start r) in
          let value = cond_realizable won s start in (
            λ e.
                let p = won-exact.0 e in
                let q = value.0 p.1 in
                (p.0, q.1, rw q.1 (ltb-true s (length ws) q.0)),
            λ p. won-exact.1 (p.0, value.1 (lt-ltb s (length ws) (rw p.1 at p.2), p.1)),
          );
      unrealizable_exactly =
          let value = cond_unrealizable won s in (
            λ e. let p = exact.0 e in (p.0, ltb-false s (length ws) (value.0 p.1)),
            λ p. exact.1 (p.0, value.1 (le-ltb s (length ws) p.1)),
          );
      refusal-leaves = λ r e.
          (refusal-leaves j (λ o. o.winners_after) win (λ c. refl) r e, refusal-leaves j (λ o. o.controller_after) con (λ c. refl) r e);
      unrealizable_leaves = λ e.
          let p = exact.0 e in
          ap (λ (o : Solved). o.controller_after) (j.grants p.0)
          ∙ ap (λ (b : Bool). cond b (written (row_bytes (controller_rows K t X)) con) con) ((cond_unrealizable won s).0 p.1);
    }

-- solve
pub solve-answered : (bytes : List ℕ) (K N : ℕ) (win con : List ℕ)
    → Answered (solve_checks bytes K N win con) K (stated bytes) (all_safe K (stated bytes).controllers) win con
    (solve bytes K N win con)
unfolding solve
solve-answered bytes K N win con =
    let t = stated bytes in
    stage-answered (solve_checks bytes K N win con) K t (all_safe K t.controllers) win con

-- by parts
pub parts-answered : (one two : List ℕ) (K N : ℕ) (win con : List ℕ)
    → Answered (parts_checks one two K N win con) K (joined_table one two)
    (pairs K (stated one) (stated two)) win con (parts one two K N win con)
unfolding parts
parts-answered one two K N win con =
    stage-answered (parts_checks one two K N win con) K (joined_table one two)
    (pairs K (stated one) (stated two)) win con

-- join
pub join-judged : (one two out : List ℕ)
    → Judged (λ s. s.answer.verdict) (join_checks one two out) (unjoined out) (joined_into (joined_bytes one two) out)
    (join one two out)
unfolding join refused
join-judged one two out =
    judged (λ s. s.answer.verdict) (join_checks one two out) (unjoined out)
    (joined_into (joined_bytes one two) out) (λ c. refl) (λ r. cond-granted true 0 r)

pub join_realizable_exactly : (one two out : List ℕ) → ((join one two out).answer.verdict ≡ Realizable 0) ↔ Passes (join_checks one two out)
join_realizable_exactly one two out =
    let exact = (join-judged one two out).granted-exactly (Realizable 0) (λ r. cond-granted true 0 r) in
    (λ e. (exact.0 e).0, λ p. exact.1 (p, refl))

-- What a call's checks say part by part where all pass
pub record SolvePasses (bytes : List ℕ) (K N : ℕ) (win con : List ℕ) : Type 0 where
  pub in_bound : (bound K).failed ≡ false
  pub roomy : (room N win con).failed ≡ false
  pub table : Passes (table_checks 0 bytes)
  pub stage : Passes (stage_checks 0 K N (stated bytes) (all_safe K (stated bytes).controllers))

pub solve-passes : (bytes : List ℕ) (K N : ℕ) (win con : List ℕ) → Passes (solve_checks bytes K N win con) → SolvePasses bytes K N win con
unfolding solve_checks
solve-passes bytes K N win con p =
    let t = stated bytes in
    let stage = stage_checks 0 K N t (all_safe K t.controllers) in
    let cs = solve_checks bytes K N win con in
    let rest = passes-right (bound K ∷ room N win con ∷ []) (table_checks 0 bytes ++ stage) p in
    record {
      in_bound = passes_at cs p 0 (bound K) (omega arith);
      roomy = passes_at cs p 1 (bound K) (omega arith);
      table = passes-left (table_checks 0 bytes) stage rest;
      stage = passes-right (table_checks 0 bytes) stage rest;
    }

pub record PartsPasses (one two : List ℕ) (K N : ℕ) (win con : List ℕ) : Type 0 where
  pub in_bound : (bound K).failed ≡ false
  pub roomy : (room N win con).failed ≡ false
  pub pair : Passes (pair_checks one two)
  pub first-stage : Passes (stage_checks 1 K N (stated one) (all_safe K (stated one).controllers))
  pub second-stage : Passes (stage_checks 2 K N (stated two) (all_safe K (stated two).controllers))
  pub last-stage : Passes
      (stage_checks 0 K N (joined_table one two) (pairs K (stated one) (stated two)))

pub parts-passes : (one two : List ℕ) (K N : ℕ) (win con : List ℕ) → Passes (parts_checks one two K N win con)
    → PartsPasses one two K N win con
unfolding parts_checks parts_stages
parts-passes one two K N win con p =
    let whole = joined_table one two in
    let X = pairs K (stated one) (stated two) in
    let cs = parts_checks one two K N win con in
    let crowded = check Full 0 0 (ltb N (length (maximal_members K whole.controllers X))) in
    let stage = stage_checks 1 K N (stated one) (all_safe K (stated one).controllers) in
    let next = stage_checks 2 K N (stated two) (all_safe K (stated two).controllers) in
    let last = stage_checks 0 K N whole X in
    let q = passes-right (bound K ∷ room N win con ∷ []) (pair_checks one two ++ parts_stages one two K N) p in
    let stages = passes-right (pair_checks one two) (parts_stages one two K N) q in
    let alone = passes-left (stage ++ next) (crowded ∷ last) stages in
    record {
      in_bound = passes_at cs p 0 (bound K) (omega arith);
      roomy = passes_at cs p 1 (bound K) (omega arith);
      pair = passes-left (pair_checks one two) (parts_stages one two K N) q;
      first-stage = passes-left stage next alone;
      second-stage = passes-right stage next alone;
      last-stage = passes-right (crowded ∷ []) last (passes-right (stage ++ next) (crowded ∷ last) stages);
    }
