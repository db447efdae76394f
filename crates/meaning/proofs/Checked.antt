-- What a caller of `check` learns: no second answer fits, each reason is given exactly where its check is the first to fail, and 0 and 1
-- exactly where none fails and following the rows keeps every run to K, or doesn't. From what holds of every list of checks; two answers
-- that fit agree on the verdict, since each says exactly the same of it.
use mathlib.Core.Path.{◌≡◌, refl, sym, ap, ◌∙◌}
use mathlib.Core.Logic.Iff
use mathlib.Core.Logic.{◌⊎◌, inl, inr}
use mathlib.Core.Bool.{Bool, true, false, cond}
use mathlib.Core.List.{List}
use Prim.Native.Nat.{ℕ}
use Rattle.meaning.specs.declared.Answer.{Answer}
use Rattle.meaning.specs.declared.Verdict.{Verdict}
use Rattle.meaning.specs.declared.Verdict.TheVariants.{Realizable, Unrealizable}
use Rattle.meaning.specs.Table.{stated}
use Rattle.meaning.specs.Counting.{safe, start_position}
use Rattle.meaning.specs.Checks.{Check, Passes}
use Rattle.meaning.specs.Answers.{start_of, refused}
use Rattle.meaning.specs.Controller.{check_checks, verdict_on, Found, CheckCall}
use Rattle.meaning.specs.Calls.{code, Unrefused}
use Rattle.meaning.specs.Demands.{Refuses, Judges}
use Rattle.meaning.proofs.Tests.{clash, refuted, same_test}
use Rattle.meaning.proofs.Checks.{Failure, first_failure, judge-fails, judge-passes, Judged, judged}
use Rattle.meaning.proofs.Codes.{code-refused, code_realizable, code_unrealizable}
use Rattle.meaning.proofs.Realizes.{realizes_safe}
use Rattle.meaning.proofs.Answers.{cond_realizable, cond_unrealizable, cond-granted}

abbrev verdict_in : Answer → Verdict
verdict_in a = a.verdict

module _ {bytes : List ℕ} {K : ℕ} {rows : List ℕ} where
  -- no second answer fits
  pub check_once : (call again : CheckCall bytes K rows) → call.answer ≡ again.answer
  check_once call again = go (first_failure cs)
    where
      cs : List Check
      cs = check_checks bytes K rows

      one : Found bytes K rows call.answer
      one = call.promise

      two : Found bytes K rows again.answer
      two = again.promise

      go : Passes cs ⊎ Failure cs → call.answer ≡ again.answer
      go (inl p) =
          let same : one.right ≡ two.right =
          same_test one.right two.right (λ r. (two.exactly p).1 ((one.exactly p).0 r))
          (λ r. (one.exactly p).1 ((two.exactly p).0 r)) in
          one.answers ∙ judge-passes cs refused (verdict_on one.right) p ∙ ap verdict_on same
          ∙ sym (two.answers ∙ judge-passes cs refused (verdict_on two.right) p)
      go (inr f) =
          one.answers ∙ judge-fails cs refused (verdict_on one.right) f.0 f.1 f.2
          ∙ sym (two.answers ∙ judge-fails cs refused (verdict_on two.right) f.0 f.1 f.2)

  module _ (call : CheckCall bytes K rows) where
    check-told : Judged verdict_in (check_checks bytes K rows) refused (verdict_on call.promise.right) call.answer
    unfolding refused
    check-told =
        rw call.promise.answers
        (judged verdict_in (check_checks bytes K rows) refused (verdict_on call.promise.right) (λ c. refl)
        (cond-granted call.promise.right 0))

    -- 1; there are no result buffers
    pub check-refuses : Refuses (check_checks bytes K rows) call.answer (Unit {0})
    check-refuses =
        record {
          in_order = λ r. Iff.trans (code-refused _ r) (check-told.refused-exactly r);
          by_the_first = check-told.refuses;
          writes_nothing = λ r e. tt;
        }

    pub check_judges : Judges bytes K rows call.answer
    check_judges =
        let right = call.promise.right in
        let exactly = call.promise.exactly in
        let zero-exact = check-told.granted-exactly (Realizable 0) (λ r. cond-granted true 0 r) in
        let one-exact = check-told.granted-exactly Unrealizable (λ r. cond-granted false 0 r) in
        record {
          right-exactly = (
            λ e.
                let s = (code_realizable call.answer.verdict).0 e in
                let p = (check-told.granted-exactly (Realizable s.0) (λ r. cond-granted true s.0 r)).0 s.1 in
                (p.0, (exactly p.0).0 ((cond_realizable right 0 s.0).0 p.1).0),
            λ p. (code_realizable call.answer.verdict).1
                (0, zero-exact.1 (p.0, (cond_realizable right 0 0).1 ((exactly p.0).1 p.1, refl))),
          );
          wrong_exactly = (
            λ e.
                let p = one-exact.0 ((code_unrealizable call.answer.verdict).0 e) in
                (p.0, λ r. clash right ((exactly p.0).1 r) ((cond_unrealizable right 0).0 p.1)),
            λ p. (code_unrealizable call.answer.verdict).1
                (one-exact.1 (p.0, (cond_unrealizable right 0).1 (refuted right (λ r. p.1 ((exactly p.0).0 r))))),
          );
          others-zero = λ u. zeros (first_failure (check_checks bytes K rows)) u;
        }
      where
        start-zero : (b : Bool) → start_of (cond b (Realizable 0) Unrealizable) ≡ 0
        start-zero true = refl
        start-zero false = refl

        zeros : Passes (check_checks bytes K rows) ⊎ Failure (check_checks bytes K rows) → Unrefused call.answer
            → (call.answer.place ≡ 0) × (call.answer.which ≡ 0) × (call.answer.rounds ≡ 0) × (call.answer.winners ≡ 0)
            × (start_of call.answer.verdict ≡ 0)
        zeros (inl p) u = rw (check-told.grants p) (refl, refl, refl, refl, start-zero call.promise.right)
        zeros (inr f) u =
            absurd (u f.1.refusal ((code-refused _ f.1.refusal).1
            ((check-told.refused-exactly f.1.refusal).1 (f.0, f.1, f.2, refl))))

    -- where the start position is not safe (R-2), no rows are right
    pub unsafe_check : Passes (check_checks bytes K rows) → safe K (start_position K (stated bytes)) ≡ false → code call.answer ≡ 1
    unsafe_check p unsafe = check_judges.wrong_exactly.1 (p, λ r. clash _ (realizes_safe K (stated bytes) _ r) unsafe)
