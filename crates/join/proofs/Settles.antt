-- A stage before the last, by the rounds of its table alone. FULL is told as that table's fault, so by what is told the rounds are full or
-- have ended; and where they have, the stage is passed: NOTHING is never given, since a position wins wherever there is an output. Assumes
-- nothing.
use mathlib.Core.Path.{◌≡◌, refl, sym, ◌∙◌}
use mathlib.Core.Bool.{true}
use mathlib.Core.List.{List}
use Prim.Native.Nat.{ℕ, ◌<◌}
use native.Mathlib.Omega.{arith}
use lib.ListN.{length}
use borrow.Author.Tests.{ne_eqb}
use Rattle.std.specs.Prelude.{Result, Ok, Err}
use Rattle.std.specs.Result.{MatchResult, IsErrAnd}
use Rattle.meaning.specs.declared.Fault.{Fault}
use Rattle.meaning.specs.declared.Refusal.TheVariants as R
use Rattle.meaning.specs.Table.{Table}
use Rattle.meaning.specs.Rounds.{Set, FirstSet}
use Rattle.meaning.specs.Written.{winners}
use Rattle.meaning.specs.Answers.{fault_of}
use Rattle.meaning.specs.Checks.{Check, check, judge, stage_checks}
use Rattle.meaning.proofs.Maximal.{some_winner}
use Rattle.tops.specs.declared.Full.{Full}
use Rattle.rounds.specs.Rounds.{Settles}
use Rattle.rounds.proofs.Settles.{after_settled}

-- FULL told as the fault of a table: where it is told the rounds are full, and else they are those that are told
module _ (Told : Full → Fault → Type 0) where
  pub told-full : (which : ℕ) → ((full : Full) (fault : Fault) → Told full fault → fault ≡ fault_of (check R.Full 0 which true))
      → (settled : Result ℕ Full) (told : Result ℕ Fault)
      → MatchResult settled (λ r. told ≡ Ok r) (λ full. IsErrAnd told (Told full)) → {fault : Fault} → told ≡ Err fault
      → (full : Full) × (settled ≡ Err full) × (fault ≡ fault_of (check R.Full 0 which true))
  told-full which same (Ok r) told ends {fault} is = let clash : Ok r ≡ Err fault = sym ends ∙ is in absurd cc
  told-full which same (Err full) told stops {fault} is = (full, refl, same full fault (rw is at stops))

  pub told-ended : (settled : Result ℕ Full) (told : Result ℕ Fault)
      → MatchResult settled (λ r. told ≡ Ok r) (λ full. IsErrAnd told (Told full)) → {r : ℕ} → told ≡ Ok r → settled ≡ Ok r
  told-ended (Ok s) told ends {r} is = let same : ◌≡◌ {A = Result ℕ Fault} (Ok s) (Ok r) = sym ends ∙ is in cc
  told-ended (Err full) told stops is = absurd (rw is at stops)

-- a stage before the last is passed
module _ {K : ℕ} {t : Table} {X : Set} {N : ℕ} {out : List ℕ} {settled : Result ℕ Full} (h : Settles K t X N out settled) where
  pub stage_passed : {r : ℕ} → settled ≡ Ok r → FirstSet K t X → 0 < t.outputs
      → {A : Type 0} (which : ℕ) (refuse : Check → A) (grant : A) → judge (stage_checks which K N t X) refuse grant ≡ grant
  unfolding stage_checks
  stage_passed after first output which refuse grant =
      rw ((after_settled h after).0, ne_eqb (length (winners K t X)) 0 (λ e. omega (arith, some_winner K t X first output)))
