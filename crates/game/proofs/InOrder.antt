-- A call that solves, by the order of its checks, whichever call it is: 2 and 3 before any others, then those whose first failure is passed
-- on as a fault, as 4 to 10 of a table are, and 11 and 12 of a stage by how its rounds settled. Each law takes what the code has found to
-- what the definition judges next, so that the outcome is put together check by check. Assumes nothing.
use mathlib.Core.Path.{◌≡◌, sym, ap, ◌∙◌}
use mathlib.Core.Bool.{true, false}
use mathlib.Core.List.{List, ◌∷◌, ◌++◌}
use Prim.Native.Nat.{ℕ, ◌≤◌, ◌<◌}
use native.Mathlib.Omega.{arith}
use borrow.Author.Tests.{lt-ltb, le-ltb}
use Rattle.std.specs.Prelude.{Result, Ok, Err}
use Rattle.std.specs.Result.{IsErrAnd}
use Rattle.meaning.specs.declared.Answer.{Answer}
use Rattle.meaning.specs.declared.Fault.{Fault}
use Rattle.meaning.specs.declared.Refusal.TheVariants.{Bound, Room, Full as RoundsFull}
use Rattle.meaning.specs.Records.{records_of, output, input}
use Rattle.meaning.specs.Table.{Table, table_of, Small}
use Rattle.meaning.specs.Rounds.{Set, FirstSet}
use Rattle.meaning.specs.Answers.{refused, Solved, unsolved, solved_from, solved, told, fault_of}
use Rattle.meaning.specs.Checks.{Check, check, judge, bound, room, table_checks, stage_checks, Passes}
use Rattle.meaning.proofs.Records.{letters-top}
use Rattle.meaning.proofs.Checks.{judge-append, judge-passes}
use Rattle.meaning.proofs.Sound.{passes_sound, passes-good, passes-small}
use Rattle.table.proofs.Judged.{told as told_of, by_reading, judge-told}
use Rattle.lists.specs.Members.{positions}
use Rattle.tops.specs.declared.Full.{Full}
use Rattle.rounds.specs.Rounds.{Settles}
use Rattle.rounds.proofs.Settles.{full_settled, after_settled}
use Rattle.writing.specs.Playable.{Playable}
use Rattle.game.specs.Finished.{finished, Roomy, Fit}
use Rattle.game.proofs.Listed.{stage-finished, listed_playable, listed-roomy}

-- checks 2 and 3, before any others
module _ (K N : ℕ) (win con : List ℕ) (cs : List Check) (grant : Solved) where
  abbrev pub opened : Solved
  opened = judge (bound K ∷ room N win con ∷ cs) (unsolved win con) grant

  pub bound-refused : 7 < K → {fault : Fault} → fault ≡ fault_of (check Bound 0 0 true) → solved (told (Err fault)) win con ≡ opened
  unfolding bound unsolved
  bound-refused h e = rw (e, lt-ltb 7 K h)

  pub room-refused : K ≤ 7 → (room N win con).failed ≡ true → {fault : Fault} → fault ≡ fault_of (check Room 0 0 true)
      → solved (told (Err fault)) win con ≡ opened
  unfolding bound room unsolved
  room-refused h p e = rw (e, le-ltb 7 K h, p)

  pub opened-on : K ≤ 7 → (room N win con).failed ≡ false → judge cs (unsolved win con) grant ≡ opened
  unfolding bound
  opened-on h p = rw (le-ltb 7 K h, p)

-- a fault that is passed on is told as the refusal of its check
pub told-passed : (result : Result Answer Fault) (fault : Fault) → IsErrAnd result (λ f. f ≡ fault)
    → told result ≡ refused (check fault.refusal fault.place fault.which true)
told-passed (Ok _) fault e = absurd e
told-passed (Err _) fault e = ap (λ (f : Fault). refused (check f.refusal f.place f.which true)) e

-- checks whose first failure is passed on as a fault, before any others
module _ {B : Type 0} (cs : List Check) (granted : B) (win con : List ℕ) (ds : List Check) (grant : Solved) where
  abbrev pub read : Solved
  read = judge (cs ++ ds) (unsolved win con) grant

  pub fault-refused : {fault : Fault} → told_of cs granted ≡ Err fault → (result : Result Answer Fault) → IsErrAnd result (λ f. f ≡ fault)
      → solved (told result) win con ≡ read
  unfolding unsolved
  fault-refused f result e =
      ap (λ (answer : Answer). solved answer win con) (told-passed result _ e)
      ∙ sym (judge-append cs ds (unsolved win con) grant
      ∙ judge-told cs granted (unsolved win con) (judge ds (unsolved win con) grant)
      ∙ ap (by_reading (λ (f : Fault). unsolved win con (check f.refusal f.place f.which true)) (λ _. judge ds (unsolved win con) grant)) f)

  pub read-on : Passes cs → judge ds (unsolved win con) grant ≡ read
  read-on p = sym (judge-append cs ds (unsolved win con) grant ∙ judge-passes cs (unsolved win con) (judge ds (unsolved win con) grant) p)

-- the table of bytes that pass 4 to 10 may be solved
pub passes_fit : (which : ℕ) (bytes : List ℕ) → Passes (table_checks which bytes) → Fit (table_of (records_of bytes))
unfolding table_of
passes_fit which bytes p =
    let within = (passes_sound which bytes p).within in
    record {
      small = passes-small which bytes p;
      good = passes-good which bytes p;
      outputs = letters-top output (records_of bytes) within;
      inputs = letters-top input (records_of bytes) within;
    }

-- checks 11 and 12 of a stage
module _ {K : ℕ} {t : Table} {X : Set} {N : ℕ} {out : List ℕ} {settled : Result ℕ Full} (settles : Settles K t X N out settled) where
  -- FULL, whatever a call makes of it
  pub stage-full : {A : Type 0} (which : ℕ) (refuse : Check → A) (grant : A) → {f : Full} → settled ≡ Err f
      → judge (stage_checks which K N t X) refuse grant ≡ refuse (check RoundsFull 0 which true)
  unfolding stage_checks
  stage-full which refuse grant f = rw (full_settled settles f)

  module _ {r : ℕ} (e : settled ≡ Ok r) (first : FirstSet K t X) where
    -- the list of winners is finished, and that is what is left to judge
    pub settled_finished : Small t → (which : ℕ) (win con : List ℕ)
        → finished K t (positions out) r win con ≡ judge (stage_checks which K N t X) (unsolved win con) (solved_from K t X win con)
    settled_finished small which win con =
        let (roomy, rounds, _, list, _) = after_settled settles e in
        rw (list, rounds) (stage-finished K t X small first win con which N roomy)

    module _ (fit : Fit t) where
      -- it may be finished
      pub settled_playable : K ≤ 7 → N ≤ 256 → Playable K t (positions out)
      settled_playable k h =
          let (_, _, number, list, few) = after_settled settles e in
          rw list (listed_playable K t X fit.small first fit.good k fit.outputs fit.inputs (omega arith))

      pub settled_roomy : (win con : List ℕ) → (room N win con).failed ≡ false → Roomy (positions out) win con
      settled_roomy win con p =
          let (_, _, number, list, few) = after_settled settles e in
          rw list (listed-roomy K t X fit.small first win con N p (omega arith))
