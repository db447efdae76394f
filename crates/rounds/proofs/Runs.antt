-- A run over the letters: the words hold the list of the letters so far, and each list on the way kept to the room (`Runs`). One letter
-- more keeps that up, or its list is past the room and so is the widest of them all. Assumes nothing.
use mathlib.Core.Path.{◌≡◌, sym, ap, ◌∙◌}
use mathlib.Core.Bool.{false≢true}
use mathlib.Core.List.{List}
use Prim.Native.Nat.{ℕ, suc, ◌≤◌, ◌<◌, max}
use native.Mathlib.Decide.{dec_lt}
use native.Mathlib.Omega.{arith}
use borrow.Author.Tests.{lt-ltb, le-ltb}
use lib.ListN.{length}
use Rattle.std.specs.Prelude.{Result, Ok, Err, IsOk, IsErr, is_ok, is_err}
use Rattle.meaning.specs.Lists.{largest}
use Rattle.meaning.specs.Counting.{Position}
use Rattle.meaning.proofs.Tests.{largest-at}
use Rattle.lists.specs.Members.{positions}
use Rattle.tops.specs.Held.{Holds}
use Rattle.tops.specs.declared.Full.{Full}
use Rattle.lists.proofs.Members.{positions-length}
use Rattle.tops.proofs.Held.{full-held, fits-held}
use Rattle.rounds.specs.Rounds.{HoldsLast}

-- what the answer of a run says of the widest of its lists, and of the words
module _ {room widest : ℕ} {last : List Position} {out : List ℕ} where
  pub last-full : {found : Result (Unit {0}) Full} → IsErr found → room < widest → HoldsLast room widest last out found
  last-full {found = Ok _} e h = absurd (false≢true e)
  last-full {found = Err _} e h = record { answer = rw (lt-ltb room widest h); held = λ k. absurd (omega arith) }

  pub last_fits : widest ≤ room → positions out ≡ last → HoldsLast room widest last out (Ok tt)
  last_fits h e = record { answer = rw (le-ltb room widest h); held = λ _. e }

  module _ {found : Result (Unit {0}) Full} (h : HoldsLast room widest last out found) where
    pub full-last : IsErr found → room < widest
    full-last e = go (dec_lt room widest)
      where
        go : Dec (room < widest) → room < widest
        go (yes b) = b
        go (no b) = absurd (false≢true (ap is_err (sym (rw (le-ltb room widest (omega arith)) at h.answer)) ∙ e))

    pub fits-last : IsOk found → (widest ≤ room) × (positions out ≡ last)
    fits-last e = go (dec_lt room widest)
      where
        go : Dec (room < widest) → (widest ≤ room) × (positions out ≡ last)
        go (yes b) = absurd (false≢true (ap is_ok (sym (rw (lt-ltb room widest b) at h.answer)) ∙ e))
        go (no b) = (omega arith, h.held (omega arith))

    -- more lists before these, all within the room
    pub last-after : {wide : ℕ} → wide ≤ room → HoldsLast room (max wide widest) last out found
    last-after {wide} k = go (dec_lt room widest)
      where
        go : Dec (room < widest) → HoldsLast room (max wide widest) last out found
        go (yes b) =
            record {
              answer = rw (lt-ltb room (max wide widest) (omega arith)) (rw (lt-ltb room widest b) at h.answer);
              held = λ l. absurd (omega arith);
            }
        go (no b) =
            record {
              answer = rw (le-ltb room (max wide widest) (omega arith)) (rw (le-ltb room widest (omega arith)) at h.answer);
              held = λ l. h.held (omega arith);
            }

-- the words hold list i, within the room as all lists before it
pub record Runs (room : ℕ) (lists : ℕ → List Position) (i : ℕ) (out : List ℕ) : Type 0 where
  pub holds : positions out ≡ lists i
  pub roomy : largest (suc i) (λ j. length (lists j)) ≤ room

module _ {room : ℕ} (lists : ℕ → List Position) where
  -- no letter yet
  pub runs_none : {out : List ℕ} → length (lists 0) ≤ room → positions out ≡ lists 0 → Runs room lists 0 out
  runs_none h e = record { holds = e; roomy = omega arith }

  module _ {i : ℕ} {out : List ℕ} (so_far : Runs room lists i out) where
    -- the list so far has room
    pub runs_few : length out ≤ room
    runs_few =
        let all = largest-at (suc i) (λ j. length (lists j)) i (omega arith) in
        omega (arith, positions-length out, ap length so_far.holds, all, so_far.roomy)

    -- one letter more
    pub runs_more : {next : List ℕ} {found : Result (Unit {0}) Full} → Holds room (lists (suc i)) next found → IsOk found
        → Runs room lists (suc i) next
    runs_more {next} h e =
        let held = fits-held h e in
        record { holds = held.1; roomy = omega (arith, held.0, so_far.roomy, ap length held.1, positions-length next) }

    -- all letters
    pub runs_whole : HoldsLast room (largest (suc i) (λ j. length (lists j))) (lists i) out (Ok tt)
    runs_whole = last_fits so_far.roomy so_far.holds

  -- a list past the room
  pub runs_full : {i last : ℕ} {next out : List ℕ} {found answer : Result (Unit {0}) Full} → Holds room (lists i) next found → IsErr found
      → IsErr answer → i ≤ last → HoldsLast room (largest (suc last) (λ j. length (lists j))) (lists last) out answer
  runs_full {i} {last} h e refused k =
      last-full refused (omega (arith, full-held h e, largest-at (suc last) (λ j. length (lists j)) i (omega arith)))
