-- The answer of a function that fills a list says whether the list that it comes to has room: by the test that the answer is. Where it has,
-- the words hold that list, and are no more than the room. Assumes nothing.
use mathlib.Core.Path.{◌≡◌, sym, ap, ◌∙◌}
use mathlib.Core.Bool.{false≢true}
use mathlib.Core.List.{List}
use Prim.Native.Nat.{ℕ, ◌≤◌, ◌<◌}
use native.Mathlib.Decide.{dec_lt}
use native.Mathlib.Omega.{arith}
use borrow.Author.Tests.{lt-ltb, le-ltb}
use lib.ListN.{length}
use Rattle.std.specs.Prelude.{Result, Ok, Err, IsOk, IsErr, is_ok, is_err}
use Rattle.meaning.specs.Counting.{Position}
use Rattle.lists.specs.Members.{positions}
use Rattle.lists.proofs.Members.{positions-length}
use Rattle.tops.specs.Held.{found_of, Holds}
use Rattle.tops.specs.declared.Full.{Full}

-- what the answer says of the list, and of the words
pub found-full : (room : ℕ) (l : List Position) → room < length l → found_of room l ≡ Err (record {})
unfolding found_of
found-full room l h = rw (lt-ltb room (length l) h)

pub found_fits : (room : ℕ) (l : List Position) → length l ≤ room → found_of room l ≡ Ok tt
unfolding found_of
found_fits room l h = rw (le-ltb room (length l) h)

module _ {room : ℕ} {l : List Position} (out : List ℕ) where
  pub holds-full : {found : Result (Unit {0}) Full} → IsErr found → room < length l → Holds room l out found
  holds-full {found = Ok u} e h = absurd (false≢true e)
  holds-full {found = Err full} e h = record { answer = sym (found-full room l h); held = λ k. absurd (omega arith) }

  pub holds_fits : length out ≤ room → positions out ≡ l → Holds room l out (Ok tt)
  holds_fits h e =
      let s : length l ≡ length out = sym (ap length e) ∙ positions-length out in
      record { answer = sym (found_fits room l (rw s h)); held = λ _. e }

-- and what the list is by the answer
module _ {room : ℕ} {l : List Position} {out : List ℕ} {found : Result (Unit {0}) Full} (h : Holds room l out found) where
  pub full-held : IsErr found → room < length l
  full-held e = go (dec_lt room (length l))
    where
      go : Dec (room < length l) → room < length l
      go (yes b) = b
      go (no b) = absurd (false≢true (ap is_err (sym (h.answer ∙ found_fits room l (omega arith))) ∙ e))

  pub fits-held : IsOk found → (length out ≤ room) × (positions out ≡ l)
  fits-held e = go (dec_lt room (length l))
    where
      go : Dec (room < length l) → (length out ≤ room) × (positions out ≡ l)
      go (yes b) = absurd (false≢true (ap is_ok (sym (h.answer ∙ found-full room l b)) ∙ e))
      go (no b) = let s = h.held (omega arith) in (omega (arith, ap length s, positions-length out), s)
