-- The loop of rounds, over the first set that a first list covers: while it runs, the list is that of W(r) and no round before was the last
-- (`Running`). A round with a list past the room is FULL; one whose list differs is a round more, of which there are fewer than
-- (K + 2) ^ n; and where the list repeats, the rounds and the winners are there. Last, what the answer tells a caller. Assumes nothing.
use mathlib.Core.Path.{◌≡◌, refl, sym, ap, ◌∙◌}
use mathlib.Core.Bool.{Bool, true, false, true≢false, false≢true}
use mathlib.Core.List.{List, map}
use Prim.Native.Nat.{ℕ, zero, suc, ◌+◌, ◌≤◌, ◌<◌, ◌^◌}
use native.Mathlib.Decide.{dec_lt}
use native.Mathlib.Omega.{arith}
use lib.ListN.{length, length-map}
use Rattle.std.specs.Prelude.{Result, Ok, Err, IsErr, is_ok, is_err}
use Rattle.meaning.specs.Table.{Table}
use Rattle.meaning.specs.Counting.{Position}
use Rattle.meaning.specs.Rounds.{Set, rounds, full}
use Rattle.meaning.specs.Written.{position_bytes, winners}
use Rattle.meaning.proofs.Tests.{largest-at, largest-passes}
use Rattle.meaning.proofs.Buffers.{winners-number}
use Rattle.lists.specs.Members.{positions}
use Rattle.tops.specs.declared.Full.{Full}
use Rattle.lists.proofs.Members.{positions-length}
use Rattle.sets.specs.Engine.{list_a, list_b, next_list}
use Rattle.sets.proofs.Engine.{Running, running_start, running_next, running_bound, running_full_A, running_full_B, first-full}
use Rattle.sets.proofs.Engine.{running_settled}
use Rattle.rounds.specs.Rounds.{covered_by, FirstList, widest_a, widest_b, widest_of, Settles}

-- FULL, whatever the words hold
settles_full : {K : ℕ} {t : Table} {X : Set} {room : ℕ} {out : List ℕ} {settled : Result ℕ Full} → full K t X room ≡ true → IsErr settled
    → Settles K t X room out settled
settles_full {settled = Ok _} f e = absurd (false≢true e)
settles_full {settled = Err _} f e = record { answer = rw f; held = λ e. absurd (true≢false (sym f ∙ e)) }

module _ {K : ℕ} {t : Table} {l : List Position} (list : FirstList K t l) where
  -- the first set
  abbrev X : Set
  X = covered_by t.controllers l

  pub settles_first-full : {room : ℕ} {out : List ℕ} {settled : Result ℕ Full} → room < length l → IsErr settled
      → Settles K t X room out settled
  settles_first-full {room} h = settles_full (first-full K t list.small X list.first list.some-output room l list.stands h)

  pub settles_start : {room : ℕ} → length l ≤ room → Running K t X room zero l
  settles_start {room} = running_start K t list.small X list.first list.some-output room l list.stands

  module _ {room r : ℕ} {ws : List Position} (run : Running K t X room r ws) where
    pub settles_bound : r < (K + 2) ^ t.controllers
    settles_bound = running_bound K t list.small X list.first list.some-output room r ws run

    -- a list of this round is past the room
    pub settles_round-full : {out : List ℕ} {settled : Result ℕ Full} → room < widest_of K t ws → IsErr settled
        → Settles K t X room out settled
    unfolding widest_a widest_b widest_of
    settles_round-full {out} {settled} h e = settles_full (go (dec_lt room (widest_a K t ws))) e
      where
        go : Dec (room < widest_a K t ws) → full K t X room ≡ true
        go (yes a) =
            let (j, i, p) = largest-passes room t.inputs (λ j. length (list_a K t ws j)) a in
            running_full_A K t list.small X list.first list.some-output room r ws run j i p
        go (no a) =
            let (k, o, p) = largest-passes room t.outputs (λ k. length (list_b K t (list_a K t ws t.inputs) k)) (omega arith) in
            running_full_B K t list.small X list.first list.some-output room r ws run k o p

    -- none is
    module _ (h : widest_of K t ws ≤ room) where
      roomy_A : (j : ℕ) → j ≤ t.inputs → length (list_a K t ws j) ≤ room
      unfolding widest_a widest_of
      roomy_A j i = omega (arith, largest-at (suc t.inputs) (λ j. length (list_a K t ws j)) j (omega arith))

      roomy_B : (k : ℕ) → k ≤ t.outputs → length (list_b K t (list_a K t ws t.inputs) k) ≤ room
      unfolding widest_b widest_of
      roomy_B k o = omega (arith, largest-at (suc t.outputs) (λ k. length (list_b K t (list_a K t ws t.inputs) k)) k (omega arith))

      -- a round more
      pub settles_next : (next_list K t ws ≡ ws → ⊥) → Running K t X room (suc r) (next_list K t ws)
      settles_next = running_next K t list.small X list.first list.some-output room r ws run roomy_A roomy_B

      -- the repeat
      pub settles_repeat : {out : List ℕ} → next_list K t ws ≡ ws → positions out ≡ ws → Settles K t X room out (Ok r)
      settles_repeat e s =
          let (last, won, roomy) = running_settled K t list.small X list.first list.some-output room r ws run roomy_A roomy_B e in
          record { answer = rw (roomy, last); held = λ _. s ∙ won }

-- what the answer tells: FULL, or the rounds and the winners, which the words hold and which have room
module _ {K : ℕ} {t : Table} {X : Set} {room : ℕ} {out : List ℕ} {settled : Result ℕ Full} (h : Settles K t X room out settled) where
  pub full_settled : {f : Full} → settled ≡ Err f → full K t X room ≡ true
  full_settled e = go (full K t X room) refl
    where
      go : (b : Bool) → full K t X room ≡ b → full K t X room ≡ true
      go true f = f
      go false f = absurd (false≢true (ap is_err (sym (rw f at h.answer) ∙ e)))

  pub after_settled : {r : ℕ} → settled ≡ Ok r
      → (full K t X room ≡ false) × (r ≡ rounds K t X) × (length out ≡ length (winners K t X))
      × (positions out ≡ map position_bytes (winners K t X)) × (length out ≤ room)
  after_settled {r} e = go (full K t X room) refl
    where
      go : (b : Bool) → full K t X room ≡ b
          → (full K t X room ≡ false) × (r ≡ rounds K t X) × (length out ≡ length (winners K t X))
          × (positions out ≡ map position_bytes (winners K t X)) × (length out ≤ room)
      go true f = absurd (false≢true (ap is_ok (sym (rw f at h.answer) ∙ e)))
      go false f =
          let held = h.held f in
          let number : length out ≡ length (winners K t X) =
          sym (positions-length out) ∙ ap length held ∙ length-map (winners K t X) position_bytes in
          (f, cc (rw f at h.answer, e), number, held, rw number (winners-number K room t X f))
