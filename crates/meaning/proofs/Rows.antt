-- The controller's rows: read back from their bytes and followed from a state they choose letters of the table and keep every run from
-- that state's winner to K. The winner of the state reached guards the runs (`Guards` of Winning.antt): its output leads back into the
-- winning set on every input, so it and the position half way are safe, and the next state's winner is over the position after the round.
use mathlib.Core.Path.{◌≡◌, refl, sym, ap, ◌∙◌}
use mathlib.Core.Logic.{⊎_elim}
use mathlib.Core.Bool.{true}
use mathlib.Core.List.{List, [], ◌∷◌, flat_map}
use Prim.Native.Nat.{ℕ, ◌*◌, ◌<◌}
use native.Mathlib.Omega.{arith}
use lib.ListN.{length, get_or}
use Rattle.meaning.specs.Records.{records_of}
use Rattle.meaning.specs.Table.{Table, on_output, on_input, Good}
use Rattle.meaning.specs.Counting.{Position, forward, safe, below}
use Rattle.meaning.specs.Rounds.{Set, winning, FirstSet}
use Rattle.meaning.specs.Written.{winners, covering, after_round, output_of, start_state, Row, row_bytes, rows_of_state, controller_rows}
use Rattle.meaning.specs.Written.{leads_back, rows_from, state_order}
use Rattle.meaning.specs.Play.{Legal, Keeps, rows_in, row_output, row_next, state_after, follow}
use Rattle.meaning.proofs.Tests.{each_at, each_of, first_holds, first_found}
use Rattle.meaning.proofs.Lists.{tab-length, member-at, place-holds, flat_map-length}
use Rattle.meaning.proofs.Steps.{safe-down, forward-length}
use Rattle.meaning.proofs.Positions.{all_safe-safe}
use Rattle.meaning.proofs.Rounds.{set_a-leads, set_b-leads, winning-safe, winning_fixed}
use Rattle.meaning.proofs.Maximal.{member_in, winning-covered, StartCovered}
use Rattle.meaning.proofs.Winning.{half-safe, guards_keep}
use Rattle.meaning.proofs.Lookups.{order_length, winner_at, output_at, next_at, output-found, next-found, some-output-found}

-- rows come back from their bytes
pub rows_back : (rows : List Row) → rows_in (row_bytes rows) ≡ rows
unfolding rows_in row_bytes records_of flat_map
rows_back [] = refl
rows_back (r ∷ rows) = ap {B = List Row} (λ rest. r ∷ rest) (rows_back rows)

-- "one for each state and input": their number, where the start state is one of the winners
pub rows-from-number : (K : ℕ) (t : Table) (won : Set) (ws : List Position) (start : ℕ) → start < length ws
    → length (rows_from K t won ws start) ≡ length ws * t.inputs
unfolding rows_from rows_of_state
rows-from-number K t won ws start h =
    flat_map-length (rows_of_state K t won ws) t.inputs (state_order start (length ws)) (λ s. tab-length t.inputs _)
    ∙ ap (λ n. n * t.inputs) (order_length start (length ws) h)

pub rows-number : (K : ℕ) (t : Table) (X : Set) → StartCovered K t X → length (controller_rows K t X) ≡ length (winners K t X) * t.inputs
unfolding controller_rows
rows-number K t X h = rows-from-number K t (winning K t X) (winners K t X) (start_state K t (winners K t X)) h

-- Following rows from a state, with counts for each controller state that it may come to: if they are safe, and no input leads above the
-- next state's, they guard the runs
pub counts-keep : (K : ℕ) (t : Table) → Good t → (rows : List Row) (start : ℕ) (most : ℕ → Position) (On : ℕ → Type 0) → On start
    → ((s i : ℕ) → i < t.inputs → On s → On (row_next rows s i)) → ((s : ℕ) → On s → safe K (most s) ≡ true)
    → ((s i : ℕ) → i < t.inputs → On s → below (after_round K t (row_output rows s) i (most s)) (most (row_next rows s i)) ≡ true)
    → Keeps K t (most start) (follow rows start)
unfolding state_after follow
counts-keep K t good rows start most On begins leads safely closed =
    guards_keep K t good (follow rows start) (λ inputs. most (state_after rows start inputs)) (λ inputs. On (state_after rows start inputs))
    (record {
      begins = begins;
      continues = λ inputs i l on. leads (state_after rows start inputs) i l on;
      whole = λ inputs on. safely (state_after rows start inputs) on;
      half = λ inputs on.
          let s = state_after rows start inputs in
          let some = good.some-input in
          half-safe K t good (row_output rows s) (most s)
          (safe-down K _ (most (row_next rows s 0)) (closed s 0 some on) (safely _ (leads s 0 some on)));
      next = λ inputs i l on. closed (state_after rows start inputs) i l on;
    })

module _ (K : ℕ) (t : Table) (X : Set) (good : Good t) (first : FirstSet K t X) where
  -- in a winning position some output leads back, so the smallest is a letter, and it leads back
  pub some-leads-back : (F : Position) → winning K t X F ≡ true → (o : ℕ) × (o < t.outputs) × (leads_back K t (winning K t X) F o ≡ true)
  unfolding leads_back after_round
  some-leads-back F won =
      let W = winning K t X in
      let o = set_b-leads K t W t.outputs F (sym (winning_fixed K t X first good.some-output F) ∙ won) in
      let G = forward K (on_output t o.0) F in
      (o.0, o.1, each_of t.inputs (λ i. W (forward K (on_input t i) G)) (set_a-leads K t W t.inputs G o.2))

  pub output-letter : (F : Position) → winning K t X F ≡ true → output_of K t (winning K t X) F < t.outputs
  unfolding output_of
  output-letter F won =
      let o = some-leads-back F won in
      let h : o.0 < t.outputs = o.1 in
      omega (arith, first_found t.outputs (leads_back K t (winning K t X) F) o.0 h o.2)

  pub output_wins : (F : Position) → winning K t X F ≡ true → (i : ℕ) → i < t.inputs
      → winning K t X (after_round K t (output_of K t (winning K t X) F) i F) ≡ true
  unfolding output_of leads_back
  output_wins F won =
      each_at t.inputs (λ i. winning K t X (after_round K t (output_of K t (winning K t X) F) i F))
      (first_holds t.outputs (leads_back K t (winning K t X) F) (output-letter F won))

  -- a winning position is safe
  pub won-safe : (F : Position) → winning K t X F ≡ true → safe K F ≡ true
  won-safe F won = all_safe-safe K t.controllers F (winning-safe K t X first F won)

  -- so is the position half way
  pub middle_safe : (F : Position) → winning K t X F ≡ true → safe K (forward K (on_output t (output_of K t (winning K t X) F)) F) ≡ true
  middle_safe F won =
      let o = output_of K t (winning K t X) F in
      half-safe K t good o F (won-safe (after_round K t o 0 F) (output_wins F won 0 good.some-input))

  -- a winner is in the winning set
  pub winner_wins : (s : ℕ) → s < length (winners K t X) → winning K t X (winner_at K t X s) ≡ true
  unfolding winners
  winner_wins s h =
      member_in K t.controllers (winning K t X) (winning-safe K t X first) (winner_at K t X s) (member-at (winners K t X) s [] h)

  -- its next state is one of the winners, and over the position after the round
  pub next_winner : (s i : ℕ) → s < length (winners K t X) → i < t.inputs → next_at K t X s i < length (winners K t X)
  unfolding after_round
  next_winner s i h l =
      (winning-covered K t X first (after_round K t (output_at K t X s) i (winner_at K t X s)) (forward-length K (on_input t i) _)).0
      (output_wins (winner_at K t X s) (winner_wins s h) i l)

  pub next-over : (s i : ℕ) → s < length (winners K t X) → i < t.inputs
      → below (after_round K t (output_at K t X s) i (winner_at K t X s)) (winner_at K t X (next_at K t X s i)) ≡ true
  unfolding covering
  next-over s i h l =
      place-holds (below (after_round K t (output_at K t X s) i (winner_at K t X s))) (winners K t X) [] (next_winner s i h l)

-- the state that the rows, followed from s, have reached after these inputs
abbrev pub state_reached : ℕ → Table → Set → ℕ → List ℕ → ℕ
state_reached K t X s inputs = state_after (controller_rows K t X) s inputs

module _ (K : ℕ) (t : Table) (X : Set) (good : Good t) (first : FirstSet K t X) (covered : StartCovered K t X) where
  pub rows-legal : (s : ℕ) → Legal t (follow (controller_rows K t X) s)
  unfolding follow
  rows-legal s inputs =
      ⊎_elim (λ w. rw w.2 (output-letter K t X good first (winner_at K t X w.0) (winner_wins K t X good first w.0 w.1)))
      (λ none. rw none good.some-output)
      (some-output-found K t X covered (state_reached K t X s inputs))

  -- the winner of the state reached guards the runs, as long as that state is one of the winners'
  pub rows-keep : (s : ℕ) → s < length (winners K t X) → Keeps K t (get_or (winners K t X) s []) (follow (controller_rows K t X) s)
  rows-keep s h =
      counts-keep K t good (controller_rows K t X) s (winner_at K t X) (λ q. q < length (winners K t X)) h
      (λ q i l on. rw (next-found K t X covered q i on l) (next_winner K t X good first q i on l))
      (λ q on. won-safe K t X good first (winner_at K t X q) (winner_wins K t X good first q on))
      (λ q i l on. rw (output-found K t X covered q on good.some-input, next-found K t X covered q i on l)
      (next-over K t X good first q i on l))
