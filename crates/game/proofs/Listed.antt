-- The winners in eight counts say what the winners say: they cover the same positions and in the same places, so that the verdict, the
-- bytes and the rows from the list are those of the winning set. A position is in that set exactly if a winner covers it; and tests and
-- steps read counts alone. Assumes nothing.
use mathlib.Core.Path.{◌≡◌, refl, sym, ap, ap₂, ◌∙◌, fun_ext}
use mathlib.Core.Bool.{Bool, false, cond, ◌||◌}
use mathlib.Core.List.{List, [], ◌∷◌, map, flat_map, Memᴰ}
use Prim.Native.Nat.{ℕ, zero, suc, ◌≤◌, ◌<◌}
use native.Mathlib.Decide.{dec_lt}
use native.Mathlib.Omega.{arith}
use lib.ListN.{length, get_or, length-map, get_or-map, get_or-eq_default}
use lib.Dec.{eqb, ltb}
use Rattle.meaning.specs.declared.Verdict.TheVariants.{Realizable, Unrealizable}
use Rattle.meaning.specs.declared.Refusal.TheVariants.{Nothing}
use Rattle.meaning.specs.Lists.{any, place, written}
use Rattle.meaning.specs.Table.{Table, on_output, on_input, Good, Small}
use Rattle.meaning.specs.Counting.{Position, count, forward, below, covered}
use Rattle.meaning.specs.Rounds.{Set, winning, rounds, full, FirstSet}
use Rattle.meaning.specs.Written.{Row, position_bytes, winners, winners_bytes, covering, after_round, output_of, start_state, row_bytes}
use Rattle.meaning.specs.Written.{rows_of_state, controller_rows, state_order, leads_back, rows_from}
use Rattle.meaning.specs.Answers.{Solved, unsolved, solved_from, answered}
use Rattle.meaning.specs.Checks.{check, judge, stage_checks, room}
use Rattle.meaning.proofs.Tests.{same_test, each_same, first-same}
use Rattle.meaning.proofs.Lists.{tab-same, any_at, any_of, member-at, get_or-inside}
use Rattle.meaning.proofs.Steps.{forward-length}
use Rattle.meaning.proofs.Rounds.{winning-down, winning-safe}
use Rattle.meaning.proofs.Maximal.{member_in, climb}
use Rattle.meaning.proofs.Rows.{output-letter, winner_wins}
use Rattle.meaning.proofs.Buffers.{room-grants}
use Rattle.counts.proofs.Wide.{wide_count, wide_of_wide, below-counts, forward-counts}
use Rattle.sets.proofs.Engine.{members-sized}
use Rattle.writing.specs.Playable.{Playable}
use Rattle.game.specs.Finished.{finished, Roomy}

-- a search over members that were changed to ones alike
module _ {A : Type 0} (f : A → Bool) (g : A → A) where
  any_alike : (xs : List A) → ((x : A) → Memᴰ x xs → f (g x) ≡ f x) → any f (map g xs) ≡ any f xs
  any_alike [] p = refl
  any_alike (x ∷ xs) p = ap₂ ◌||◌ (p x (Memᴰ.head refl)) (any_alike xs (λ y m. p y (Memᴰ.tail m)))

  place_alike : (xs : List A) → ((x : A) → Memᴰ x xs → f (g x) ≡ f x) → place f (map g xs) ≡ place f xs
  place_alike [] p = refl
  place_alike (x ∷ xs) p =
      ap₂ (λ (b : Bool) (r : ℕ). cond b zero (suc r)) (p x (Memᴰ.head refl)) (place_alike xs (λ y m. p y (Memᴰ.tail m)))

-- the bytes do not see that a position was widened
bytes_alike : (ws : List Position) → winners_bytes (map position_bytes ws) ≡ winners_bytes ws
unfolding winners_bytes flat_map
bytes_alike [] = refl
bytes_alike (F ∷ ws) = rw (wide_of_wide F, bytes_alike ws)

-- nor does what follows from a position's counts
round_alike : (K : ℕ) (t : Table) (o i : ℕ) (F G : Position) → ((q : ℕ) → count F q ≡ count G q)
    → after_round K t o i F ≡ after_round K t o i G
unfolding after_round
round_alike K t o i F G e = ap (forward K (on_input t i)) (forward-counts K (on_output t o) F G e)

round-length : (K : ℕ) (t : Table) (o i : ℕ) (F : Position) → length (after_round K t o i F) ≡ t.controllers
unfolding after_round
round-length K t o i F = forward-length K (on_input t i) (forward K (on_output t o) F)

module _ (K : ℕ) (t : Table) (X : Set) (small : Small t) (first : FirstSet K t X) where
  -- the list: the winners in eight counts
  abbrev pub listed : List Position
  listed = map position_bytes (winners K t X)

  winner_length : (F : Position) → Memᴰ F (winners K t X) → length F ≡ t.controllers
  unfolding winners
  winner_length = members-sized K t.controllers (winning K t X) (winning-safe K t X first)

  below-listed : (F G : Position) → Memᴰ G (winners K t X) → below F (position_bytes G) ≡ below F G
  below-listed F G m = below-counts F F (position_bytes G) G (λ q. refl) (wide_count G (rw (winner_length G m) small.controllers))

  pub listed-length : length listed ≡ length (winners K t X)
  listed-length = length-map (winners K t X) position_bytes

  pub listed-covering : (F : Position) → covering listed F ≡ covering (winners K t X) F
  unfolding covering
  listed-covering F = place_alike (below F) position_bytes (winners K t X) (below-listed F)

  -- the list covers exactly the winning set
  pub listed-won : (F : Position) → length F ≡ t.controllers → covered listed F ≡ winning K t X F
  unfolding winners
  listed-won F e =
      any_alike (below F) position_bytes (winners K t X) (below-listed F)
      ∙ same_test (any (below F) (winners K t X)) (winning K t X F)
      (λ a.
      let G = any_at (below F) (winners K t X) a in
      winning-down K t X first F G.0 (e ∙ sym (winner_length G.0 G.1)) G.2
      (member_in K t.controllers (winning K t X) (winning-safe K t X first) G.0 G.1))
      (λ w.
      let G = climb K t.controllers (winning K t X) (winning-safe K t X first) F w in
      any_of (below F) (winners K t X) G.0 G.1 G.2)

  -- a state's winner, by its counts
  winner_alike : (s q : ℕ) → count (get_or listed s []) q ≡ count (get_or (winners K t X) s []) q
  winner_alike s q = go (dec_lt s (length (winners K t X)))
    where
      go : Dec (s < length (winners K t X)) → count (get_or listed s []) q ≡ count (get_or (winners K t X) s []) q
      go (yes l) =
          let few : length (get_or (winners K t X) s []) ≤ 8 =
          rw (winner_length (get_or (winners K t X) s []) (member-at (winners K t X) s [] l)) small.controllers in
          ap (λ (F : Position). count F q)
          (get_or-inside listed s [] (position_bytes []) (omega (arith, listed-length)) ∙ get_or-map position_bytes (winners K t X) s [])
          ∙ wide_count (get_or (winners K t X) s []) few q
      go (no l) =
          ap (λ (F : Position). count F q)
          (get_or-eq_default listed [] (omega (arith, listed-length)) ∙ sym (get_or-eq_default (winners K t X) [] (omega arith)))

  -- so outputs, next states and rows are the same
  pub listed-output : (F G : Position) → ((q : ℕ) → count F q ≡ count G q)
      → output_of K t (covered listed) F ≡ output_of K t (winning K t X) G
  unfolding output_of leads_back
  listed-output F G e =
      first-same t.outputs _ _
      (λ o _. each_same t.inputs _ _
      (λ i _. ap (covered listed) (round_alike K t o i F G e) ∙ listed-won (after_round K t o i G) (round-length K t o i G)))

  listed-rows : (s : ℕ) → rows_of_state K t (covered listed) listed s ≡ rows_of_state K t (winning K t X) (winners K t X) s
  unfolding rows_of_state
  listed-rows s =
      let F = get_or listed s [] in
      let G = get_or (winners K t X) s [] in
      let o : output_of K t (covered listed) F ≡ output_of K t (winning K t X) G = listed-output F G (winner_alike s) in
      let after : (i : ℕ) → after_round K t (output_of K t (covered listed) F) i F ≡ after_round K t (output_of K t (winning K t X) G) i G =
      λ i. ap (λ (l : ℕ). after_round K t l i F) o ∙ round_alike K t (output_of K t (winning K t X) G) i F G (winner_alike s) in
      tab-same t.inputs _ _
      (λ i _ j. record { state = s; output = o j; input = i; next = (listed-covering _ ∙ ap (covering (winners K t X)) (after i)) j })

  pub listed_start : start_state K t listed ≡ start_state K t (winners K t X)
  unfolding start_state
  listed_start = listed-covering _

  pub listed-controller : rows_from K t (covered listed) listed (start_state K t listed) ≡ controller_rows K t X
  unfolding rows_from controller_rows
  listed-controller =
      ap₂ (λ (f : ℕ → List Row) (states : List ℕ). flat_map f states) (fun_ext listed-rows) (ap₂ state_order listed_start listed-length)

  module _ (win con : List ℕ) where
    pub listed-answered : answered K t (covered listed) listed (rounds K t X) win con ≡ solved_from K t X win con
    unfolding answered solved_from controller_rows
    listed-answered = λ i. record {
      answer = record {
        verdict = cond (ltb (listed_start i) (listed-length i)) (Realizable (listed_start i)) Unrealizable;
        place = 0;
        which = 0;
        rounds = rounds K t X;
        winners = listed-length i;
      };
      winners_after = written (bytes_alike (winners K t X) i) win;
      controller_after = cond (ltb (listed_start i) (listed-length i)) (written (row_bytes (listed-controller i)) con) con;
    }

    pub listed-finished : finished K t listed (rounds K t X) win con
        ≡ judge (check Nothing 0 0 (eqb (length (winners K t X)) 0) ∷ []) (unsolved win con) (solved_from K t X win con)
    unfolding finished
    listed-finished =
        ap₂ (λ (n : ℕ) (solved : Solved). judge (check Nothing 0 0 (eqb n 0) ∷ []) (unsolved win con) solved) listed-length listed-answered

    -- what checks 11 and 12 of a stage come to, where FULL is not given
    pub stage-finished : (which N : ℕ) → full K t X N ≡ false
        → finished K t listed (rounds K t X) win con ≡ judge (stage_checks which K N t X) (unsolved win con) (solved_from K t X win con)
    unfolding stage_checks
    stage-finished which N p = rw p listed-finished

    -- there is room for what is written, where ROOM is not given and there are at most N winners
    pub listed-roomy : (N : ℕ) → (room N win con).failed ≡ false → length (winners K t X) ≤ N → Roomy listed win con
    listed-roomy N p h =
        let granted = room-grants N win con p in
        record {
          winners = omega (arith, listed-length, granted.winners);
          controller = omega (arith, listed-length, granted.rows);
        }

  -- each winner's output leads back
  pub listed_playable : Good t → K ≤ 7 → t.outputs ≤ 8 → t.inputs ≤ 8 → length (winners K t X) ≤ 256 → Playable K t listed
  listed_playable good patience outputs inputs number =
      record {
        bounded = record { patience = patience; small = small };
        outputs = outputs;
        inputs = inputs;
        winners = rw listed-length number;
        leads = λ s h.
            let l : s < length (winners K t X) = rw listed-length at h in
            rw (listed-output (get_or listed s []) (get_or (winners K t X) s []) (winner_alike s))
            (output-letter K t X good first (get_or (winners K t X) s []) (winner_wins K t X good first s l));
      }
