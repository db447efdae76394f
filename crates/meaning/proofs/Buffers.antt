-- Demand 1, the lent buffers: what a call writes fits, so that each buffer keeps its length, and the bytes beyond those written stay.
-- There are at most N winners since FULL was not given, a winner takes 8 bytes and its rows 4 for each of at most 8 inputs, and ROOM was
-- not given; a join passes LENGTH itself.
use mathlib.Core.Path.{◌≡◌, refl, ap, ◌∙◌}
use mathlib.Core.Logic.{◌⊎◌, inl, inr}
use mathlib.Core.Bool.{Bool, true, false, cond, not, ◌||◌}
use mathlib.Core.List.{List, [], ◌∷◌}
use Prim.Native.Nat.{ℕ, suc, ◌-◌, ◌*◌, ◌%◌, ◌≤◌}
use native.Mathlib.Nat.{mul-le-mul, add-sub_of_le}
use native.Mathlib.Omega.{arith}
use lib.ListN.{length, drop, length-append, length-drop}
use lib.Seq.{drop-append-add, drop-drop}
use lib.Dec.{eqb, ltb, lit<}
use borrow.Author.Tests.{eqb-false, ltb-true, ltb-false}
use Rattle.meaning.specs.Lists.{largest, written}
use Rattle.meaning.specs.Records.{records_of, input}
use Rattle.meaning.specs.Table.{Table, table_of, stated}
use Rattle.meaning.specs.Counting.{Position, count}
use Rattle.meaning.specs.Rounds.{Set, all_safe, set_w, rounds, winning, width_of_round, full}
use Rattle.meaning.specs.Written.{winners, position_bytes, winners_bytes, start_state, Row, row_bytes, controller_rows}
use Rattle.meaning.specs.Join.{joined, pairs, joined_bytes, joined_table}
use Rattle.meaning.specs.Answers.{Solved, unsolved, solved_from, solve, join, parts, answered}
use Rattle.meaning.specs.Checks.{Check, judge, bound, room, room_to_join, wrong_size, stage_checks, solve_checks}
use Rattle.meaning.specs.Checks.{pair_checks, join_checks, parts_checks, Passes}
use Rattle.meaning.proofs.Tests.{neither_left, neither_right, largest-at}
use Rattle.meaning.proofs.Lists.{tab-length, flat_map-length}
use Rattle.meaning.proofs.Rows.{rows-number}
use Rattle.meaning.proofs.Records.{letters-top}
use Rattle.meaning.proofs.Checks.{passes_at, passes-right, Failure, first_failure, judge-passes, judge-fails}
use Rattle.meaning.proofs.Answers.{join-judged, solve-passes, parts-passes}
use Rattle.meaning.proofs.Sound.{passes_sound, passes-paired}
use Rattle.meaning.proofs.JoinGood.{joined_length, joined_sound}

-- a buffer keeps its length, and its bytes beyond the first size
abbrev pub Stays : ℕ → List ℕ → List ℕ → Type 0
Stays size old after = (length after ≡ length old) × ((k : ℕ) → size ≤ k → drop k after ≡ drop k old)

-- writing what fits does that, and so does writing only under a condition
pub written-stays : (new old : List ℕ) (size : ℕ) → length new ≡ size → size ≤ length old → Stays size old (written new old)
written-stays new old size e h = (
  simp (length-append, length-drop) (omega arith),
  λ k l.
      let n : length new ≤ k = omega arith in
      rw (← add-sub_of_le n) (drop-append-add new (drop (length new) old) (k - length new) ∙ drop-drop (k - length new) (length new) old),
)

cond-stays : (b : Bool) (new old : List ℕ) (size : ℕ) → (b ≡ true → Stays size old new) → Stays size old (cond b new old)
cond-stays true new old size p = p refl
cond-stays false new old size p = (refl, λ k l. refl)

-- a winner takes 8 bytes
pub position_bytes_lem : (F : Position) → length (position_bytes F) ≡ 8
unfolding position_bytes
position_bytes_lem F = tab-length 8 (count F)

pub winners-bytes : (ws : List Position) → length (winners_bytes ws) ≡ length ws * 8
unfolding winners_bytes
winners-bytes ws = flat_map-length position_bytes 8 ws position_bytes_lem

-- a row takes 4
pub rows-bytes : (rows : List Row) → length (row_bytes rows) ≡ length rows * 4
unfolding row_bytes
rows-bytes rows = flat_map-length (λ (r : Row). r.state ∷ r.output ∷ r.input ∷ r.next ∷ []) 4 rows (λ r. refl)

-- where FULL is not given there are at most N winners
pub winners-number : (K N : ℕ) (t : Table) (X : Set) → full K t X N ≡ false → length (winners K t X) ≤ N
unfolding full winners winning width_of_round
winners-number K N t X p =
    let width : ℕ → ℕ = λ r. width_of_round K t (set_w K t X r) in
    omega (arith, ltb-false N (largest (suc (rounds K t X)) width) p, largest-at (suc (rounds K t X)) width (rounds K t X) (omega arith))

-- what the passing checks say of sizes: winners and inputs are few, and there is room
record Fits (K N : ℕ) (t : Table) (X : Set) (win con : List ℕ) : Type 0 where
  roomy : (room N win con).failed ≡ false
  spare : full K t X N ≡ false
  few-inputs : t.inputs ≤ 8

-- what 3 grants where it passes: a room of 1 to 256, and buffers for as many winners and their rows
pub record Granted (N : ℕ) (win con : List ℕ) : Type 0 where
  pub some : 1 ≤ N
  pub within : N ≤ 256
  pub winners : 8 * N ≤ length win
  pub rows : 32 * N ≤ length con

pub room-grants : (N : ℕ) (win con : List ℕ) → (room N win con).failed ≡ false → Granted N win con
unfolding room
room-grants N win con p =
    let none = eqb N 0 in
    let many = ltb 256 N in
    let small = ltb (length win) (8 * N) in
    let smaller = ltb (length con) (32 * N) in
    let buffer = neither_left (none || many || small) smaller p in
    let number = neither_left (none || many) small buffer in
    record {
      some = omega (arith, eqb-false N 0 (neither_left none many number));
      within = ltb-false 256 N (neither_right none many number);
      winners = ltb-false (length win) (8 * N) (neither_right (none || many) small buffer);
      rows = ltb-false (length con) (32 * N) (neither_right (none || many || small) smaller p);
    }

-- what a call that solves leaves of its buffers, whatever its verdict: past 8 bytes a winner, and 4 a winner and input
pub record Kept (inputs : ℕ) (win con : List ℕ) (s : Solved) : Type 0 where
  pub winners_stay : Stays (s.answer.winners * 8) win s.winners_after
  pub controller-stays : Stays (s.answer.winners * inputs * 4) con s.controller_after

granted-kept : (K N : ℕ) (t : Table) (X : Set) (win con : List ℕ) → Fits K N t X win con
    → Kept t.inputs win con (solved_from K t X win con)
unfolding solved_from answered controller_rows
granted-kept K N t X win con fits =
    let ws = winners K t X in
    let s = start_state K t ws in
    let granted = room-grants N win con fits.roomy in
    let wins : 8 * N ≤ length win = granted.winners in
    let cons : 32 * N ≤ length con = granted.rows in
    let number : length ws ≤ N = winners-number K N t X fits.spare in
    let rows : length ws * t.inputs ≤ N * 8 = mul-le-mul number fits.few-inputs in
    record {
      winners_stay = written-stays (winners_bytes ws) win (length ws * 8) (winners-bytes ws) (omega arith);
      controller-stays =
          cond-stays (ltb s (length ws)) (written (row_bytes (controller_rows K t X)) con) con (length ws * t.inputs * 4)
          (λ covered. written-stays (row_bytes (controller_rows K t X)) con (length ws * t.inputs * 4)
          (rows-bytes (controller_rows K t X) ∙ ap (λ (n : ℕ). n * 4) (rows-number K t X (ltb-true s (length ws) covered))) (omega arith));
    }

refused-kept : (inputs : ℕ) (win con : List ℕ) (c : Check) → Kept inputs win con (unsolved win con c)
unfolding unsolved
refused-kept inputs win con c = record { winners_stay = (refl, λ k l. refl); controller-stays = (refl, λ k l. refl) }

-- one law for both calls that solve
kept : (cs : List Check) (K N : ℕ) (t : Table) (X : Set) (win con : List ℕ) → (Passes cs → Fits K N t X win con)
    → Kept t.inputs win con (judge cs (unsolved win con) (solved_from K t X win con))
kept cs K N t X win con fits = go (first_failure cs)
  where
    go : Passes cs ⊎ Failure cs → Kept t.inputs win con (judge cs (unsolved win con) (solved_from K t X win con))
    go (inl p) = rw (judge-passes cs (unsolved win con) (solved_from K t X win con) p) (granted-kept K N t X win con (fits p))
    go (inr f) =
        rw (judge-fails cs (unsolved win con) (solved_from K t X win con) f.0 f.1 f.2) (refused-kept t.inputs win con f.1)

pub solve-kept : (bytes : List ℕ) (K N : ℕ) (win con : List ℕ) → Kept (stated bytes).inputs win con (solve bytes K N win con)
unfolding solve stage_checks table_of
solve-kept bytes K N win con =
    let rs = records_of bytes in
    let t = table_of rs in
    let X = all_safe K t.controllers in
    kept (solve_checks bytes K N win con) K N t X win con
    (λ p.
    let q = solve-passes bytes K N win con p in
    record {
      roomy = q.roomy;
      spare = passes_at (stage_checks 0 K N t X) q.stage 0 (bound 0) (lit< tt);
      few-inputs = letters-top input rs (passes_sound 0 bytes q.table).within;
    })

pub parts-kept : (one two : List ℕ) (K N : ℕ) (win con : List ℕ) → Kept (joined_table one two).inputs win con (parts one two K N win con)
unfolding parts stage_checks table_of
parts-kept one two K N win con =
    let rs = joined (records_of one) (records_of two) in
    let whole = table_of rs in
    let X = pairs K (stated one) (stated two) in
    kept (parts_checks one two K N win con) K N whole X win con
    (λ p.
    let q = parts-passes one two K N win con p in
    record {
      roomy = q.roomy;
      spare = passes_at (stage_checks 0 K N whole X) q.last-stage 0 (bound 0) (lit< tt);
      few-inputs = letters-top input rs (joined_sound (records_of one) (records_of two) (passes-paired one two q.pair)).within;
    })

-- a joined table passes LENGTH, so it fits
join-fits : (one two out : List ℕ) → Passes (join_checks one two out) → length (joined_bytes one two) ≤ length out
unfolding join_checks room_to_join wrong_size
join-fits one two out p =
    let new = joined_bytes one two in
    let ragged = eqb (length new) 0 || not (eqb (length new % 4) 0) in
    let pair = passes-paired one two (passes-right (room_to_join out ∷ []) (pair_checks one two) p) in
    omega (
      arith,
      ltb-false (length out) 4160 (passes_at (join_checks one two out) p 0 (bound 0) (omega arith)),
      ltb-false 4160 (length new) (neither_right ragged (ltb 4160 (length new)) (joined_length (records_of one) (records_of two) pair)),
    )

-- a join writes as many bytes as its place says
pub join_kept : (one two out : List ℕ) → Stays (join one two out).answer.place out (join one two out).out_after
join_kept one two out = go (first_failure (join_checks one two out))
  where
    go : Passes (join_checks one two out) ⊎ Failure (join_checks one two out)
        → Stays (join one two out).answer.place out (join one two out).out_after
    go (inl p) =
        let new = joined_bytes one two in
        rw ((join-judged one two out).grants p) (written-stays new out (length new) refl (join-fits one two out p))
    go (inr f) = rw ((join-judged one two out).refuses f.0 f.1 f.2) (refl, λ k l. refl)
