-- The rows that solving writes are well formed, of the table's letters, and begin with the start state: they stand in blocks, the start
-- state's first and then the others ascending (Blocks.antt), and each says an output and a next state of the winners. So they pass the
-- check of rows at the same K: of the same table, and by parts of the joined one.
use mathlib.Core.Path.{◌≡◌, refl, ap, ◌∙◌, subst}
use mathlib.Core.Logic.{inl}
use mathlib.Core.Bool.{true, false, not}
use mathlib.Core.List.{List, [], ◌∷◌, Memᴰ}
use Prim.Native.Nat.{ℕ, ◌-◌, ◌*◌, ◌≤◌, ◌<◌}
use native.Mathlib.Nat.{mul-le-mul_right}
use native.Mathlib.Omega.{arith}
use lib.Dec.{eqb, lit<}
use lib.ListN.{length}
use borrow.Author.Tests.{eq-eqb, le-leb, lt-ltb, le-ltb, ltb-true, ltb-false}
use Rattle.meaning.specs.Lists.{keep, tab}
use Rattle.meaning.specs.Records.{Record, records_of, output, input}
use Rattle.meaning.specs.Table.{Table, table_of, stated, Good}
use Rattle.meaning.specs.Rounds.{Set, all_safe, full, FirstSet}
use Rattle.meaning.specs.Written.{Row, winners, start_state, state_order, row_bytes, rows_of_state, rows_from, controller_rows}
use Rattle.meaning.specs.Join.{joined, joined_table, pairs}
use Rattle.meaning.specs.Checks.{Check, Passes, bound, table_checks, stage_checks}
use Rattle.meaning.specs.Answers.{Solved}
use Rattle.meaning.specs.Play.{rows_in}
use Rattle.meaning.specs.Controller.{first_state, last_input, inputs_in, has_rows, leads_on, well_formed, misshapen, of_letters, foreign}
use Rattle.meaning.specs.Controller.{check_checks, CheckCall}
use Rattle.meaning.specs.Calls.{code, SolveCall, PartsCall, JoinCall, AcceptedJoin, wrote, controller_written}
use Rattle.meaning.proofs.Lists.{every-at, every_of, any_of}
use Rattle.meaning.proofs.Maximal.{StartCovered}
use Rattle.meaning.proofs.Lookups.{output_at, next_at, winner_at, row_at, member_right, row-member}
use Rattle.meaning.proofs.Rows.{rows_back, rows-number, output-letter, winner_wins, next_winner}
use Rattle.meaning.proofs.Records.{records_back, letters-top}
use Rattle.meaning.proofs.Formed.{Formed, is_of, size_of, formed-of}
use Rattle.meaning.proofs.Blocks.{order_rises, blocks_linked, blocks_last, blocks_begin}
use Rattle.meaning.proofs.Checks.{passes_append, passes_at}
use Rattle.meaning.proofs.Answers.{Answered, solve-passes, parts-passes}
use Rattle.meaning.proofs.Sound.{passes_sound}
use Rattle.meaning.proofs.Buffers.{rows-bytes, winners-number, room-grants}
use Rattle.meaning.proofs.Told.{solve-told, parts-told}
use Rattle.meaning.proofs.Stages.{Stage, rows_realize, code-covered, controller-rows, solve-stage, parts-stage}
use Rattle.meaning.proofs.Checked.{check_judges}
use Rattle.meaning.proofs.Demands.{wrote-joined, join-good}

module _ (K : ℕ) (t : Table) (X : Set) (good : Good t) (first : FirstSet K t X) (covered : StartCovered K t X) where
  -- the other states in their order
  abbrev others : List ℕ
  others = keep (λ (s : ℕ). not (eqb s (start_state K t (winners K t X)))) (tab (length (winners K t X)) (λ s. s))

  pub begins-at-start : first_state (controller_rows K t X) ≡ start_state K t (winners K t X)
  unfolding controller_rows rows_from rows_of_state state_order
  begins-at-start =
      let start = start_state K t (winners K t X) in
      (blocks_begin t.inputs start good.some-input (output_at K t X) (next_at K t X) start others).0

  ends-at-last : last_input (controller_rows K t X) ≡ t.inputs - 1
  unfolding controller_rows rows_from rows_of_state state_order
  ends-at-last =
      blocks_last t.inputs (start_state K t (winners K t X)) good.some-input (output_at K t X) (next_at K t X)
      (start_state K t (winners K t X)) others

  pub own-inputs : inputs_in (controller_rows K t X) ≡ t.inputs
  own-inputs = let e = ends-at-last in let some = good.some-input in omega arith

  -- each row's output is a letter of the table, and its next state has rows
  pub own-outputs : of_letters t.outputs (controller_rows K t X) ≡ true
  own-outputs =
      every_of _ (controller_rows K t X)
      (λ r m. let right = member_right K t X covered r m in
      lt-ltb r.output t.outputs
      (rw right.outputs (output-letter K t X good first (winner_at K t X r.state)
      (winner_wins K t X good first r.state right.of_winner))))

  has-own : (s : ℕ) → s < length (winners K t X) → has_rows (controller_rows K t X) s ≡ true
  unfolding has_rows
  has-own s h =
      any_of (is_of s) (controller_rows K t X) (row_at K t X s 0) (row-member K t X s 0 h good.some-input) (eq-eqb s s refl)

  own-leads : t.outputs ≤ 8 → (r : Row) → Memᴰ r (controller_rows K t X) → leads_on (controller_rows K t X) r ≡ true
  unfolding leads_on
  own-leads loud r m =
      let right = member_right K t X covered r m in
      let letter = ltb-true r.output t.outputs (every-at _ (controller_rows K t X) r own-outputs m) in
      let leads = has-own (next_at K t X r.state r.input)
      (next_winner K t X good first r.state r.input right.of_winner right.of-input) in
      rw (le-leb r.output 7 (omega arith), right.leads) leads

  -- they are well formed
  module _ (few : length (winners K t X) ≤ 256) (loud : t.outputs ≤ 8) (wide : t.inputs ≤ 8) where
    number : (0 < length (controller_rows K t X)) × (length (controller_rows K t X) ≤ 2048)
    number =
        let e = rows-number K t X covered in
        let n = length (winners K t X) in
        let some : 0 < n = omega (arith, covered) in
        let least : 1 * t.inputs ≤ n * t.inputs = mul-le-mul_right t.inputs some in
        let most : n * t.inputs ≤ 256 * t.inputs = mul-le-mul_right t.inputs few in
        (omega (arith, good.some-input), omega arith)

    own_shaped : Formed (controller_rows K t X)
    unfolding controller_rows rows_from rows_of_state state_order
    own_shaped =
        let start = start_state K t (winners K t X) in
        record {
          some-row = number.0;
          few = number.1;
          begins = (blocks_begin t.inputs start good.some-input (output_at K t X) (next_at K t X) start others).1;
          low = let e = ends-at-last in omega arith;
          on = rw (begins-at-start, ends-at-last)
              (blocks_linked t.inputs start good.some-input (output_at K t X) (next_at K t X) start 0 others (inl refl)
              (order_rises start (length (winners K t X))));
          leads = own-leads loud;
        }

    pub own-formed : well_formed (row_bytes (controller_rows K t X)) ≡ true
    own-formed =
        let rows = controller_rows K t X in
        let long = rows-bytes rows in
        formed-of (row_bytes rows)
        (size_of 8192 (row_bytes rows) (omega (arith, number.0)) (omega arith) (omega (arith, number.1)))
        (rw (rows_back rows) own_shaped)

    -- and pass 15 and 13
    pub own-passes : (bytes : List ℕ) → stated bytes ≡ t → K ≤ 7 → Passes (table_checks 0 bytes)
        → Passes (check_checks bytes K (row_bytes (controller_rows K t X)))
    unfolding check_checks bound misshapen foreign
    own-passes bytes same patient sound =
        let rows = controller_rows K t X in
        rw (le-ltb 7 K patient)
        (passes_append (table_checks 0 bytes) (misshapen (row_bytes rows) ∷ foreign (stated bytes) (rows_in (row_bytes rows)) ∷ []) sound
        (rw (own-formed, rows_back rows, same, own-outputs, eq-eqb (inputs_in rows) t.inputs own-inputs) refl))

-- what a stage's call wrote with code 0 passes the check of rows
module _ {cs : List Check} {K N : ℕ} {rs : List Record} {X : Set} {win con : List ℕ} {s : Solved}
    (told : Answered cs K (table_of rs) X win con s) (stage : Passes cs → Stage K rs X) where
  pub own-right : code s.answer ≡ 0 → (bytes : List ℕ) → stated bytes ≡ table_of rs → K ≤ 7 → Passes (table_checks 0 bytes)
      → N ≤ 256 → full K (table_of rs) X N ≡ false → (check : CheckCall bytes K (controller_written (table_of rs) s))
      → code check.answer ≡ 0
  unfolding table_of
  own-right e bytes same patient sound within spare check =
      let c = code-covered told stage e in
      let t = table_of rs in
      let rows = controller_rows K t X in
      let level = stage c.0 in
      let wrote = controller-rows told stage e in
      let records = passes_sound 0 bytes sound in
      let few : length (winners K t X) ≤ 256 = omega (arith, winners-number K N t X spare) in
      let loud : t.outputs ≤ 8 = subst (λ (u : Table). u.outputs ≤ 8) same (letters-top output (records_of bytes) records.within) in
      let wide : t.inputs ≤ 8 = subst (λ (u : Table). u.inputs ≤ 8) same (letters-top input (records_of bytes) records.within) in
      let passes = own-passes K t X level.good level.first c.1 few loud wide bytes same patient sound in
      let first = begins-at-start K t X level.good level.first c.1 in
      (check_judges check).right-exactly.1
      (rw wrote (passes, rw (same, rows_back rows, first) (rows_realize K rs X level c.1)))

-- solving, of the same table
pub solve-right : (bytes : List ℕ) (K N : ℕ) (call : SolveCall bytes K N) → code call.left.answer ≡ 0
    → (check : CheckCall bytes K (controller_written (stated bytes) call.left)) → code check.answer ≡ 0
unfolding stage_checks bound
solve-right bytes K N call e check =
    let win = call.lent.winners_before in
    let con = call.lent.controller_before in
    let told = solve-told bytes K N call in
    let stage = solve-stage bytes K N win con in
    let t = stated bytes in
    let X = all_safe K t.controllers in
    let q = solve-passes bytes K N win con (code-covered told stage e).0 in
    own-right {N = N} told stage e bytes refl (ltb-false 7 K q.in_bound) q.table (room-grants N win con q.roomy).within
    (passes_at (stage_checks 0 K N t X) q.stage 0 (bound 0) (lit< tt)) check

-- by parts, of the joined table as a join wrote it
pub parts-right : (one two : List ℕ) (K N : ℕ) (call : PartsCall one two K N) → code call.left.answer ≡ 0
    → (join : JoinCall one two) → AcceptedJoin join.lent
    → (check : CheckCall (wrote join.left) K (controller_written (joined_table one two) call.left)) → code check.answer ≡ 0
unfolding stage_checks bound
parts-right one two K N call e join room check =
    let win = call.lent.winners_before in
    let con = call.lent.controller_before in
    let told = parts-told one two K N call in
    let stage = parts-stage one two K N win con in
    let both = joined_table one two in
    let X = pairs K (stated one) (stated two) in
    let q = parts-passes one two K N win con (code-covered told stage e).0 in
    let joins = wrote-joined one two q.pair join room in
    own-right {N = N} told stage e (wrote join.left)
    (ap stated joins ∙ ap table_of (records_back (joined (records_of one) (records_of two))))
    (ltb-false 7 K q.in_bound) ((join-good one two q.pair join room).1 0) (room-grants N win con q.roomy).within
    (passes_at (stage_checks 0 K N both X) q.last-stage 0 (bound 0) (lit< tt)) check
