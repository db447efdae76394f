-- Demand 2 for any call that solves. Solving, and the last stage of solving by parts, differ only in the table and the first set: where
-- no check fails the table is good and the rounds come from that set to exactly the positions that win. The winners are the maximal ones
-- of those, so the verdict, the winning list and the controller mean what they should.
use mathlib.Core.Path.{◌≡◌, refl, sym, ap, ◌∙◌}
use mathlib.Core.Logic.Iff
use mathlib.Core.Logic.{◌↔◌, ⊎_elim}
use mathlib.Core.Bool.{true}
use mathlib.Core.List.{List, []}
use Prim.Native.Nat.{ℕ, ◌*◌, ◌≤◌, ◌<◌}
use native.Mathlib.Omega.{arith}
use lib.ListN.{length, get_or, take, drop}
use lib.Seq.{take_at}
use borrow.Author.Tests.{lt-ltb}
use Rattle.meaning.specs.Lists.{written}
use Rattle.meaning.specs.Records.{Record, records_of}
use Rattle.meaning.specs.Table.{table_of, Table, Good}
use Rattle.meaning.specs.Counting.{Position, below, start_position}
use Rattle.meaning.specs.Rounds.{Set, all_safe, winning, SmallestRepeat, FirstSet}
use Rattle.meaning.specs.Written.{winners, winners_bytes, covering, start_state, row_bytes, controller_rows}
use Rattle.meaning.specs.Join.{joined, pairs}
use Rattle.meaning.specs.Answers.{code_of, Solved, solved_from, answered, unsolved}
use Rattle.meaning.specs.Checks.{Check, solve_checks, parts_checks, Passes}
use Rattle.meaning.specs.Play.{Wins, rows_in, follow, Realizes, Realizable}
use Rattle.meaning.proofs.Lists.{place-holds, place_found}
use Rattle.meaning.proofs.Rounds.{all_safe-first, rounds_settled, rounds-smallest, rounds-bound}
use Rattle.meaning.proofs.Maximal.{winning-covered, StartCovered}
use Rattle.meaning.proofs.Winning.{keeps-down, winning_wins}
use Rattle.meaning.proofs.Realizes.{start-declared, start-length, start-covered, keeps_realizes, wins_realizable}
use Rattle.meaning.proofs.Rows.{rows-number, rows-legal, rows-keep}
use Rattle.meaning.proofs.Checks.{first_failure}
use Rattle.meaning.proofs.Codes.{code-refused, code_realizable, code_unrealizable}
use Rattle.meaning.proofs.Answers.{verdict_of, Answered, solve-passes, parts-passes}
use Rattle.meaning.proofs.Sound.{Sound, passes_sound, sound_good, sound_small, Paired, passes-paired}
use Rattle.meaning.proofs.Buffers.{rows-bytes}
use Rattle.meaning.proofs.Readings.{winner_read, rows-read}
use Rattle.meaning.specs.Calls.{winner_in, Unrefused, code, Covers, controller_written, controller_of}
use Rattle.meaning.specs.Demands.{Refuses, Solves}
use Rattle.meaning.proofs.Parts.{pairs_first, pairs-winning}
use Rattle.meaning.proofs.JoinUnion.{paired_union}
use Rattle.meaning.proofs.JoinGood.{joined_sound}

-- a table of records and a first set that the rounds may be run on, and from which they come to the positions that win
pub record Stage (K : ℕ) (rs : List Record) (X : Set) : Type 0 where
  pub good : Good (table_of rs)
  pub few : (table_of rs).controllers ≤ 8
  pub first : FirstSet K (table_of rs) X
  pub exact : (F : Position) → length F ≡ (table_of rs).controllers → (winning K (table_of rs) X F ≡ true) ↔ Wins K (table_of rs) F

-- a table that passes 4 to 10, from all safe positions
pub table-stage : (K : ℕ) (rs : List Record) → Sound rs → Stage K rs (all_safe K (table_of rs).controllers)
unfolding table_of
table-stage K rs s =
    record {
      good = sound_good rs s;
      few = (sound_small rs s).controllers;
      first = all_safe-first K (table_of rs);
      exact = winning_wins K (table_of rs) (sound_good rs s);
    }

-- the joined table of two that may be joined, from the pairs whose halves win alone
pub joined-stage : (K : ℕ) (rs ss : List Record) → Paired rs ss → Stage K (joined rs ss) (pairs K (table_of rs) (table_of ss))
joined-stage K rs ss pair =
    let t = table_of rs in
    let u = table_of ss in
    let whole = table_of (joined rs ss) in
    let union = paired_union rs ss pair in
    let afresh = table-stage K (joined rs ss) (joined_sound rs ss pair) in
    let some-output = (sound_good rs pair.first).some-output in
    record {
      good = afresh.good;
      few = afresh.few;
      first = pairs_first t u whole union K some-output;
      exact = λ F e.
          let same = pairs-winning t u whole union K some-output F in
          Iff.trans (λ w. sym same ∙ w, λ w. same ∙ w) (afresh.exact F e);
    }

-- What the winners and the rows of such a stage are worth
module _ (K : ℕ) (rs : List Record) (X : Set) (stage : Stage K rs X) where
  -- the winners cover exactly what wins
  pub wins_covered : (F : Position) → length F ≡ (table_of rs).controllers
      → Wins K (table_of rs) F ↔ (covering (winners K (table_of rs) X) F < length (winners K (table_of rs) X))
  wins_covered F e = Iff.trans (Iff.symm (stage.exact F e)) (winning-covered K (table_of rs) X stage.first F e)

  -- also as they are read back from the bytes written
  pub wins_listed : (win : List ℕ) (F : Position) → length F ≡ (table_of rs).controllers
      → Wins K (table_of rs) F ↔ ((i : ℕ) × (i < length (winners K (table_of rs) X))
      × (below F (winner_in (table_of rs).controllers (written (winners_bytes (winners K (table_of rs) X)) win) i) ≡ true))
  unfolding covering
  wins_listed win F e =
      let t = table_of rs in
      let ws = winners K t X in (
        λ w.
            let h = (wins_covered F e).0 w in
            (covering ws F, h, ap (below F) (winner_read K t X win stage.few (covering ws F) h) ∙ place-holds (below F) ws [] h),
        λ r.
            let over = ap (below F) (sym (winner_read K t X win stage.few r.0 r.1)) ∙ r.2 in
            let l : r.0 < length ws = r.1 in
            (wins_covered F e).1 (omega (arith, place_found (below F) ws [] r.0 l over)),
      )

  -- the start position is covered exactly if some strategy realizes the table
  pub covered_realizable : StartCovered K (table_of rs) X
      ↔ Realizable K (table_of rs)
  covered_realizable =
      let t = table_of rs in
      Iff.trans (start-covered K t X stage.first)
      (Iff.trans (stage.exact (start_position K t) (start-length K t)) (wins_realizable K rs stage.good))

  -- and then the rows, followed from the start state, are one
  pub rows_realize : StartCovered K (table_of rs) X
      → Realizes K (table_of rs) (follow (controller_rows K (table_of rs) X) (start_state K (table_of rs) (winners K (table_of rs) X)))
  unfolding start_state covering
  rows_realize h =
      let t = table_of rs in
      let ws = winners K t X in
      let s = start_state K t ws in
      let σ = follow (controller_rows K t X) s in
      keeps_realizes K t (start-declared rs) σ (rows-legal K t X stage.good stage.first h s)
      (keeps-down K t (start_position K t) (get_or ws s []) σ (place-holds (below (start_position K t)) ws [] h)
      (rows-keep K t X stage.good stage.first h s h))

  -- also as they are read back from the bytes written
  pub written_realize : (con : List ℕ) → StartCovered K (table_of rs) X
      → Realizes K (table_of rs)
      (follow (rows_in (take (length (winners K (table_of rs) X) * (table_of rs).inputs * 4)
      (written (row_bytes (controller_rows K (table_of rs) X)) con)))
      (start_state K (table_of rs) (winners K (table_of rs) X)))
  written_realize con h =
      rw (← rows-number K (table_of rs) X h, rows-read (controller_rows K (table_of rs) X) con) (rows_realize h)

-- Demand 1 of a call that solves
pub stage-refuses : {cs : List Check} {K : ℕ} {t : Table} {X : Set} {win con : List ℕ} {s : Solved} → Answered cs K t X win con s
    → Refuses cs s.answer ((s.winners_after ≡ win) × (s.controller_after ≡ con))
unfolding unsolved
stage-refuses told =
    record {
      in_order = λ r. Iff.trans (code-refused _ r) (told.judged.refused-exactly r);
      by_the_first = λ i c f. ap (λ (o : Solved). o.answer) (told.judged.refuses i c f);
      writes_nothing = λ r e. told.refusal-leaves r ((code-refused _ r).0 e);
    }

-- Demand 2 of a call whose checks lead to such a stage
module _ {cs : List Check} {K : ℕ} {rs : List Record} {X : Set} {win con : List ℕ} {s : Solved}
    (told : Answered cs K (table_of rs) X win con s) (stage : Passes cs → Stage K rs X) where
  -- a call that is not refused has passed every check
  pub unrefused_passes : Unrefused s.answer → Passes cs
  unrefused_passes unrefused =
      ⊎_elim (λ p. p)
      (λ f. absurd (unrefused f.1.refusal (ap code_of ((told.judged.refused-exactly f.1.refusal).1 (f.0, f.1, f.2, refl)))))
      (first_failure cs)

  -- code 0: no check failed, and the start position is covered
  pub code-covered : code_of (verdict_of s) ≡ 0 → Passes cs × StartCovered K (table_of rs) X
  code-covered e =
      let r = (code_realizable (verdict_of s)).0 e in
      let c = (told.realizable_exactly r.0).0 r.1 in
      (c.0, rw c.1 at c.2)

  pub realizable_exactly : Passes cs → (code s.answer ≡ 0) ↔ Realizable K (table_of rs)
  realizable_exactly p =
      let covered = covered_realizable K rs X (stage p) in
      let start = start_state K (table_of rs) (winners K (table_of rs) X) in (
        λ e. covered.0 (code-covered e).1,
        λ σ. (code_realizable (verdict_of s)).1 (start, (told.realizable_exactly start).1 (p, refl, covered.1 σ)),
      )

  pub unrealizable_exactly : Passes cs → (code s.answer ≡ 1) ↔ (Realizable K (table_of rs) → ⊥)
  unrealizable_exactly p =
      let covered = covered_realizable K rs X (stage p) in
      Iff.trans (code_unrealizable (verdict_of s)) (
        λ e r. omega (arith, covered.1 r, (told.unrealizable_exactly.0 e).1),
        λ none.
            let over : StartCovered K (table_of rs) X → ⊥ = λ l. none (covered.0 l) in
            told.unrealizable_exactly.1 (p, omega arith),
      )

  -- the bytes of the controller written are those of the rows
  pub controller-rows : code s.answer ≡ 0 → controller_written (table_of rs) s ≡ row_bytes (controller_rows K (table_of rs) X)
  unfolding solved_from answered controller_rows
  controller-rows e =
      let c = code-covered e in
      let t = table_of rs in
      let ws = winners K t X in
      let rows = controller_rows K t X in
      rw (told.judged.grants c.0, lt-ltb (start_state K t ws) (length ws) c.1)
      (take_at (row_bytes rows) (drop (length (row_bytes rows)) con) (length ws * t.inputs * 4)
      (rows-bytes rows ∙ ap (λ (n : ℕ). n * 4) (rows-number K t X c.1)))

  pub controller_realizes : code s.answer ≡ 0 → Realizes K (table_of rs) (controller_of (table_of rs) s)
  unfolding solved_from answered controller_rows
  controller_realizes e =
      let c = code-covered e in
      let ws = winners K (table_of rs) X in
      rw (told.judged.grants c.0, lt-ltb (start_state K (table_of rs) ws) (length ws) c.1)
      (written_realize K rs X (stage c.0) con c.1)

  -- the rounds reported
  pub rounds-smallest_repeat : Passes cs → SmallestRepeat K (table_of rs) X s.answer.rounds
  unfolding solved_from answered
  rounds-smallest_repeat p =
      let t = table_of rs in
      let output = (stage p).good.some-output in
      rw (told.judged.grants p)
      (record {
        repeats = rounds_settled K t X (stage p).first output;
        smallest = rounds-smallest K t X (stage p).first;
        at_most = omega (arith, rounds-bound K t X (stage p).first output);
      })

  pub winners_cover : Passes cs → (F : Position) → length F ≡ (table_of rs).controllers
      → Wins K (table_of rs) F ↔ Covers (table_of rs) s F
  unfolding solved_from answered controller_rows
  winners_cover p F e = rw (told.judged.grants p) (wins_listed K rs X (stage p) win F e)

  -- demand 2 whole
  pub stage_solves : Unrefused s.answer → Solves K (table_of rs) X s
  stage_solves u =
      let p = unrefused_passes u in
      record {
        realizable_exactly = realizable_exactly p;
        unrealizable_exactly = unrealizable_exactly p;
        controller_realizes = controller_realizes;
        winners_cover = winners_cover p;
        rounds-smallest = rounds-smallest_repeat p;
      }

-- solving runs the rounds on the table from all safe positions
pub solve-stage : (bytes : List ℕ) (K N : ℕ) (win con : List ℕ) → Passes (solve_checks bytes K N win con)
    → Stage K (records_of bytes) (all_safe K (table_of (records_of bytes)).controllers)
solve-stage bytes K N win con p = table-stage K (records_of bytes) (passes_sound 0 bytes (solve-passes bytes K N win con p).table)

-- by parts they end on the joined table from the pairs
pub parts-stage : (one two : List ℕ) (K N : ℕ) (win con : List ℕ) → Passes (parts_checks one two K N win con)
    → Stage K (joined (records_of one) (records_of two)) (pairs K (table_of (records_of one)) (table_of (records_of two)))
parts-stage one two K N win con p =
    joined-stage K (records_of one) (records_of two) (passes-paired one two (parts-passes one two K N win con p).pair)
