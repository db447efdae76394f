-- By parts as afresh: from the pairs and from all safe positions the joined table comes to one winning set (Parts.antt), and the verdict,
-- the winning list and the rows depend on that set alone, whatever the buffers held. So do the results of two calls, where neither is
-- full (NotFull.antt).
use mathlib.Core.Path.{◌≡◌, refl, sym, ap, ◌∙◌, subst, fun_ext}
use mathlib.Core.Bool.{Bool, true, false, cond}
use mathlib.Core.List.{List}
use Prim.Native.Nat.{ℕ, ◌*◌, ◌<◌}
use native.Mathlib.Omega.{arith}
use lib.ListN.{length, take, drop}
use lib.Seq.{take_at}
use lib.Dec.{ltb}
use borrow.Author.Tests.{ltb-true}
use Rattle.meaning.specs.declared.Verdict.TheVariants.{Realizable, Unrealizable}
use Rattle.meaning.specs.Lists.{written}
use Rattle.meaning.specs.Records.{records_of}
use Rattle.meaning.specs.Table.{Table, stated}
use Rattle.meaning.specs.Counting.{Position}
use Rattle.meaning.specs.Rounds.{Set, all_safe, rounds, winning, maximal_members}
use Rattle.meaning.specs.Written.{winners, winners_bytes, start_state, row_bytes, rows_from}
use Rattle.meaning.specs.Join.{joined_table, joined_bytes, pairs}
use Rattle.meaning.specs.Checks.{Passes, bound, room, pair_checks}
use Rattle.meaning.specs.Answers.{code_of, Solved, unsolved, refused, answered, solved_from, solve, parts}
use Rattle.meaning.specs.Calls.{code, SameResult}
use Rattle.meaning.proofs.Rows.{rows-from-number}
use Rattle.meaning.proofs.Buffers.{winners-bytes, rows-bytes}
use Rattle.meaning.proofs.Sound.{sound_good, passes-paired}
use Rattle.meaning.proofs.Parts.{pairs-winning}
use Rattle.meaning.proofs.Join.{joined_union}
use Rattle.meaning.proofs.NotFull.{bounded, parts_unless_full, joined_unless_full}

-- what was written at the front does not depend on what stood there
front-written : (new old : List ℕ) (n : ℕ) → length new ≡ n → take n (written new old) ≡ new
front-written new old n e = take_at new (drop (length new) old) n e

-- one winning set and list give one result
answered-same : (K : ℕ) (t : Table) (won : Set) (ws : List Position) (r r' : ℕ) (win con win' con' : List ℕ)
    → SameResult t (answered K t won ws r win con) (answered K t won ws r' win' con')
unfolding answered
answered-same K t won ws r r' win con win' con' =
    record {
      same_verdict = refl;
      same_number = refl;
      same-winners = front win ∙ sym (front win');
      same-controller = λ zero. rows (ltb s (length ws)) zero (ltb-true s (length ws));
    }
  where
    s : ℕ
    s = start_state K t ws

    front : (old : List ℕ) → take (8 * length ws) (written (winners_bytes ws) old) ≡ winners_bytes ws
    front old = front-written (winners_bytes ws) old (8 * length ws) (omega (arith, winners-bytes ws))

    n : ℕ
    n = length ws * t.inputs * 4

    new : List ℕ
    new = row_bytes (rows_from K t won ws s)

    rows : (b : Bool) → code_of (cond b (Realizable s) Unrealizable) ≡ 0 → (b ≡ true → s < length ws)
        → take n (cond b (written new con) con) ≡ take n (cond b (written new con') con')
    rows true z covered =
        let size : length new ≡ n = rows-bytes (rows_from K t won ws s)
        ∙ ap (λ (m : ℕ). m * 4) (rows-from-number K t won ws s (covered refl)) in
        front-written new con n size ∙ sym (front-written new con' n size)
    rows false z covered = absurd (omega arith)

-- so does one winning set, from whatever first set it came
solved-same : (K : ℕ) (t : Table) (X Y : Set) (win con win' con' : List ℕ) → ((F : Position) → winning K t X F ≡ winning K t Y F)
    → SameResult t (solved_from K t X win con) (solved_from K t Y win' con')
unfolding solved_from winners
solved-same K t X Y win con win' con' e =
    subst
    (λ (won : Set). SameResult t (solved_from K t X win con)
    (answered K t won (maximal_members K t.controllers won) (rounds K t Y) win' con'))
    (fun_ext e) (answered-same K t (winning K t X) (winners K t X) (rounds K t X) (rounds K t Y) win con win' con')

-- and 2 refuses alike
pub bounded-same : (K : ℕ) (t : Table) (win con win' con' : List ℕ) (s o : Solved) → SameResult t s o
    → SameResult t (bounded K win con s) (bounded K win' con' o)
unfolding bound unsolved refused
bounded-same K t win con win' con' s o same = go (ltb 7 K) refl
  where
    go : (b : Bool) → ltb 7 K ≡ b → SameResult t (bounded K win con s) (bounded K win' con' o)
    go true e = rw e (record { same_verdict = refl; same_number = refl; same-winners = refl; same-controller = λ z. absurd (omega arith) })
    go false e = rw e same

pub parts_agree : (one two : List ℕ) (K N M : ℕ) (win con win' con' : List ℕ) → Passes (pair_checks one two)
    → (room N win con).failed ≡ false → (room M win' con').failed ≡ false
    → (code (parts one two K N win con).answer ≡ 11 → ⊥) → (code (solve (joined_bytes one two) K M win' con').answer ≡ 11 → ⊥)
    → SameResult (joined_table one two) (parts one two K N win con) (solve (joined_bytes one two) K M win' con')
parts_agree one two K N M win con win' con' p room-here room-there spare spare' =
    let t = stated one in
    let u = stated two in
    let whole = joined_table one two in
    let o : 0 < t.outputs = (sound_good (records_of one) (passes-paired one two p).first).some-output in
    let X = pairs K t u in
    let Y = all_safe K whole.controllers in
    rw (parts_unless_full one two K N win con p room-here spare, joined_unless_full one two K M win' con' p room-there spare')
    (bounded-same K whole win con win' con' (solved_from K whole X win con) (solved_from K whole Y win' con')
    (solved-same K whole X Y win con win' con' (pairs-winning t u whole (joined_union one two p) K o)))
