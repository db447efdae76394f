-- Joined the other way round, or with itself, a table's start position wins where it won before (Swap.antt), so the verdict is the same,
-- whatever the buffers and the room, where neither call is full (NotFull.antt); swapped, the rounds, the number of winners and FULL are
-- the same too (Widths.antt).
use mathlib.Core.Path.{◌≡◌, refl, sym, ap, ◌∙◌}
use mathlib.Core.Logic.{◌↔◌}
use mathlib.Core.Bool.{Bool, true, false, cond}
use mathlib.Core.List.{List, [], ◌∷◌, ◌++◌}
use Prim.Native.Nat.{ℕ}
use native.Mathlib.Omega.{arith}
use lib.ListN.{length, length-append}
use lib.Dec.{ltb}
use borrow.Author.Tests.{ltb-true, lt-ltb}
use Rattle.meaning.specs.declared.Verdict.TheVariants.{Realizable, Unrealizable}
use Rattle.meaning.specs.Records.{records_of}
use Rattle.meaning.specs.Table.{Table, stated}
use Rattle.meaning.specs.Counting.{Position, start_position}
use Rattle.meaning.specs.Rounds.{Set, all_safe, winning, FirstSet}
use Rattle.meaning.specs.Written.{winners, start_state}
use Rattle.meaning.specs.Join.{joined_table, joined_bytes}
use Rattle.meaning.specs.Checks.{Passes, bound, room, pair_checks, Check, stage_checks, judge}
use Rattle.meaning.specs.Answers.{code_of, refused, Solved, unsolved, answered, solved_from, solve}
use Rattle.meaning.specs.Calls.{code, SameNumbers}
use Rattle.meaning.specs.Play.{Wins}
use Rattle.meaning.proofs.Tests.{same_test}
use Rattle.meaning.proofs.Rounds.{all_safe-first}
use Rattle.meaning.proofs.Winning.{winning_wins}
use Rattle.meaning.proofs.Realizes.{start-length, start-covered}
use Rattle.meaning.proofs.Sound.{sound_good, passes-first, passes-paired}
use Rattle.meaning.proofs.Follows.{winning_set}
use Rattle.meaning.proofs.Union.{Union, controllers_sum, start-append}
use Rattle.meaning.proofs.Swap.{swap_rounds, swap_winning, self_winning}
use Rattle.meaning.proofs.Widths.{swap_winners, swap_full}
use Rattle.meaning.proofs.Join.{joined_union, joined-good, pair-swapped}
use Rattle.meaning.proofs.NotFull.{solve_unless_full, joined_unless_full, joined-staged}
use Rattle.meaning.proofs.Checks.{judge_alike}

-- the code says whether the start position is in the winning set
start-code : (K : ℕ) (t : Table) (X : Set) (win con : List ℕ) → FirstSet K t X
    → code (solved_from K t X win con).answer ≡ cond (winning K t X (start_position K t)) 0 1
unfolding solved_from answered
start-code K t X win con first = rw won (go (winning K t X (start_position K t)))
  where
    s : ℕ
    s = start_state K t (winners K t X)

    won : ltb s (length (winners K t X)) ≡ winning K t X (start_position K t)
    won =
        let number = length (winners K t X) in
        let covered = start-covered K t X first in
        same_test (ltb s number) (winning K t X (start_position K t)) (λ l. covered.0 (ltb-true s number l))
        (λ w. lt-ltb s number (covered.1 w))

    go : (b : Bool) → code_of (cond b (Realizable s) Unrealizable) ≡ cond b 0 1
    go true = refl
    go false = refl

-- what solving a table from all safe positions comes to
abbrev granted : ℕ → Table → List ℕ → List ℕ → Solved
granted K t win con = solved_from K t (all_safe K t.controllers) win con

-- two tables whose start positions win alike have the same code
granted-code : (K : ℕ) (t u : Table) (win con win' con' : List ℕ)
    → winning_set K t (start_position K t) ≡ winning_set K u (start_position K u)
    → code (granted K t win con).answer ≡ code (granted K u win' con').answer
granted-code K t u win con win' con' e =
    start-code K t (all_safe K t.controllers) win con (all_safe-first K t) ∙ ap (λ (b : Bool). cond b 0 1) e
    ∙ sym (start-code K u (all_safe K u.controllers) win' con' (all_safe-first K u))

-- swapped
module _ (K : ℕ) (t u whole other : Table) (un : Union t u whole) (on : Union u t other) where
  swap_start : winning_set K whole (start_position K whole) ≡ winning_set K other (start_position K other)
  swap_start =
      rw (start-append t u whole un K, start-append u t other on K)
      (sym (swap_winning K t u whole other un on (start_position K t) (start_position K u) (start-length K t) (start-length K u)))

  -- after any checks that are the same of both
  swap_judged : (cs : List Check) (win con win' con' : List ℕ)
      → SameNumbers (judge cs (unsolved win con) (granted K whole win con)) (judge cs (unsolved win' con') (granted K other win' con'))
  unfolding solved_from answered unsolved refused
  swap_judged cs win con win' con' =
      let s = granted K whole win con in
      let o = granted K other win' con' in
      let refuse = unsolved win con in
      let refuse' = unsolved win' con' in
      record {
        same_code =
            judge_alike (λ (s : Solved). code s.answer) cs refuse refuse' s o (λ c. refl)
            (granted-code K whole other win con win' con' swap_start);
        same-rounds =
            judge_alike (λ (s : Solved). s.answer.rounds) cs refuse refuse' s o (λ c. refl) (sym (swap_rounds K t u whole other un on));
        same_number =
            judge_alike (λ (s : Solved). s.answer.winners) cs refuse refuse' s o (λ c. refl) (swap_winners K t u whole other un on);
      }

  -- 11 and 12 are
  swap_checks : (N : ℕ) → stage_checks 0 K N whole (all_safe K whole.controllers)
      ≡ stage_checks 0 K N other (all_safe K other.controllers)
  unfolding stage_checks
  swap_checks N = rw (swap_full K t u whole other un on N, swap_winners K t u whole other un on)

pub swap_answers : (one two : List ℕ) (K N M : ℕ) (win con win' con' : List ℕ) → Passes (pair_checks one two)
    → (room N win con).failed ≡ false → (room M win' con').failed ≡ false
    → (code (solve (joined_bytes one two) K N win con).answer ≡ 11 → ⊥)
    → (code (solve (joined_bytes two one) K M win' con').answer ≡ 11 → ⊥)
    → SameNumbers (solve (joined_bytes one two) K N win con) (solve (joined_bytes two one) K M win' con')
swap_answers one two K N M win con win' con' p room-here room-there spare spare' =
    let q = pair-swapped one two p in
    rw (joined_unless_full one two K N win con p room-here spare, joined_unless_full two one K M win' con' q room-there spare')
    (swap_judged K (stated one) (stated two) (joined_table one two) (joined_table two one) (joined_union one two p) (joined_union two one q)
    (bound K ∷ []) win con win' con')

-- with equal room, FULL too
pub swap_alike : (one two : List ℕ) (K N : ℕ) (win con win' con' : List ℕ) → Passes (pair_checks one two)
    → (room N win con).failed ≡ false → (room N win' con').failed ≡ false
    → SameNumbers (solve (joined_bytes one two) K N win con) (solve (joined_bytes two one) K N win' con')
swap_alike one two K N win con win' con' p room-here room-there =
    let q = pair-swapped one two p in
    let t = stated one in
    let u = stated two in
    let whole = joined_table one two in
    let other = joined_table two one in
    let un = joined_union one two p in
    let on = joined_union two one q in
    rw (
      joined-staged one two K N win con p room-here,
      joined-staged two one K N win' con' q room-there,
      swap_checks K t u whole other un on N,
    )
    (swap_judged K t u whole other un on (bound K ∷ stage_checks 0 K N other (all_safe K other.controllers)) win con win' con')

pub swap_wins : (one two : List ℕ) → Passes (pair_checks one two) → (K : ℕ) (F G : Position) → length F ≡ (stated one).controllers
    → length G ≡ (stated two).controllers → Wins K (joined_table one two) (F ++ G) → Wins K (joined_table two one) (G ++ F)
swap_wins one two p K F G eF eG w =
    let q = pair-swapped one two p in
    let whole = joined_table one two in
    let other = joined_table two one in
    let un = joined_union one two p in
    let on = joined_union two one q in
    (winning_wins K other (joined-good two one q) (G ++ F)
    (omega (arith, length-append G F, controllers_sum (stated two) (stated one) other on))).0
    (swap_winning K (stated one) (stated two) whole other un on F G eF eG
    ∙ (winning_wins K whole (joined-good one two p) (F ++ G)
    (omega (arith, length-append F G, controllers_sum (stated one) (stated two) whole un))).1 w)

-- beside itself
pub self_answers : (one : List ℕ) (K N M : ℕ) (win con win' con' : List ℕ) → Passes (pair_checks one one)
    → (room N win con).failed ≡ false → (room M win' con').failed ≡ false
    → (code (solve (joined_bytes one one) K N win con).answer ≡ 11 → ⊥) → (code (solve one K M win' con').answer ≡ 11 → ⊥)
    → code (solve (joined_bytes one one) K N win con).answer ≡ code (solve one K M win' con').answer
unfolding unsolved refused
self_answers one K N M win con win' con' p room-here room-there spare spare' =
    let t = stated one in
    let whole = joined_table one one in
    let un = joined_union one one p in
    let good = sound_good (records_of one) (passes-paired one one p).first in
    let start : winning_set K whole (start_position K whole) ≡ winning_set K t (start_position K t) =
    rw (start-append t t whole un K) (self_winning K t whole un good.some-output (start_position K t) (start-length K t)) in
    rw (
      joined_unless_full one one K N win con p room-here spare,
      solve_unless_full one K M win' con' (passes-first one one p 0)
          room-there spare',
    )
    (judge_alike (λ (s : Solved). code s.answer) (bound K ∷ []) (unsolved win con) (unsolved win' con') (granted K whole win con)
    (granted K t win' con') (λ c. refl) (granted-code K whole t win con win' con' start))

pub self_wins_alike : (one : List ℕ) → Passes (pair_checks one one) → (K : ℕ) (F : Position) → length F ≡ (stated one).controllers
    → Wins K (joined_table one one) (F ++ F) ↔ Wins K (stated one) F
self_wins_alike one p K F e =
    let t = stated one in
    let whole = joined_table one one in
    let un = joined_union one one p in
    let good = sound_good (records_of one) (passes-paired one one p).first in
    let same = self_winning K t whole un good.some-output F e in
    let beside = winning_wins K whole (joined-good one one p) (F ++ F) (omega (arith, length-append F F, controllers_sum t t whole un)) in
    let alone = winning_wins K t good F e in
    (λ w. alone.0 (sym same ∙ beside.1 w), λ w. beside.0 (same ∙ alone.1 w))
