-- Nothing of an answer is lost in its bytes: four bytes hold a number below 2 ^ 32, and every field of an answer of the three calls is
-- one. A code is at most 14, a place at most 4,160, which at most 2, rounds at most 9 ^ 8, and there are at most 256 winners. Assumes
-- nothing.
use mathlib.Core.Path.{◌≡◌, refl, sym, ap, ap₂, ◌∙◌}
use mathlib.Core.Bool.{Bool, true, false, cond, not, ◌||◌}
use mathlib.Core.List.{List, [], ◌∷◌, ◌++◌, flat_map}
use Prim.Native.Nat.{ℕ, ◌+◌, ◌*◌, ◌/◌, ◌%◌, ◌^◌, ◌≤◌, ◌<◌, zero-le}
use native.Mathlib.Nat.{div-div-eq-div-mul}
use native.Mathlib.Omega.{arith}
use borrow.Author.Tests.{ltb-true, ltb-false}
use lib.Dec.{eqb, ltb, lit<, lit≤}
use lib.ListN.{length, take, drop}
use lib.Seq.{take_at}
use Rattle.meaning.specs.declared.Answer.{Answer}
use Rattle.meaning.specs.declared.Refusal.TheVariants.{Full}
use Rattle.meaning.specs.declared.Verdict.TheVariants.{Realizable, Unrealizable, Refused}
use Rattle.meaning.specs.Lists.{place, written}
use Rattle.meaning.specs.Records.{records_of, outside}
use Rattle.meaning.specs.Table.{Table, table_of, stated}
use Rattle.meaning.specs.Rounds.{Set, all_safe, rounds, full, maximal_members}
use Rattle.meaning.specs.Written.{winners, start_state}
use Rattle.meaning.specs.Join.{joined, pairs, joined_bytes, joined_table}
use Rattle.meaning.specs.Answers.{start_of, refused, Solved, unsolved, solved_from, solve, Joined, join, parts, unjoined, joined_into}
use Rattle.meaning.specs.Answers.{answered}
use Rattle.meaning.specs.Checks.{Check, judge, bound, room, room_to_join, wrong_size, descent, dangling, table_checks, stage_checks, check}
use Rattle.meaning.specs.Checks.{solve_checks, pair_checks, other_letters, too_large, join_checks, parts_checks, Passes, parts_stages}
use Rattle.meaning.specs.Play.{rows_in}
use Rattle.meaning.specs.Controller.{misshapen, foreign, check_checks, verdict_on, CheckCall}
use Rattle.meaning.proofs.Tests.{neither_right, first-le, cond_cases}
use Rattle.meaning.proofs.Checks.{passes_at, passes-right}
use Rattle.meaning.proofs.Answers.{solve-passes, parts-passes}
use Rattle.meaning.proofs.Sound.{sound_small, passes-small, passes-paired}
use Rattle.meaning.proofs.Buffers.{winners-number, room-grants}
use Rattle.meaning.proofs.JoinGood.{joined_length, joined_sound}
use Rattle.meaning.proofs.Records.{records_count}
use Rattle.meaning.proofs.Rounds.{rounds-few}
use Rattle.meaning.proofs.Codes.{code_below}
use Rattle.calls.specs.Called.{fields, four_bytes, answer_bytes, numbers_in}
use Rattle.calls.proofs.Laid.{four_length}

-- each number is below 2 ^ 32
abbrev pub Fit : List ℕ → Type 0
Fit [] = Unit {0}
Fit (x ∷ xs) = (x < 4294967296) × Fit xs

four_told : (x : ℕ) → x < 4294967296 → x % 256 + 256 * (x / 256 % 256) + 65536 * (x / 65536 % 256) + 16777216 * (x / 16777216 % 256) ≡ x
four_told x h =
    let third : x / 65536 ≡ x / 256 / 256 = sym (div-div-eq-div-mul x 256 256) in
    let fourth : x / 16777216 ≡ x / 256 / 256 / 256 = sym (div-div-eq-div-mul (x / 256) 256 256 ∙ div-div-eq-div-mul x 256 65536) in
    rw (third, fourth) (go x h)
  where
    go : (x : ℕ) → x < 4294967296 → x % 256 + 256 * (x / 256 % 256) + 65536 * (x / 256 / 256 % 256)
        + 16777216 * (x / 256 / 256 / 256 % 256) ≡ x
    go x h = omega arith

pub numbers_told : (xs : List ℕ) → Fit xs → numbers_in (flat_map four_bytes xs) ≡ xs
unfolding flat_map four_bytes
numbers_told [] fit = refl
numbers_told (x ∷ xs) fit = ap₂ (λ (y : ℕ) (ys : List ℕ). y ∷ ys) (four_told x fit.0) (numbers_told xs fit.1)

-- what holds of the first check that fails, whichever it is
abbrev Each : (Check → Type 0) → List Check → Type 0
Each P [] = Unit {0}
Each P (c ∷ cs) = (c.failed ≡ true → P c) × (c.failed ≡ false → Each P cs)

each_append : (P : Check → Type 0) (cs ds : List Check) → Each P cs → Each P ds → Each P (cs ++ ds)
each_append P [] ds p q = q
each_append P (c ∷ cs) ds p q = (p.0, λ f. each_append P cs ds (p.1 f) q)

-- an answer's place and which are few
abbrev Few : Check → Type 0
Few c = (c.fault_at ≤ 4160) × (c.table ≤ 2)

table-few : (which : ℕ) (bytes : List ℕ) → which ≤ 2 → Each Few (table_checks which bytes)
unfolding table_checks wrong_size
table-few which bytes w =
    let rs = records_of bytes in
    let ragged = eqb (length bytes) 0 || not (eqb (length bytes % 4) 0) in
    let none : (0 ≤ 4160) × (which ≤ 2) = (zero-le, w) in (
      λ _. none,
      λ sized.
          let size = ltb-false 4160 (length bytes) (neither_right ragged (ltb 4160 (length bytes)) sized) in
          let number : length rs ≤ 4160 = omega (arith, records_count bytes) in
          let at : (i : ℕ) → ltb i (length rs) ≡ true → (i ≤ 4160) × (which ≤ 2) = λ i f. (omega (arith, ltb-true i (length rs) f), w) in (
            at (place outside rs),
            λ _. (
              at (descent rs),
              λ _.
                  (λ _. none, λ _. (λ _. none, λ _. (at (place (dangling (table_of rs)) rs), λ _. (λ _. none, λ _. tt)))),
            ),
          ),
    )

stage-few : (which K N : ℕ) (t : Table) (X : Set) → which ≤ 2 → Each Few (stage_checks which K N t X)
unfolding stage_checks
stage-few which K N t X w = (λ _. (zero-le, w), λ _. (λ _. (zero-le, zero-le), λ _. tt))

pair-few : (one two : List ℕ) → Each Few (pair_checks one two)
unfolding pair_checks other_letters too_large
pair-few one two =
    each_append Few (table_checks 1 one ++ table_checks 2 two) _
    (each_append Few (table_checks 1 one) (table_checks 2 two) (table-few 1 one (lit≤ tt)) (table-few 2 two (lit≤ tt)))
    (λ _. (zero-le, zero-le), λ _. (λ _. (zero-le, zero-le), λ _. tt))

-- the fields of a refusal, and of whatever a list of checks comes to
refused-fits : (c : Check) → Few c → Fit (fields (refused c))
unfolding fields refused
refused-fits c few = (
  omega (arith, code_below (Refused c.refusal)),
  (omega (arith, few.0), (omega (arith, few.1), (lit< tt, (lit< tt, (lit< tt, tt))))),
)

judged-fits : {A : Type 0} (answer : A → Answer) (refuse : Check → A) (grant : A) → ((c : Check) → answer (refuse c) ≡ refused c)
    → (cs : List Check) → Each Few cs → (Passes cs → Fit (fields (answer grant))) → Fit (fields (answer (judge cs refuse grant)))
judged-fits answer refuse grant same [] few granted = granted refl
judged-fits answer refuse grant same (c ∷ cs) few granted =
    cond_cases c.failed (refuse c) (judge cs refuse grant) (λ o. Fit (fields (answer o))) (λ t. rw (same c) (refused-fits c (few.0 t)))
    (λ f. judged-fits answer refuse grant same cs (few.1 f) (λ p. granted (rw f p)))

-- and of a call that solves
start_fits : (won : Bool) (s number : ℕ) → (won ≡ true → s < number) → number ≤ 256
    → start_of (cond won (Realizable s) Unrealizable) < 4294967296
start_fits true s number h n = omega (arith, h refl)
start_fits false s number h n = lit< tt

rounds-le : (K : ℕ) (t : Table) (X : Set) → rounds K t X ≤ (K + 2) ^ t.controllers
unfolding rounds
rounds-le K t X = first-le ((K + 2) ^ t.controllers) _

solved-fits : (K N : ℕ) (t : Table) (X : Set) (win con : List ℕ) → K ≤ 7 → t.controllers ≤ 8 → N ≤ 256 → full K t X N ≡ false
    → Fit (fields (solved_from K t X win con).answer)
unfolding fields solved_from answered
solved-fits K N t X win con patient few within spare =
    let ws = winners K t X in
    let s = start_state K t ws in
    let won = ltb s (length ws) in
    let number : length ws ≤ 256 = omega (arith, winners-number K N t X spare) in (
      omega (arith, code_below (cond won (Realizable s) Unrealizable)),
      (
        lit< tt,
        (
          lit< tt,
          (
            omega (arith, rounds-le K t X, rounds-few K t.controllers patient few),
            (omega arith, (start_fits won s (length ws) (ltb-true s (length ws)) number, tt)),
          ),
        ),
      ),
    )

-- so the fields of each call's answer fit
pub solve-fits : (bytes : List ℕ) (K N : ℕ) (win con : List ℕ) → Fit (fields (solve bytes K N win con).answer)
unfolding solve solve_checks unsolved bound room stage_checks
solve-fits bytes K N win con =
    let rs = records_of bytes in
    let t = table_of rs in
    let X = all_safe K t.controllers in
    let none : Few (bound K) = (zero-le, zero-le) in
    judged-fits (λ (s : Solved). s.answer) (unsolved win con) (solved_from K t X win con) (λ c. refl) (solve_checks bytes K N win con) (
      λ _. none,
      λ _. (
        λ _. none,
        λ _. each_append Few (table_checks 0 bytes) (stage_checks 0 K N t X) (table-few 0 bytes zero-le)
            (stage-few 0 K N t X zero-le),
      ),
    )
    (λ p.
    let q = solve-passes bytes K N win con p in
    solved-fits K N t X win con (ltb-false 7 K q.in_bound) (passes-small 0 bytes q.table).controllers
    (room-grants N win con q.roomy).within
    (passes_at (stage_checks 0 K N t X) q.stage 0 (bound 0) (lit< tt)))

pub parts-fits : (one two : List ℕ) (K N : ℕ) (win con : List ℕ) → Fit (fields (parts one two K N win con).answer)
unfolding parts parts_checks parts_stages unsolved bound room stage_checks
parts-fits one two K N win con =
    let rs = joined (records_of one) (records_of two) in
    let both = joined_table one two in
    let X = pairs K (stated one) (stated two) in
    let none : Few (bound K) = (zero-le, zero-le) in
    let last = check Full 0 0 (ltb N (length (maximal_members K both.controllers X))) ∷ stage_checks 0 K N both X in
    let alone : ℕ → List ℕ → List Check = λ which bytes. stage_checks which K N (stated bytes) (all_safe K (stated bytes).controllers) in
    let few : (which : ℕ) (bytes : List ℕ) → which ≤ 2 → Each Few (alone which bytes) =
    λ which bytes w. stage-few which K N (stated bytes) (all_safe K (stated bytes).controllers) w in
    judged-fits (λ (s : Solved). s.answer) (unsolved win con) (solved_from K both X win con) (λ c. refl)
    (parts_checks one two K N win con) (
      λ _. none,
      λ _. (
        λ _. none,
        λ _. each_append Few (pair_checks one two) (parts_stages one two K N) (pair-few one two)
            (each_append Few (alone 1 one ++ alone 2 two) last
            (each_append Few (alone 1 one) (alone 2 two) (few 1 one (lit≤ tt)) (few 2 two (lit≤ tt)))
            (λ _. none, λ _. stage-few 0 K N both X zero-le)),
      ),
    )
    (λ p.
    let q = parts-passes one two K N win con p in
    solved-fits K N both X win con (ltb-false 7 K q.in_bound)
    (sound_small rs (joined_sound (records_of one) (records_of two) (passes-paired one two q.pair))).controllers
    (room-grants N win con q.roomy).within (passes_at (stage_checks 0 K N both X) q.last-stage 0 (bound 0) (lit< tt)))

pub join-fits : (one two out : List ℕ) → Fit (fields (join one two out).answer)
unfolding join join_checks room_to_join fields wrong_size
join-fits one two out =
    let new = joined_bytes one two in
    judged-fits (λ (j : Joined). j.answer) (unjoined out) (joined_into new out) (λ c. refl) (join_checks one two out)
    (λ _. (zero-le, zero-le), λ _. pair-few one two)
    (λ p.
    let pair = passes-paired one two (passes-right (room_to_join out ∷ []) (pair_checks one two) p) in
    let ragged = eqb (length new) 0 || not (eqb (length new % 4) 0) in
    let size = ltb-false 4160 (length new)
    (neither_right ragged (ltb 4160 (length new)) (joined_length (records_of one) (records_of two) pair)) in
    (lit< tt, (omega arith, (lit< tt, (lit< tt, (lit< tt, (lit< tt, tt)))))))

verdict_fits : (right : Bool) → Fit (fields (verdict_on right))
unfolding fields
verdict_fits true = (lit< tt, (lit< tt, (lit< tt, (lit< tt, (lit< tt, (lit< tt, tt))))))
verdict_fits false = (lit< tt, (lit< tt, (lit< tt, (lit< tt, (lit< tt, (lit< tt, tt))))))

pub check-fits : (bytes : List ℕ) (K : ℕ) (rows : List ℕ) (call : CheckCall bytes K rows) → Fit (fields call.answer)
unfolding check_checks bound misshapen foreign
check-fits bytes K rows call =
    let none : (0 ≤ 4160) × (0 ≤ 2) = (zero-le, zero-le) in
    let right = call.promise.right in
    rw call.promise.answers
    (judged-fits (λ (a : Answer). a) refused (verdict_on right) (λ c. refl) (check_checks bytes K rows) (
      λ _. none,
      λ _. each_append Few (table_checks 0 bytes) (misshapen rows ∷ foreign (stated bytes) (rows_in rows) ∷ []) (table-few 0 bytes zero-le)
          (λ _. none, λ _. (λ _. none, λ _. tt)),
    ) (λ _. verdict_fits right))

-- the answer is six fields of four bytes, low byte first: the first 24 bytes of the answer's buffer say the whole answer
pub said : (a : Answer) (ans : List ℕ) → Fit (fields a) → numbers_in (take 24 (written (answer_bytes a) ans)) ≡ fields a
unfolding answer_bytes fields
said a ans fit = ap numbers_in (take_at (answer_bytes a) (drop (length (answer_bytes a)) ans) 24 (four_length (fields a)))
    ∙ numbers_told (fields a) fit
