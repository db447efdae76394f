-- FULL exactly. A stage passes the room if and only if some named set of some round up to the settled one has more maximal members than
-- N: the largest of the sets' numbers passes N exactly if one of them does. And a call that passes 2 to 10, 13 and 14 is refused as full
-- exactly if a stage of it, or the list of pairs, passes the room: no other reason is left, for NOTHING is never given for a good table,
-- in which the position with -1 everywhere wins.
use mathlib.Core.Path.{◌≡◌, refl, sym, ap, ◌∙◌}
use mathlib.Core.Logic.{◌↔◌, ◌⊎◌, inl, inr, ⊎_elim}
use mathlib.Core.Bool.{true, false, not}
use mathlib.Core.List.Memᴰ
use mathlib.Core.List.{List, [], ◌∷◌, ◌++◌, Memᴰ}
use Prim.Native.Nat.{ℕ, suc, ◌≤◌, ◌<◌}
use native.Mathlib.Decide.{dec_lt}
use native.Mathlib.Omega.{arith}
use lib.ListN.{length}
use lib.Dec.{eqb, ltb, lit<}
use borrow.Author.Tests.{ltb-true, lt-ltb, ne_eqb}
use Rattle.meaning.specs.declared.Refusal.TheVariants.{Full, Nothing}
use Rattle.meaning.specs.Lists.{largest}
use Rattle.meaning.specs.Records.{records_of}
use Rattle.meaning.specs.Table.{Table, table_of, stated}
use Rattle.meaning.specs.Rounds.{Set, all_safe, set_a, set_b, set_w, maximal_members, rounds, width_of_round, full, Crowded, Overfull, in-W}
use Rattle.meaning.specs.Rounds.{in-A, in-B, FirstSet}
use Rattle.meaning.specs.Written.{winners}
use Rattle.meaning.specs.Join.{pairs, joined_table}
use Rattle.meaning.specs.Checks.{Check, bound, room, table_checks, stage_checks, solve_checks, pair_checks, parts_checks, Passes, Fails}
use Rattle.meaning.proofs.Tests.{both, clash, largest-passes, passes-largest}
use Rattle.meaning.proofs.Rounds.{all_safe-first}
use Rattle.meaning.proofs.Maximal.{some_winner}
use Rattle.meaning.proofs.Checks.{passes-member, passes_at, passes-left, passes-right, Failure, fails-member, first_failure}
use Rattle.meaning.specs.Checks.{FailsWith, parts_stages, check}
use Rattle.meaning.specs.Demands.{PartsFull, TableFull}
use Rattle.meaning.proofs.Sound.{sound_good, passes-good, passes-paired}
use Rattle.meaning.proofs.Parts.{pairs_first}
use Rattle.meaning.proofs.JoinUnion.{paired_union}

-- the width of a round passes N exactly if the round is crowded
pub width_crowded : (K : ℕ) (t : Table) (W : Set) (N : ℕ) → (N < width_of_round K t W) ↔ Crowded K t W N
unfolding width_of_round
width_crowded K t W N = (find (dec_lt N in_w) (dec_lt N (largest (suc t.inputs) in_a)), pass)
  where
    in_w : ℕ
    in_w = length (maximal_members K t.controllers W)

    in_a : ℕ → ℕ
    in_a j = length (maximal_members K t.worlds (set_a K t W j))

    in_b : ℕ → ℕ
    in_b k = length (maximal_members K t.controllers (set_b K t W k))

    find : Dec (N < in_w) → Dec (N < largest (suc t.inputs) in_a) → N < width_of_round K t W → Crowded K t W N
    find (yes w) a h = in-W w
    find (no w) (yes a) h = let r = largest-passes N t.inputs in_a a in in-A r.0 r.1 r.2
    find (no w) (no a) h = let r = largest-passes N t.outputs in_b (omega arith) in in-B r.0 r.1 r.2

    pass : Crowded K t W N → N < width_of_round K t W
    pass (in-W w) = omega arith
    pass (in-A j l a) = omega (arith, passes-largest N t.inputs in_a j l a)
    pass (in-B k l b) = omega (arith, passes-largest N t.outputs in_b k l b)

pub full-exactly : (K : ℕ) (t : Table) (X : Set) (N : ℕ)
    → (full K t X N ≡ true) ↔ ((r : ℕ) × (r ≤ rounds K t X) × Crowded K t (set_w K t X r) N)
unfolding full
full-exactly K t X N =
    let width : ℕ → ℕ = λ r. width_of_round K t (set_w K t X r) in
    let widest = largest (suc (rounds K t X)) width in (
      λ p.
          let r = largest-passes N (rounds K t X) width (ltb-true N widest p) in
          (r.0, r.1, (width_crowded K t (set_w K t X r.0) N).0 r.2),
      λ c. lt-ltb N widest (passes-largest N (rounds K t X) width c.0 c.1 ((width_crowded K t (set_w K t X c.0) N).1 c.2)),
    )

-- Of checks: none that fails gives another reason than FULL, and one fails exactly if P
pub record FullOnly (cs : List Check) (P : Type 0) : Type 0 where
  pub fails : (c : Check) → Memᴰ c cs → c.failed ≡ true → (c.refusal ≡ Full) × P
  pub passes : Passes cs → P → ⊥

-- then FULL is given exactly if P
pub full-given : {cs : List Check} {P : Type 0} → FullOnly cs P → FailsWith cs Full ↔ P
full-given {cs} {P} only = (λ f. (told f.0 f.1 f.2).1, λ p. given p (first_failure cs))
  where
    told : (i : ℕ) (c : Check) → Fails cs i c → (c.refusal ≡ Full) × P
    told i c f = only.fails c (fails-member cs i c f) f.fails

    given : P → Passes cs ⊎ Failure cs → FailsWith cs Full
    given p (inl q) = absurd (only.passes q p)
    given p (inr f) = (f.0, f.1, f.2, (told f.0 f.1 f.2).0)

-- one check
pub full-one : (c : Check) {P : Type 0} → c.refusal ≡ Full → (c.failed ≡ true) ↔ P → FullOnly (c ∷ []) P
full-one c e exact =
    record {
      fails = λ d m failed.
          let same : d ≡ c = Memᴰ.eq_of_singleton m in
          (ap (λ (d : Check). d.refusal) same ∙ e, exact.0 (ap (λ (d : Check). d.failed) (sym same) ∙ failed));
      passes = λ p q. clash c.failed (exact.1 q) (passes_at (c ∷ []) p 0 c (lit< tt));
    }

-- two lists of checks one after the other
pub full-append : {cs ds : List Check} {P Q : Type 0} → FullOnly cs P → FullOnly ds Q → FullOnly (cs ++ ds) (P ⊎ Q)
full-append {cs} {ds} one two =
    record {
      fails = λ c m failed.
          ⊎_elim (λ k. let r = one.fails c k failed in (r.0, inl r.1)) (λ k. let r = two.fails c k failed in (r.0, inr r.1))
          (Memᴰ.append_cases cs m);
      passes = λ p. ⊎_elim (one.passes (passes-left cs ds p)) (two.passes (passes-right cs ds p));
    }

-- checks that pass, before and after others
pub full-before : (cs : List Check) {ds : List Check} {P : Type 0} → Passes cs → FullOnly ds P → FullOnly (cs ++ ds) P
full-before cs {ds} p only =
    record {
      fails = λ c m failed.
          ⊎_elim (λ k. absurd (clash c.failed failed (passes-member cs p c k))) (λ k. only.fails c k failed)
          (Memᴰ.append_cases cs m);
      passes = λ q. only.passes (passes-right cs ds q);
    }

pub full-after : {cs : List Check} (ds : List Check) {P : Type 0} → Passes ds → FullOnly cs P → FullOnly (cs ++ ds) P
full-after {cs} ds p only =
    record {
      fails = λ c m failed.
          ⊎_elim (λ k. only.fails c k failed) (λ k. absurd (clash c.failed failed (passes-member ds p c k)))
          (Memᴰ.append_cases cs m);
      passes = λ q. only.passes (passes-left cs ds q);
    }

-- a stage may give FULL alone: "no position wins at all" never holds where there is an output (`some_winner`)
pub full-stage : (which K N : ℕ) (t : Table) (X : Set) → FirstSet K t X → 0 < t.outputs
    → FullOnly (stage_checks which K N t X) (Overfull K t X N)
unfolding stage_checks
full-stage which K N t X first output =
    let number = length (winners K t X) in
    let none : Check = record { failed = eqb number 0; refusal = Nothing; fault_at = 0; table = 0 } in
    let some : eqb number 0 ≡ false = ne_eqb number 0 (λ e. omega (arith, some_winner K t X first output)) in
    full-after (none ∷ []) (both (not none.failed) true (ap not some) refl)
    (full-one (record { failed = full K t X N; refusal = Full; fault_at = 0; table = which }) refl (full-exactly K t X N))

-- solving
pub solve-full : (bytes : List ℕ) (K N : ℕ) (win con : List ℕ) → (bound K).failed ≡ false → (room N win con).failed ≡ false
    → Passes (table_checks 0 bytes)
    → FailsWith (solve_checks bytes K N win con) Full ↔ TableFull bytes K N
unfolding solve_checks
solve-full bytes K N win con b m p =
    let t = table_of (records_of bytes) in
    let output = (passes-good 0 bytes p).some-output in
    let stage = full-stage 0 K N t (all_safe K t.controllers) (all_safe-first K t) output in
    full-given (full-before (bound K ∷ room N win con ∷ table_checks 0 bytes) (rw (b, m) p) stage)

-- by parts: "FULL applies to each of the three stages in turn, and to that first list of pairs"
pub full-parts : (one two : List ℕ) → Passes (pair_checks one two) → (K N : ℕ) → FullOnly (parts_stages one two K N) (PartsFull one two K N)
unfolding parts_stages
full-parts one two p K N =
    let t = stated one in
    let u = stated two in
    let whole = joined_table one two in
    let pair = passes-paired one two p in
    let union = paired_union (records_of one) (records_of two) pair in
    let number = length (maximal_members K whole.controllers (pairs K t u)) in
    let output : 0 < t.outputs = (sound_good (records_of one) pair.first).some-output in
    full-append
    (full-append (full-stage 1 K N t (all_safe K t.controllers) (all_safe-first K t) output)
    (full-stage 2 K N u (all_safe K u.controllers) (all_safe-first K u) (omega (arith, pair.outputs-same))))
    (full-append (full-one (check Full 0 0 (ltb N number)) refl (ltb-true N number, lt-ltb N number))
    (full-stage 0 K N whole (pairs K t u) (pairs_first t u whole union K output) (omega (arith, union.outputs))))

pub parts-full : (one two : List ℕ) (K N : ℕ) (win con : List ℕ) → (bound K).failed ≡ false → (room N win con).failed ≡ false
    → Passes (pair_checks one two) → FailsWith (parts_checks one two K N win con) Full ↔ PartsFull one two K N
unfolding parts_checks
parts-full one two K N win con b m p =
    full-given (full-before (bound K ∷ room N win con ∷ pair_checks one two) (rw (b, m) p) (full-parts one two p K N))
