-- What the call join writes for two tables that may be joined, and what may be joined on. It is not refused, its bytes are the joined
-- records', and they state the two tables side by side and pass 4 to 10 again: so the pair's checks pass with the tables swapped, and
-- with a third table on either side where the sizes allow.
use mathlib.Core.Path.{sym, subst⁻¹, ◌∙◌, ◌≡◌, ap}
use mathlib.Core.Logic.{◌↔◌}
use mathlib.Core.List.{List}
use mathlib.Core.Bool.{false, true}
use Prim.Native.Nat.{ℕ, ◌+◌, ◌≤◌}
use native.Mathlib.Omega.{arith}
use lib.ListN.{length, take, drop, length-take, length-drop}
use lib.Seq.{take-append_seam}
use Rattle.meaning.specs.Records.{Record, records_of, bytes_of}
use Rattle.meaning.specs.Table.{table_of, stated, Good}
use Rattle.meaning.specs.Join.{joined, joined_bytes, joined_table, pairs}
use Rattle.meaning.specs.Answers.{join, joined_into}
use Rattle.meaning.specs.Checks.{room_to_join, table_checks, pair_checks, join_checks, Passes}
use Rattle.meaning.specs.Counting.{Position}
use Rattle.meaning.specs.Calls.{wrote}
use Rattle.meaning.specs.Play.{Wins}
use Rattle.meaning.specs.Rounds.{set_w}
use Rattle.meaning.proofs.Records.{records_back}
use Rattle.meaning.proofs.Answers.{join-judged}
use Rattle.meaning.proofs.Sound.{Sound, sound_passes, sound_good, Paired, paired-swapped, passes-first, passes-second, passes-paired}
use Rattle.meaning.proofs.Sound.{paired-passes}
use Rattle.meaning.proofs.Union.{Union, controllers_sum, worlds_sum}
use Rattle.meaning.proofs.JoinUnion.{paired_union}
use Rattle.meaning.proofs.JoinGood.{joined_length, joined_sound}
use Rattle.meaning.proofs.JoinOrder.{joined_grouped}
use Rattle.meaning.proofs.Winning.{winning_wins}
use Rattle.meaning.proofs.Rounds.{winning-within}
use Rattle.meaning.proofs.Parts.{pairs_first, pairs-winning, pairs-take, pairs-drop, pairs_of}

-- the joined table is the two side by side, and good,
pub joined_union : (one two : List ℕ) → Passes (pair_checks one two) → Union (stated one) (stated two) (joined_table one two)
joined_union one two p = paired_union (records_of one) (records_of two) (passes-paired one two p)

pub joined-good : (one two : List ℕ) → Passes (pair_checks one two) → Good (joined_table one two)
joined-good one two p = sound_good (joined (records_of one) (records_of two))
    (joined_sound (records_of one) (records_of two) (passes-paired one two p))

-- and its bytes pass 4 to 10
pub joined-passes : (one two : List ℕ) → Passes (pair_checks one two) → (which : ℕ) → Passes (table_checks which (joined_bytes one two))
joined-passes one two p which =
    let pair = passes-paired one two p in
    sound_passes which (joined_bytes one two) (joined_length (records_of one) (records_of two) pair)
    (subst⁻¹ Sound (records_back (joined (records_of one) (records_of two))) (joined_sound (records_of one) (records_of two) pair))

-- a join with room that passes the pair's checks is not refused, and writes the joined table's bytes
pub join-grants : (one two out : List ℕ) → (room_to_join out).failed ≡ false → Passes (pair_checks one two)
    → join one two out ≡ joined_into (joined_bytes one two) out
unfolding join_checks
join-grants one two out h p = (join-judged one two out).grants (rw h p)

pub join_makes : (one two out : List ℕ) → (room_to_join out).failed ≡ false → Passes (pair_checks one two)
    → wrote (join one two out) ≡ joined_bytes one two
join_makes one two out h p =
    rw (join-grants one two out h p) (take-append_seam (joined_bytes one two) (drop (length (joined_bytes one two)) out))

-- grouped anyhow, the bytes are the same
pub bytes_grouped : (a b c : List ℕ) → joined_bytes (joined_bytes a b) c ≡ joined_bytes a (joined_bytes b c)
bytes_grouped a b c =
    rw (records_back (joined (records_of a) (records_of b)), records_back (joined (records_of b) (records_of c)))
    (ap bytes_of (joined_grouped (records_of a) (records_of b) (records_of c)))

-- swapped
pub pair-swapped : (one two : List ℕ) → Passes (pair_checks one two) → Passes (pair_checks two one)
pair-swapped one two p =
    paired-passes two one (passes-second one two p 1) (passes-first one two p 2)
    (paired-swapped (records_of one) (records_of two) (passes-paired one two p))

-- with a third table: ts after rs and ss joined, and ss and ts joined after rs
module _ (rs ss ts : List Record) (p : Paired rs ss) (q : Paired ss ts)
    (controllers : (table_of rs).controllers + (table_of ss).controllers + (table_of ts).controllers ≤ 8)
    (worlds : (table_of rs).worlds + (table_of ss).worlds + (table_of ts).worlds ≤ 8) where
  paired_then : Paired (joined rs ss) ts
  paired_then =
      let whole = table_of (joined rs ss) in
      let un = paired_union rs ss p in
      record {
        first = joined_sound rs ss p;
        second = q.second;
        outputs-same = un.outputs ∙ p.outputs-same ∙ q.outputs-same;
        inputs-same = un.inputs ∙ p.inputs-same ∙ q.inputs-same;
        controllers-few = omega (arith, controllers_sum (table_of rs) (table_of ss) whole un);
        worlds-few = omega (arith, worlds_sum (table_of rs) (table_of ss) whole un);
      }

  paired-after : Paired rs (joined ss ts)
  paired-after =
      let whole = table_of (joined ss ts) in
      let un = paired_union ss ts q in
      record {
        first = p.first;
        second = joined_sound ss ts q;
        outputs-same = p.outputs-same ∙ sym un.outputs;
        inputs-same = p.inputs-same ∙ sym un.inputs;
        controllers-few = omega (arith, controllers_sum (table_of ss) (table_of ts) whole un);
        worlds-few = omega (arith, worlds_sum (table_of ss) (table_of ts) whole un);
      }

module _ (a b c : List ℕ) (p : Passes (pair_checks a b)) (q : Passes (pair_checks b c))
    (controllers : (stated a).controllers + (stated b).controllers + (stated c).controllers ≤ 8)
    (worlds : (stated a).worlds + (stated b).worlds + (stated c).worlds ≤ 8) where
  pub pair_then : Passes (pair_checks (joined_bytes a b) c)
  pair_then =
      paired-passes (joined_bytes a b) c (joined-passes a b p 1) (passes-second b c q 2)
      (rw (records_back (joined (records_of a) (records_of b)))
      (paired_then (records_of a) (records_of b) (records_of c) (passes-paired a b p) (passes-paired b c q) controllers worlds))

  pub pair-after : Passes (pair_checks a (joined_bytes b c))
  pair-after =
      paired-passes a (joined_bytes b c) (passes-first a b p 1) (joined-passes b c q 2)
      (rw (records_back (joined (records_of b) (records_of c)))
      (paired-after (records_of a) (records_of b) (records_of c) (passes-paired a b p) (passes-paired b c q) controllers worlds))

-- by parts over winning as in demand 2: a pair is in the first set exactly if its halves win alone,
pub pairs_win_alone : (one two : List ℕ) → Passes (pair_checks one two) → (K : ℕ) (F : Position)
    → length F ≡ (joined_table one two).controllers
    → (pairs K (stated one) (stated two) F ≡ true)
    ↔ (Wins K (stated one) (take (stated one).controllers F) × Wins K (stated two) (drop (stated one).controllers F))
pairs_win_alone one two p K F e =
    let t = stated one in
    let u = stated two in
    let n = t.controllers in
    let pair = passes-paired one two p in
    let sum = controllers_sum t u (joined_table one two) (joined_union one two p) in
    let first = winning_wins K t (sound_good (records_of one) pair.first) (take n F) (omega (arith, length-take n F)) in
    let second = winning_wins K u (sound_good (records_of two) pair.second) (drop n F) (omega (arith, length-drop n F)) in (
      λ w. (first.0 (pairs-take K t u F w), second.0 (pairs-drop K t u F w)),
      λ w. pairs_of K t u F (first.1 w.0) (second.1 w.1),
    )

-- and what wins in the joined table is such a pair
pub wins_alone : (one two : List ℕ) → Passes (pair_checks one two) → (K : ℕ) (F : Position) → length F ≡ (joined_table one two).controllers
    → Wins K (joined_table one two) F → Wins K (stated one) (take (stated one).controllers F)
    × Wins K (stated two) (drop (stated one).controllers F)
unfolding set_w
wins_alone one two p K F e w =
    let t = stated one in
    let u = stated two in
    let whole = joined_table one two in
    let union = joined_union one two p in
    let output = (sound_good (records_of one) (passes-paired one two p).first).some-output in
    let won = (winning_wins K whole (joined-good one two p) F e).1 w in
    (pairs_win_alone one two p K F e).0
    (winning-within K whole (pairs K t u) (pairs_first t u whole union K output) (omega (arith, union.outputs)) 0 F
    (pairs-winning t u whole union K output F ∙ won))
