-- The demands of document 00, line by line, for whatever a caller learns from a call, refused or not: specs/Calls.antt has the records of
-- the calls and the words, specs/Demands.antt the sentences of demands 1 and 2. Each crate that has a call ties what its contract tells to
-- such a record.
use mathlib.Core.Path.{◌≡◌, refl, sym, ap, ◌∙◌}
use mathlib.Core.Logic.Iff
use mathlib.Core.Logic.{◌↔◌}
use mathlib.Core.Bool.{true, false}
use mathlib.Core.List.{map, List, ◌++◌, Memᴰ, []}
use Prim.Native.Nat.{ℕ, ◌<◌}
use lib.ListN.{length, take, drop}
use Rattle.meaning.specs.declared.Refusal.TheVariants.{Full}
use Rattle.meaning.specs.Records.{Record, records_of}
use Rattle.meaning.specs.Table.{Table, stated, table_of}
use Rattle.meaning.specs.Counting.{Position, safe, start_position}
use Rattle.meaning.specs.Rounds.{Set, all_safe}
use Rattle.meaning.specs.Join.{joined, joined_table, joined_bytes, pairs}
use Rattle.meaning.specs.Checks.{Passes, bound, table_checks, solve_checks, join_checks, parts_checks}
use Rattle.meaning.specs.Answers.{refused, Solved, Joined, joined_into}
use Rattle.meaning.specs.Play.{Wins}
use Rattle.meaning.specs.Calls.{SolveCall, PartsCall, JoinCall, code, Unrefused, Accepted, AcceptedJoin}
use Rattle.meaning.specs.Calls.{SameResult, SameNumbers, wrote, Two, Three, controller_across, world_across, record_across}
use Rattle.meaning.specs.Demands.{Refuses, Solves, TableFull, PartsFull}
use Rattle.meaning.proofs.Tests.{clash}
use Rattle.meaning.proofs.Records.{records_back}
use Rattle.meaning.proofs.Codes.{code-refused}
use Rattle.meaning.proofs.Checks.{refusal-leaves}
use Rattle.meaning.proofs.Told.{told, solve-told, parts-told, join-told}
use Rattle.meaning.proofs.Sound.{passes-paired}
use Rattle.meaning.proofs.SameRecords.{same_bytes}
use Rattle.meaning.proofs.Union.{controllers_sum, worlds_sum}
use Rattle.meaning.proofs.JoinOrder.{across_twice, joined-swapped}
use Rattle.meaning.proofs.Join.{joined_union, joined-passes, join_makes, join-grants, bytes_grouped, pair-swapped, pair_then}
use Rattle.meaning.proofs.Join.{pair-after, pairs_win_alone, wins_alone}
use Rattle.meaning.proofs.Realizes.{realizes_safe}
use Rattle.meaning.proofs.Stages.{stage_solves, solve-stage, parts-stage, stage-refuses}
use Rattle.meaning.proofs.Full.{solve-full, parts-full}
use Rattle.meaning.proofs.Afresh.{parts_agree}
use Rattle.meaning.proofs.Alike.{swap_answers, swap_alike, swap_wins, self_answers, self_wins_alike}

-- ── 1 and 2 ──
-- "Every table, patience count and room gets an answer.": each of these holds for every table, K, room and buffers, and the kit proves that
-- the code ends
module _ (bytes : List ℕ) (K N : ℕ) (call : SolveCall bytes K N) where
  pub solve-refuses : Refuses (solve_checks bytes K N call.lent.winners_before call.lent.controller_before) call.left.answer
      ((call.left.winners_after ≡ call.lent.winners_before) × (call.left.controller_after ≡ call.lent.controller_before))
  solve-refuses = stage-refuses (solve-told bytes K N call)

  pub solve_solves : Unrefused call.left.answer → Solves K (stated bytes) (all_safe K (stated bytes).controllers) call.left
  solve_solves =
      stage_solves (solve-told bytes K N call) (solve-stage bytes K N call.lent.winners_before call.lent.controller_before)

  -- of a call that passes 2 to 10
  pub solve-full-exactly : (bound K).failed ≡ false → Accepted N call.lent → Passes (table_checks 0 bytes)
      → (code call.left.answer ≡ 11) ↔ TableFull bytes K N
  solve-full-exactly b accepted p =
      Iff.trans (solve-refuses.in_order Full)
      (solve-full bytes K N call.lent.winners_before call.lent.controller_before b accepted p)

-- by parts, where the table is the joined one
module _ (one two : List ℕ) (K N : ℕ) (call : PartsCall one two K N) where
  pub parts-refuses : Refuses (parts_checks one two K N call.lent.winners_before call.lent.controller_before) call.left.answer
      ((call.left.winners_after ≡ call.lent.winners_before) × (call.left.controller_after ≡ call.lent.controller_before))
  parts-refuses = stage-refuses (parts-told one two K N call)

  pub parts_solves : Unrefused call.left.answer → Solves K (joined_table one two) (pairs K (stated one) (stated two)) call.left
  parts_solves =
      stage_solves (parts-told one two K N call) (parts-stage one two K N call.lent.winners_before call.lent.controller_before)

  -- of a call that passes 2 to 10, 13 and 14
  pub parts-full-exactly : (bound K).failed ≡ false → Accepted N call.lent → Two one two
      → (code call.left.answer ≡ 11) ↔ PartsFull one two K N
  parts-full-exactly b accepted p =
      Iff.trans (parts-refuses.in_order Full)
      (parts-full one two K N call.lent.winners_before call.lent.controller_before b accepted p)

-- a start position that is not safe (document 02, R-2) is not covered: "unrealizable", whatever the first set
pub unsafe_start : (K : ℕ) (t : Table) (X : Set) (s : Solved) → Solves K t X s → safe K (start_position K t) ≡ false → code s.answer ≡ 1
unsafe_start K t X s solves unsafe =
    solves.unrealizable_exactly.1 (λ r. clash _ (realizes_safe K t r.0 r.1) unsafe)

-- a join
pub join-refuses : (one two : List ℕ) (call : JoinCall one two)
    → Refuses (join_checks one two call.lent) call.left.answer (call.left.out_after ≡ call.lent)
unfolding refused
join-refuses one two call =
    let j = join-told one two call in
    record {
      in_order = λ r. Iff.trans (code-refused _ r) (j.refused-exactly r);
      by_the_first = λ i c f. ap (λ (o : Joined). o.answer) (j.refuses i c f);
      writes_nothing = λ r e. refusal-leaves j (λ o. o.out_after) call.lent (λ c. refl) r ((code-refused _ r).0 e);
    }

-- ── 3 ──
-- "Take good tables with the same letters, one K, room that reason 3 accepts, and a joined size within limits.": `Two` and `Three` tables,
-- and `Accepted` room, each call with its own buffers
-- the join of good tables is a good table
pub join-good : (one two : List ℕ) → Two one two → (call : JoinCall one two) → AcceptedJoin call.lent
    → (code call.left.answer ≡ 0) × ((which : ℕ) → Passes (table_checks which (wrote call.left)))
join-good one two p call room =
    told call (λ j. (code j.answer ≡ 0) × ((which : ℕ) → Passes (table_checks which (wrote j)))) (
      ap (λ (j : Joined). code j.answer) (join-grants one two call.lent room p),
      rw (join_makes one two call.lent room p) (joined-passes one two p),
    )

-- what it wrote
pub wrote-joined : (one two : List ℕ) → Two one two → (call : JoinCall one two) → AcceptedJoin call.lent
    → wrote call.left ≡ joined_bytes one two
wrote-joined one two p call room = told call (λ j. wrote j ≡ joined_bytes one two) (join_makes one two call.lent room p)

-- what it answered
answer-joined : (one two : List ℕ) → Two one two → (call : JoinCall one two) → AcceptedJoin call.lent
    → call.left.answer ≡ (joined_into (joined_bytes one two) []).answer
answer-joined one two p call room = ap (λ (j : Joined). j.answer) (call.promise ∙ join-grants one two call.lent room p)

-- "Joining may be grouped anyhow with equal bytes": neither is refused, and the answers and the bytes are the same
pub join_grouped : (a b c : List ℕ) → Three a b c → (ab : JoinCall a b) (bc : JoinCall b c) → AcceptedJoin ab.lent
    → AcceptedJoin bc.lent
    → (then : JoinCall (wrote ab.left) c) (after : JoinCall a (wrote bc.left)) → AcceptedJoin then.lent
    → AcceptedJoin after.lent
    → (code then.left.answer ≡ 0) × (then.left.answer ≡ after.left.answer) × (wrote then.left ≡ wrote after.left)
join_grouped a b c three ab bc room-ab room-bc then after room-then Room-after =
    let first = wrote-joined a b three.first_two ab room-ab in
    let last = wrote-joined b c three.last-two bc room-bc in
    let left = rw (← first) at (pair_then a b c three.first_two three.last-two three.controllers three.worlds) in
    let right = rw (← last) at (pair-after a b c three.first_two three.last-two three.controllers three.worlds) in
    let same : joined_bytes (wrote ab.left) c ≡ joined_bytes a (wrote bc.left) =
    ap (λ (l : List ℕ). joined_bytes l c) first ∙ bytes_grouped a b c ∙ sym (ap (joined_bytes a) last) in (
      (join-good (wrote ab.left) c left then room-then).0,
      answer-joined (wrote ab.left) c left then room-then
          ∙ ap (λ (l : List ℕ). (joined_into l []).answer) same
          ∙ sym (answer-joined a (wrote bc.left) right after Room-after),
      wrote-joined (wrote ab.left) c left then room-then ∙ same ∙ sym (wrote-joined a (wrote bc.left) right after Room-after),
    )

-- "and swapped with only the states renumbered": the swapped join has exactly the records of the other, so renumbered,
pub join-swapped : (one two : List ℕ) → Two one two → (call : JoinCall one two) (swap : JoinCall two one) → AcceptedJoin call.lent
    → AcceptedJoin swap.lent → (r : Record)
    → Memᴰ r (records_of (wrote swap.left)) ↔ Memᴰ r (map (record_across one two) (records_of (wrote call.left)))
unfolding table_of
join-swapped one two p call swap room-call room-swap r =
    rw (
      wrote-joined one two p call room-call,
      wrote-joined two one (pair-swapped one two p) swap room-swap,
      records_back (joined (records_of one) (records_of two)),
      records_back (joined (records_of two) (records_of one)),
    ) (joined-swapped (records_of one) (records_of two) (passes-paired one two p) r)

-- which fixes its bytes: no other good table has those records,
pub swapped-bytes : (one two : List ℕ) → Two one two → (call : JoinCall one two) (swap : JoinCall two one) → AcceptedJoin call.lent
    → AcceptedJoin swap.lent → (bytes : List ℕ) → Passes (table_checks 0 bytes)
    → ((r : Record) → Memᴰ r (records_of bytes) ↔ Memᴰ r (map (record_across one two) (records_of (wrote call.left))))
    → bytes ≡ wrote swap.left
swapped-bytes one two p call swap room-call room-swap bytes good same =
    same_bytes bytes (wrote swap.left) good ((join-good two one (pair-swapped one two p) swap room-swap).1 0)
    (λ r. Iff.trans (same r) (Iff.symm (join-swapped one two p call swap room-call room-swap r)))

-- renumbering there and back changes no state of the joined table,
pub swapped-back : (one two : List ℕ) → Two one two
    → ((p : ℕ) → p < (joined_table one two).controllers → controller_across two one (controller_across one two p) ≡ p)
    × ((p : ℕ) → p < (joined_table one two).worlds → world_across two one (world_across one two p) ≡ p)
swapped-back one two p =
    let t = stated one in
    let u = stated two in
    let whole = joined_table one two in
    let union = joined_union one two p in (
      λ q l. across_twice t.controllers u.controllers q (rw (controllers_sum t u whole union) at l),
      λ q l. across_twice t.worlds u.worlds q (rw (worlds_sum t u whole union) at l),
    )

-- what wins in the one wins in the other with its halves swapped,
pub swapped_wins : (one two : List ℕ) → Two one two → (K : ℕ) (F G : Position) → length F ≡ (stated one).controllers
    → length G ≡ (stated two).controllers → Wins K (joined_table one two) (F ++ G) → Wins K (joined_table two one) (G ++ F)
swapped_wins = swap_wins

-- and so the codes, the rounds and the numbers of winners are the same, wherever neither was refused as full
pub swapped_verdict : (one two : List ℕ) (K N M : ℕ) → Two one two → (call : JoinCall one two) (swap : JoinCall two one)
    → AcceptedJoin call.lent → AcceptedJoin swap.lent
    → (here : SolveCall (wrote call.left) K N) (there : SolveCall (wrote swap.left) K M) → Accepted N here.lent
    → Accepted M there.lent
    → (code here.left.answer ≡ 11 → ⊥) → (code there.left.answer ≡ 11 → ⊥) → SameNumbers here.left there.left
swapped_verdict one two K N M p call swap room-call room-swap here there room-here room-there =
    rw (
      here.promise,
      there.promise,
      wrote-joined one two p call room-call,
      wrote-joined two one (pair-swapped one two p) swap room-swap,
    )
    (swap_answers one two K N M here.lent.winners_before here.lent.controller_before there.lent.winners_before
    there.lent.controller_before p room-here room-there)

-- and with equal room FULL is given for both or for neither
pub swapped_alike : (one two : List ℕ) (K N : ℕ) → Two one two → (call : JoinCall one two) (swap : JoinCall two one)
    → AcceptedJoin call.lent → AcceptedJoin swap.lent
    → (here : SolveCall (wrote call.left) K N) (there : SolveCall (wrote swap.left) K N) → Accepted N here.lent
    → Accepted N there.lent → SameNumbers here.left there.left
swapped_alike one two K N p call swap room-call room-swap here there room-here room-there =
    rw (
      here.promise,
      there.promise,
      wrote-joined one two p call room-call,
      wrote-joined two one (pair-swapped one two p) swap room-swap,
    )
    (swap_alike one two K N here.lent.winners_before here.lent.controller_before there.lent.winners_before
    there.lent.controller_before p room-here room-there)

-- By parts over winning as in 2: a pair is in the first set exactly if its halves win alone,
pub first-set-exactly : (one two : List ℕ) → Two one two → (K : ℕ) (F : Position) → length F ≡ (joined_table one two).controllers
    → (pairs K (stated one) (stated two) F ≡ true)
    ↔ (Wins K (stated one) (take (stated one).controllers F) × Wins K (stated two) (drop (stated one).controllers F))
first-set-exactly = pairs_win_alone

-- and a position that wins in the joined table has halves that win alone
pub halves_win_alone : (one two : List ℕ) → Two one two → (K : ℕ) (F : Position) → length F ≡ (joined_table one two).controllers
    → Wins K (joined_table one two) F → Wins K (stated one) (take (stated one).controllers F)
    × Wins K (stated two) (drop (stated one).controllers F)
halves_win_alone = wins_alone

-- "Solving the parts and then the joined table held to the parts' winning positions gives the same verdict, winning list and controller as
-- solving the joined table afresh, wherever neither was refused as full."
pub parts_afresh : (one two : List ℕ) (K N M : ℕ) → Two one two → (whole : JoinCall one two) → AcceptedJoin whole.lent
    → (by_parts : PartsCall one two K N) (afresh : SolveCall (wrote whole.left) K M) → Accepted N by_parts.lent
    → Accepted M afresh.lent
    → (code by_parts.left.answer ≡ 11 → ⊥) → (code afresh.left.answer ≡ 11 → ⊥)
    → SameResult (joined_table one two) by_parts.left afresh.left
parts_afresh one two K N M p whole room by_parts afresh room-here room-there =
    rw (by_parts.promise, afresh.promise, wrote-joined one two p whole room)
    (parts_agree one two K N M by_parts.lent.winners_before by_parts.lent.controller_before afresh.lent.winners_before
    afresh.lent.controller_before p room-here room-there)

-- "A table joined with itself has its own verdict, full aside.": as winning is meant in 2,
pub self_wins : (one : List ℕ) → Two one one → (K : ℕ) (F : Position) → length F ≡ (stated one).controllers
    → Wins K (joined_table one one) (F ++ F) ↔ Wins K (stated one) F
self_wins = self_wins_alike

-- and in the answers
pub self_verdict : (one : List ℕ) (K N M : ℕ) → Two one one → (whole : JoinCall one one) → AcceptedJoin whole.lent
    → (twice : SolveCall (wrote whole.left) K N) (once : SolveCall one K M) → Accepted N twice.lent → Accepted M once.lent
    → (code twice.left.answer ≡ 11 → ⊥) → (code once.left.answer ≡ 11 → ⊥) → code twice.left.answer ≡ code once.left.answer
self_verdict one K N M p whole room twice once room-here room-there =
    rw (twice.promise, once.promise, wrote-joined one one p whole room)
    (self_answers one K N M twice.lent.winners_before twice.lent.controller_before once.lent.winners_before
    once.lent.controller_before p room-here room-there)
