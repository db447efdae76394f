-- What a caller of a call for C learns from its contract is the record of such a call, refused or not. With 24 bytes for the answer it is
-- a call of Rattle, whose code it returns, whose buffers it leaves and whose answer it lays down: so what meaning's demands say of that
-- call holds of it. With fewer it is refused by 2 or 3 and leaves every buffer as it was. Assumes nothing.
use mathlib.Core.Path.{◌≡◌, refl, sym, ap, ap₂, ◌∙◌}
use mathlib.Core.List.{List}
use Prim.Native.Nat.{ℕ, ◌≤◌, ◌<◌}
use native.Mathlib.Decide.{dec_lt}
use native.Mathlib.Omega.{arith}
use borrow.Fn.Kinds.{ended_of}
use borrow.Fn.World.{ArgsD, ResD}
use borrow.Author.Tests.{lt-ltb, le-ltb}
use contract.Lifetimes.{Lfts}
use denote.Triple.Clauses.{AtExit}
use lib.ListN.{length, take}
use Rattle.meaning.specs.declared.Answer.{Answer}
use Rattle.meaning.specs.declared.Refusal.TheVariants.{Room}
use Rattle.meaning.specs.Lists.{written}
use Rattle.meaning.specs.Answers.{number_of, code_of, solve, parts, join}
use Rattle.meaning.specs.Controller.{CheckCall}
use Rattle.meaning.specs.Calls.{SolveCall, PartsCall, JoinCall}
use Rattle.meaning.proofs.Checked.{check_once}
use Rattle.calls.specs.Called.{CSolveCall, CPartsCall, CJoinCall, Heard, HeardJoin, called, joins, unanswered}
use Rattle.calls.specs.Called.{called_solved, called_solve, called_parts, called_join, CCheckCall, HeardCheck, answer_bytes, numbers_in}
use Rattle.calls.proofs.Whole.{said, solve-fits, parts-fits, join-fits, check-fits}
use Rattle.calls.specs.contracts.desk_solve as solve_code
use Rattle.calls.proofs.desk_solve.Kinds as solve_kinds
use Rattle.calls.proofs.desk_solve.Reads as solve_reads
use Rattle.calls.specs.contracts.desk_parts as parts_code
use Rattle.calls.proofs.desk_parts.Kinds as parts_kinds
use Rattle.calls.proofs.desk_parts.Reads as parts_reads
use Rattle.calls.specs.contracts.desk_join as join_code
use Rattle.calls.proofs.desk_join.Kinds as join_kinds
use Rattle.calls.proofs.desk_join.Reads as join_reads
use Rattle.calls.specs.contracts.desk_check as check_code
use Rattle.calls.proofs.desk_check.Kinds as check_kinds
use Rattle.calls.proofs.desk_check.Reads as check_reads

-- what a caller learns
pub c_solve_learnt : (κs : Lfts 4) (args : ArgsD solve_code.signature κs) (result : ResD solve_code.signature κs)
    (after : AtExit (ended_of 4 solve_kinds.ps solve_kinds.r) κs) → solve_reads.Learnt κs args result after
    → CSolveCall args.0.now args.1.0 args.1.1.0
c_solve_learnt κs args result after learnt =
    record {
      lent = record {
        winners_before = args.1.1.1.0.now;
        controller_before = args.1.1.1.1.0.now;
        answer_before = args.1.1.1.1.1.0.now;
      };
      left = called result after.1.1.1.0.now after.1.1.1.1.0.now after.1.1.1.1.1.0.now;
      promise = learnt;
    }

pub c_parts_learnt : (κs : Lfts 5) (args : ArgsD parts_code.signature κs) (result : ResD parts_code.signature κs)
    (after : AtExit (ended_of 5 parts_kinds.ps parts_kinds.r) κs) → parts_reads.Learnt κs args result after
    → CPartsCall args.0.now args.1.0.now args.1.1.0 args.1.1.1.0
c_parts_learnt κs args result after learnt =
    record {
      lent = record {
        winners_before = args.1.1.1.1.0.now;
        controller_before = args.1.1.1.1.1.0.now;
        answer_before = args.1.1.1.1.1.1.0.now;
      };
      left = called result after.1.1.1.1.0.now after.1.1.1.1.1.0.now after.1.1.1.1.1.1.0.now;
      promise = learnt;
    }

pub c_join_learnt : (κs : Lfts 4) (args : ArgsD join_code.signature κs) (result : ResD join_code.signature κs)
    (after : AtExit (ended_of 4 join_kinds.ps join_kinds.r) κs) → join_reads.Learnt κs args result after
    → CJoinCall args.0.now args.1.0.now
c_join_learnt κs args result after learnt =
    record {
      lent = record { out_before = args.1.1.0.now; answer_before = args.1.1.1.0.now };
      left = joins result after.1.1.0.now after.1.1.1.0.now;
      promise = learnt;
    }

pub c_check_learnt : (κs : Lfts 3) (args : ArgsD check_code.signature κs) (result : ResD check_code.signature κs)
    (after : AtExit (ended_of 3 check_kinds.ps check_kinds.r) κs) → check_reads.Learnt κs args result after
    → CCheckCall args.0.now args.1.0 args.1.1.0.now
c_check_learnt κs args result after learnt =
    record {
      answer_before = args.1.1.1.0.now;
      result = result;
      answer_after = after.1.1.1.0.now;
      promise = learnt;
    }

-- with 24 bytes for the answer it is a call of Rattle
pub c_solve_heard : (table : List ℕ) (K N : ℕ) (c : CSolveCall table K N) → 24 ≤ length c.lent.answer_before
    → (call : SolveCall table K N) × Heard c.lent c.left call
unfolding called_solve called_solved
c_solve_heard table K N c long =
    let b = c.lent in
    let s = solve table K N b.winners_before b.controller_before in
    let e = le-ltb (length b.answer_before) 24 long in (
      record { lent = record { winners_before = b.winners_before; controller_before = b.controller_before }; left = s; promise = refl },
      rw (c.promise, e) (record {
        winners-lent = refl;
        controller-lent = refl;
        result-code = refl;
        winners-left = refl;
        controller-left = refl;
        answer-said = said s.answer b.answer_before (solve-fits table K N b.winners_before b.controller_before);
      }),
    )

pub c_parts_heard : (one two : List ℕ) (K N : ℕ) (c : CPartsCall one two K N) → 24 ≤ length c.lent.answer_before
    → (call : PartsCall one two K N) × Heard c.lent c.left call
unfolding called_parts called_solved
c_parts_heard one two K N c long =
    let b = c.lent in
    let s = parts one two K N b.winners_before b.controller_before in
    let e = le-ltb (length b.answer_before) 24 long in (
      record { lent = record { winners_before = b.winners_before; controller_before = b.controller_before }; left = s; promise = refl },
      rw (c.promise, e) (record {
        winners-lent = refl;
        controller-lent = refl;
        result-code = refl;
        winners-left = refl;
        controller-left = refl;
        answer-said = said s.answer b.answer_before (parts-fits one two K N b.winners_before b.controller_before);
      }),
    )

pub c_join_heard : (one two : List ℕ) (c : CJoinCall one two) → 24 ≤ length c.lent.answer_before
    → (call : JoinCall one two) × HeardJoin c.lent c.left call
unfolding called_join
c_join_heard one two c long =
    let b = c.lent in
    let j = join one two b.out_before in
    let e = le-ltb (length b.answer_before) 24 long in (
      record { lent = b.out_before; left = j; promise = refl },
      rw (c.promise, e) (record {
        out_lent = refl;
        result-code = refl;
        out_left = refl;
        answer-said = said j.answer b.answer_before (join-fits one two b.out_before);
      }),
    )

pub c_check_heard : (table : List ℕ) (K : ℕ) (rows : List ℕ) (c : CCheckCall table K rows) → 24 ≤ length c.answer_before
    → (call : CheckCall table K rows) × HeardCheck c call
c_check_heard table K rows c long =
    let left = c.promise.long long in
    let call : CheckCall table K rows = record { answer = left.0; promise = left.1 } in (
      call,
      record {
        result-code = left.2;
        answer-said = ap (λ (after : List ℕ). numbers_in (take 24 after)) left.3
            ∙ said left.0 c.answer_before (check-fits table K rows call);
      },
    )

-- with fewer it is refused, and nothing at all is written
pub c_solve-unanswered : (table : List ℕ) (K N : ℕ) (c : CSolveCall table K N) → length c.lent.answer_before < 24
    → c.left ≡ called (unanswered K) c.lent.winners_before c.lent.controller_before c.lent.answer_before
unfolding called_solve called_solved
c_solve-unanswered table K N c short = c.promise ∙ rw (lt-ltb (length c.lent.answer_before) 24 short)

pub c_parts-unanswered : (one two : List ℕ) (K N : ℕ) (c : CPartsCall one two K N) → length c.lent.answer_before < 24
    → c.left ≡ called (unanswered K) c.lent.winners_before c.lent.controller_before c.lent.answer_before
unfolding called_parts called_solved
c_parts-unanswered one two K N c short = c.promise ∙ rw (lt-ltb (length c.lent.answer_before) 24 short)

pub c_join-unanswered : (one two : List ℕ) (c : CJoinCall one two) → length c.lent.answer_before < 24
    → c.left ≡ joins (number_of Room) c.lent.out_before c.lent.answer_before
unfolding called_join
c_join-unanswered one two c short = c.promise ∙ rw (lt-ltb (length c.lent.answer_before) 24 short)

pub c_check-unanswered : (table : List ℕ) (K : ℕ) (rows : List ℕ) (c : CCheckCall table K rows) → length c.answer_before < 24
    → (c.result ≡ unanswered K) × (c.answer_after ≡ c.answer_before)
c_check-unanswered table K rows c short = c.promise.short short

-- and no second result fits, nor other bytes
pub c_check_once : (table : List ℕ) (K : ℕ) (rows : List ℕ) (c d : CCheckCall table K rows) → c.answer_before ≡ d.answer_before
    → (c.result ≡ d.result) × (c.answer_after ≡ d.answer_after)
c_check_once table K rows c d same = go (dec_lt (length c.answer_before) 24)
  where
    go : Dec (length c.answer_before < 24) → (c.result ≡ d.result) × (c.answer_after ≡ d.answer_after)
    go (yes l) =
        let one = c.promise.short l in
        let two = d.promise.short (rw same at l) in
        (one.0 ∙ sym two.0, one.1 ∙ same ∙ sym two.1)
    go (no l) =
        let long : 24 ≤ length c.answer_before = omega arith in
        let one = c.promise.long long in
        let two = d.promise.long (rw same at long) in
        let answer = check_once (record { answer = one.0; promise = one.1 }) (record { answer = two.0; promise = two.1 }) in (
          one.2 ∙ ap (λ (a : Answer). code_of a.verdict) answer ∙ sym two.2,
          one.3 ∙ ap₂ (λ (a : Answer) (b : List ℕ). written (answer_bytes a) b) answer same ∙ sym two.3,
        )
