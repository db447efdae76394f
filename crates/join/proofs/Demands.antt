-- What a caller of `join` or of `parts` learns from its contract is the record of a call (meaning/specs/Calls.antt), refused or not,
-- whatever the room: so what meaning's demands say of such calls holds of the code. Assumes nothing.
use borrow.Fn.Kinds.{ended_of}
use borrow.Fn.World.{ArgsD, ResD}
use contract.Lifetimes.{Lfts}
use denote.Triple.Clauses.{AtExit}
use Rattle.meaning.specs.Answers.{solved, joined_as}
use Rattle.meaning.specs.Calls.{PartsCall, JoinCall}
use Rattle.join.specs.contracts.join as join_code
use Rattle.join.proofs.join.Kinds as join_kinds
use Rattle.join.proofs.join.Reads as join_reads
use Rattle.join.specs.contracts.parts as parts_code
use Rattle.join.proofs.parts.Kinds as parts_kinds
use Rattle.join.proofs.parts.Reads as parts_reads

pub join_learnt : (κs : Lfts 3) (args : ArgsD join_code.signature κs) (result : ResD join_code.signature κs)
    (after : AtExit (ended_of 3 join_kinds.ps join_kinds.r) κs) → join_reads.Learnt κs args result after
    → JoinCall args.0.now args.1.0.now
join_learnt κs args result after learnt =
    record { lent = args.1.1.0.now; left = joined_as result after.1.1.0.now; promise = learnt }

pub parts_learnt : (κs : Lfts 4) (args : ArgsD parts_code.signature κs) (result : ResD parts_code.signature κs)
    (after : AtExit (ended_of 4 parts_kinds.ps parts_kinds.r) κs) → parts_reads.Learnt κs args result after
    → PartsCall args.0.now args.1.0.now args.1.1.0 args.1.1.1.0
parts_learnt κs args result after learnt =
    record {
      lent = record { winners_before = args.1.1.1.1.0.now; controller_before = args.1.1.1.1.1.0.now };
      left = solved result after.1.1.1.1.0.now after.1.1.1.1.1.0.now;
      promise = learnt;
    }
