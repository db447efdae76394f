-- What a caller of an export learns from its contract is what a caller of the call of that name in calls learns: their contracts are the
-- same, so what calls shows of such a call holds of the export. Assumes nothing.
use borrow.Fn.Kinds.{ended_of}
use borrow.Fn.World.{ArgsD, ResD}
use contract.Lifetimes.{Lfts}
use denote.Triple.Clauses.{AtExit}
use Rattle.calls.specs.Called.{CSolveCall, CPartsCall, CJoinCall, CCheckCall}
use Rattle.calls.proofs.Demands.{c_solve_learnt, c_parts_learnt, c_join_learnt, c_check_learnt}
use Rattle.calls_c.specs.contracts.desk_solve as solve_code
use Rattle.calls_c.proofs.desk_solve.Kinds as solve_kinds
use Rattle.calls_c.proofs.desk_solve.Reads as solve_reads
use Rattle.calls_c.specs.contracts.desk_parts as parts_code
use Rattle.calls_c.proofs.desk_parts.Kinds as parts_kinds
use Rattle.calls_c.proofs.desk_parts.Reads as parts_reads
use Rattle.calls_c.specs.contracts.desk_join as join_code
use Rattle.calls_c.proofs.desk_join.Kinds as join_kinds
use Rattle.calls_c.proofs.desk_join.Reads as join_reads
use Rattle.calls_c.specs.contracts.desk_check as check_code
use Rattle.calls_c.proofs.desk_check.Kinds as check_kinds
use Rattle.calls_c.proofs.desk_check.Reads as check_reads

pub export_solve_learnt : (κs : Lfts 4) (args : ArgsD solve_code.signature κs) (result : ResD solve_code.signature κs)
    (after : AtExit (ended_of 4 solve_kinds.ps solve_kinds.r) κs) → solve_reads.Learnt κs args result after
    → CSolveCall args.0.now args.1.0 args.1.1.0
export_solve_learnt κs args result after learnt = c_solve_learnt κs args result after learnt

pub export_parts_learnt : (κs : Lfts 5) (args : ArgsD parts_code.signature κs) (result : ResD parts_code.signature κs)
    (after : AtExit (ended_of 5 parts_kinds.ps parts_kinds.r) κs) → parts_reads.Learnt κs args result after
    → CPartsCall args.0.now args.1.0.now args.1.1.0 args.1.1.1.0
export_parts_learnt κs args result after learnt = c_parts_learnt κs args result after learnt

pub export_join_learnt : (κs : Lfts 4) (args : ArgsD join_code.signature κs) (result : ResD join_code.signature κs)
    (after : AtExit (ended_of 4 join_kinds.ps join_kinds.r) κs) → join_reads.Learnt κs args result after
    → CJoinCall args.0.now args.1.0.now
export_join_learnt κs args result after learnt = c_join_learnt κs args result after learnt

pub export_check_learnt : (κs : Lfts 3) (args : ArgsD check_code.signature κs) (result : ResD check_code.signature κs)
    (after : AtExit (ended_of 3 check_kinds.ps check_kinds.r) κs) → check_reads.Learnt κs args result after
    → CCheckCall args.0.now args.1.0 args.1.1.0.now
export_check_learnt κs args result after learnt = c_check_learnt κs args result after learnt
