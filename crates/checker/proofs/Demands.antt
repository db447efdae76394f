-- What a caller of `check` learns from its contract is the record of a call (meaning/specs/Controller.antt), refused or not: so what
-- meaning's laws say of such calls holds of the code. Assumes nothing.
use borrow.Fn.Kinds.{ended_of}
use borrow.Fn.World.{ArgsD, ResD}
use contract.Lifetimes.{Lfts}
use denote.Triple.Clauses.{AtExit}
use Rattle.meaning.specs.Controller.{CheckCall}
use Rattle.checker.specs.contracts.check as fn
use Rattle.checker.proofs.check.Kinds as kinds
use Rattle.checker.proofs.check.Reads as reads

pub check_learnt : (κs : Lfts 2) (args : ArgsD fn.signature κs) (result : ResD fn.signature κs)
    (after : AtExit (ended_of 2 kinds.ps kinds.r) κs)
    → reads.Learnt κs args result after → CheckCall args.0.now args.1.0 args.1.1.0.now
check_learnt κs args result after learnt = record { answer = result; promise = learnt }
