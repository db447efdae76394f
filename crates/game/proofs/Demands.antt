-- What a caller of `solve` learns from its contract is the record of a call (meaning/specs/Calls.antt), refused or not: so what meaning's
-- demands say of such calls holds of the code. Assumes nothing.
use borrow.Fn.Kinds.{ended_of}
use borrow.Fn.World.{ArgsD, ResD}
use contract.Lifetimes.{Lfts}
use denote.Triple.Clauses.{AtExit}
use Rattle.meaning.specs.Answers.{solved}
use Rattle.meaning.specs.Calls.{SolveCall}
use Rattle.game.specs.contracts.solve as fn
use Rattle.game.proofs.solve.Kinds as kinds
use Rattle.game.proofs.solve.Reads as reads

pub solve_learnt : (κs : Lfts 3) (args : ArgsD fn.signature κs) (result : ResD fn.signature κs)
    (after : AtExit (ended_of 3 kinds.ps kinds.r) κs)
    → reads.Learnt κs args result after → SolveCall args.0.now args.1.0 args.1.1.0
solve_learnt κs args result after learnt =
    record {
      lent = record { winners_before = args.1.1.1.0.now; controller_before = args.1.1.1.1.0.now };
      left = solved result after.1.1.1.0.now after.1.1.1.1.0.now;
      promise = learnt;
    }
