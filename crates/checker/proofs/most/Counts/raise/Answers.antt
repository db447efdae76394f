-- `Counts::raise`: the state is one of 256. Assumes nothing.
use native.Mathlib.Omega.{arith}
use Rattle.checker.proofs.most.Counts.raise.Goals as goal

pub raise-requires : goal.raise-requires
raise-requires c = (omega arith, omega arith)
