-- `lay`: the loop's invariant is that the first i fields are laid down. Assumes nothing.
use mathlib.Core.Path.{◌≡◌}
use Rattle.meaning.specs.Lists.{written}
use Rattle.calls.specs.Called.{fields}
use Rattle.calls.proofs.Laid.{laid}
use Rattle.calls.proofs.lay.lay.Given as goal

abbrev pub invariant-loop-i : goal.invariant-loop-i
invariant-loop-i l = l.out ≡ written (laid (fields l.fn.answer) l.i) l.initial.out
