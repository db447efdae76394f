-- `write_winners`: the loop's invariant is that the first b bytes of the winners are written. Byte b is the count of state b % 8 of
-- winner b / 8. Assumes nothing.
use mathlib.Core.Path.{◌≡◌}
use lib.ListN.{take}
use Rattle.meaning.specs.Lists.{written}
use Rattle.meaning.specs.Written.{winners_bytes}
use Rattle.lists.specs.Members.{positions}
use Rattle.writing.proofs.write_winners.Given as goal

abbrev pub invariant-loop-b : goal.invariant-loop-b
invariant-loop-b l = l.winners ≡ written (take l.b (winners_bytes (positions l.list))) l.initial.winners
