-- `write_rows`: the loop's invariant is that the rows of the first b states in their order are written. Assumes nothing.
use mathlib.Core.Path.{◌≡◌}
use Rattle.meaning.specs.Lists.{written}
use Rattle.table.specs.Packed.{table_in}
use Rattle.lists.specs.Members.{positions}
use Rattle.writing.proofs.Blocks.{blocks}
use Rattle.writing.proofs.write_rows.Given as goal

abbrev pub invariant-loop-b : goal.invariant-loop-b
invariant-loop-b l = l.controller ≡ written (blocks l.k (table_in l.table) (positions l.list) l.start l.b) l.initial.controller
