-- `write_state`: the loop's invariant is that the rows of the first inputs are written. Assumes nothing.
use mathlib.Core.Path.{◌≡◌}
use Rattle.meaning.specs.Lists.{tab, written}
use Rattle.meaning.specs.Written.{row_bytes}
use Rattle.table.specs.Packed.{table_in}
use Rattle.lists.specs.Members.{positions}
use Rattle.writing.proofs.Rows.{row_on}
use Rattle.writing.proofs.write_state.Given as goal

abbrev pub invariant-loop-input : goal.invariant-loop-input
invariant-loop-input l =
    l.controller ≡ written (row_bytes (tab l.input (row_on l.k (table_in l.table) (positions l.list) l.state))) l.initial.controller
