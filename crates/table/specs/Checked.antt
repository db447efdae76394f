-- What checks 4 to 10 of one table come to: the table that is read in the same go, or the fault.
use Rattle.std.specs.Prelude.{cond, List, ℕ, length, ltb, Option, Some, None, Result, Ok, Err}
use Rattle.meaning.specs.declared.Fault.{Fault}
use Rattle.meaning.specs.Records.{Record, records_of}
use Rattle.meaning.specs.Table.{table_of}
use Rattle.meaning.specs.Checks.{judge, table_checks}
use Rattle.meaning.specs.Answers.{fault_of}
use Rattle.table.specs.declared.Table.{Table}
use Rattle.table.specs.Packed.{packed}

-- "Checks run in this order": the table, or the refusal of the first check that fails and its place
abbrev pub reading_of : List ℕ → Result Table Fault
reading_of bytes = judge (table_checks 0 bytes) (λ c. Err (fault_of c)) (Ok (packed (table_of (records_of bytes))))

-- a place, where it is that of a record
abbrev pub below : List Record → ℕ → Option ℕ
below rs i = cond (ltb i (length rs)) (Some i) None
