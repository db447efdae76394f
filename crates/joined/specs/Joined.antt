-- What the checks of two tables come to, with the tables that are read in the same go, and the bytes of a join.
use Rattle.std.specs.Prelude.{◌≡◌, List, map, ℕ, ◌+◌, length, Result, Ok, Err}
use Rattle.std.specs.Result.{result_ok}
use lib.Seq.{sets}
use Rattle.meaning.specs.declared.Fault.{Fault}
use Rattle.meaning.specs.Records.{Record, bytes_of, of_kind}
use Rattle.meaning.specs.Table.{stated}
use Rattle.meaning.specs.Join.{renumber}
use Rattle.meaning.specs.Checks.{judge, pair_checks}
use Rattle.meaning.specs.Answers.{fault_of}
use Rattle.table.specs.declared.Table.{Table}
use Rattle.table.specs.Packed.{packed}
use Rattle.table.specs.Checked.{reading_of}
use Rattle.joined.specs.declared.pair.Tables.{Tables}
use Rattle.joined.specs.declared.pair.Unpaired.{Unpaired}

-- the two tables that bytes state, in masks and marks
abbrev pub tables_in : List ℕ → List ℕ → Tables
tables_in one two = record { first = packed (stated one); second = packed (stated two) }

-- a fault, and beside it each of two tables that passes, as it was read for itself
abbrev pub with_tables : Fault → Result Table Fault → Result Table Fault → Unpaired
with_tables fault one two = record { fault = fault; first = result_ok one; second = result_ok two }

-- "Checks run in this order": the two tables, or the refusal of the first check that fails, its place and which, beside what was read
abbrev pub pair_of : List ℕ → List ℕ → Result Tables Unpaired
pair_of one two =
    judge (pair_checks one two) (λ c. Err (with_tables (fault_of c) (reading_of one) (reading_of two))) (Ok (tables_in one two))

-- what is known of two tables that pass, once they are checked
pub record ReadBoth (one two : List ℕ) (tables : Tables) : Type 0 where
  pub both_read : pair_of one two ≡ Ok tables

-- the bytes of the records of one kind, controllers renumbered upward by n and worlds by m
abbrev pub moved_bytes : ℕ → ℕ → ℕ → List Record → List ℕ
moved_bytes n m kind rs = bytes_of (map (renumber n m) (of_kind kind rs))

-- bytes stored from a place on: the place where they end, and what stands there afterwards
pub record Stored (old : List ℕ) (start : ℕ) (new after : List ℕ) (end : ℕ) : Type 0 where
  pub ends : end ≡ start + length new
  pub bytes : after ≡ sets old start new
