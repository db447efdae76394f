-- What checks 2, 4 to 10, 15 and 13 leave to check: rows that can be followed on a table.
use Rattle.std.specs.Prelude.{◌≡◌, true, List, ℕ}
use Rattle.meaning.specs.Table.{Table, Good, StartsDeclared}
use Rattle.meaning.specs.Play.{rows_in}
use Rattle.meaning.specs.Controller.{inputs_in, well_formed, of_letters}
use Rattle.steps.specs.Bounded.{Bounded}

pub record Followable (K : ℕ) (t : Table) (rows : List ℕ) : Type 0 where
  pub bounded : Bounded K t
  pub good : Good t
  pub declared : StartsDeclared t
  pub formed : well_formed rows ≡ true
  pub outputs : of_letters t.outputs (rows_in rows) ≡ true
  pub inputs : inputs_in (rows_in rows) ≡ t.inputs
