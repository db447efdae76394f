-- What is made before anything is led on, and what leading on until nothing changes then says.
use Rattle.std.specs.Prelude.{◌≡◌, ◌↔◌, Bool, true, ℕ}
use Rattle.meaning.specs.Table.{Table}
use Rattle.meaning.specs.Counting.{safe, start_position}
use Rattle.meaning.specs.Written.{position_bytes}
use Rattle.meaning.specs.Play.{Realizes}
use Rattle.meaning.specs.Controller.{followed}
use Rattle.counts.specs.Words.{counts_in}
use Rattle.checker.specs.declared.lead.Play.{Play}
use Rattle.checker.specs.Followable.{Followable}
use Rattle.checker.specs.Stepped.{Steps}

-- rows that can be followed on a table, the words of its halves of a round, and its start position, which is safe
pub record Begun (t : Table) (play : Play) (begins : ℕ) : Type 0 where
  pub followable : Followable play.k t play.controller
  pub steps : Steps t play.outputs play.inputs
  pub starts : counts_in begins ≡ position_bytes (start_position play.k t)
  pub safely : safe play.k (counts_in begins) ≡ true

abbrev pub BegunOnSome : Play → ℕ → Type 0
BegunOnSome play begins = (t : Table) × Begun t play begins

-- for whatever table it was begun on, true exactly if following the rows keeps every run to K
abbrev pub Settled : Play → ℕ → Bool → Type 0
Settled play begins r = (t : Table) → Begun t play begins → ((r ≡ true) ↔ Realizes play.k t (followed play.controller))
