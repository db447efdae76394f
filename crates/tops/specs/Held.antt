-- What a function that fills a list of positions answers.
use Rattle.std.specs.Prelude.{◌≡◌, cond, List, ℕ, ◌≤◌, ltb, length, Result, Ok, Err}
use Rattle.meaning.specs.Counting.{Position}
use Rattle.lists.specs.Members.{positions}
use Rattle.tops.specs.declared.Full.{Full}

-- FULL if the list has more members than the room
unfoldable pub found_of : ℕ → List Position → Result (Unit {0}) Full
found_of room l = cond (ltb room (length l)) (Err (record {})) (Ok tt)

-- the answer says whether there is room for the list, and if there is these words hold it
pub record Holds (room : ℕ) (l : List Position) (out : List ℕ) (found : Result (Unit {0}) Full) : Type 0 where
  pub answer : found ≡ found_of room l
  pub held : length l ≤ room → positions out ≡ l
