-- The rounds in code: the set that a list covers, and what a run over the letters, a round, and the loop of rounds answer.
use Rattle.std.specs.Prelude.{◌≡◌, false, cond, ◌&&◌, List, map, ℕ, suc, ◌≤◌, ◌<◌, max, eqb, ltb, length, Result, Ok, Err}
use Rattle.meaning.specs.Lists.{largest}
use Rattle.meaning.specs.Table.{Table, Small}
use Rattle.meaning.specs.Counting.{Position, covered}
use Rattle.meaning.specs.Rounds.{Set, rounds, full, FirstSet}
use Rattle.meaning.specs.Written.{position_bytes, winners}
use Rattle.lists.specs.Members.{positions}
use Rattle.tops.specs.declared.Full.{Full}
use Rattle.sets.specs.Engine.{list_a, list_b, StandsFor}

-- "Each set contains everything below its members, so it is fixed by its maximal members": the positions of n states that a list covers,
-- whose members have eight counts
unfoldable pub covered_by : ℕ → List Position → Set
covered_by n l F = eqb (length F) n && covered l (position_bytes F)

-- what the rounds ask of a first list: it has the maximal members of a first set, and the table has an output and at most eight states a
-- side
pub record FirstList (K : ℕ) (t : Table) (l : List Position) : Type 0 where
  pub small : Small t
  pub some-output : 0 < t.outputs
  pub first : FirstSet K t (covered_by t.controllers l)
  pub stands : StandsFor K t.controllers (covered_by t.controllers l) l

-- the most members that one of A(r, 0) to A(r, all inputs) has, and one of B(r, 0) to B(r, all outputs)
unfoldable pub widest_a : ℕ → Table → List Position → ℕ
widest_a K t ws = largest (suc t.inputs) (λ j. length (list_a K t ws j))

unfoldable pub widest_b : ℕ → Table → List Position → ℕ
widest_b K t vs = largest (suc t.outputs) (λ k. length (list_b K t vs k))

-- and one of all of these
unfoldable pub widest_of : ℕ → Table → List Position → ℕ
widest_of K t ws = max (widest_a K t ws) (widest_b K t (list_a K t ws t.inputs))

-- the answer of a run over lists of which the widest has so many: FULL if there is no room for that one, and else the words hold the last
pub record HoldsLast (room widest : ℕ) (last : List Position) (out : List ℕ) (found : Result (Unit {0}) Full) : Type 0 where
  pub answer : found ≡ cond (ltb room widest) (Err (record {})) (Ok tt)
  pub held : widest ≤ room → positions out ≡ last

-- the answer of the rounds from a first set: FULL, or how many rounds, and the words hold the winners
pub record Settles (K : ℕ) (t : Table) (X : Set) (room : ℕ) (out : List ℕ) (settled : Result ℕ Full) : Type 0 where
  pub answer : settled ≡ cond (full K t X room) (Err (record {})) (Ok (rounds K t X))
  pub held : full K t X room ≡ false → positions out ≡ map position_bytes (winners K t X)
