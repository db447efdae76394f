-- Document 01, "Table records": the table that records state, its sides, letters, marks and edges.
use Rattle.std.specs.Prelude.{◌≡◌, Bool, true, ◌&&◌, List, ℕ, suc, ◌/◌, ◌%◌, ◌^◌, ◌≤◌, ◌<◌, length, eqb, ltb}
use Rattle.meaning.specs.Lists.{any, largest}
use Rattle.meaning.specs.Records.{Record, records_of, at, of_kind, same, controller, world, output, input}

-- One letter's step from one side to the other: how many states each side has, the edges on that letter, and the mark of the
-- state entered. "Kind 3 leads from a controller-turn state to a world-turn state, kind 4 back": both are such halves of a round.
pub record Half : Type 0 where
  pub sources : ℕ
  pub targets : ℕ
  pub edge : ℕ → ℕ → Bool
  pub mark : ℕ → ℕ

-- A turn-based universal automaton. An edge is named by its letter, the state it is from and the state it is to
pub record Table : Type 0 where
  pub controllers : ℕ
  pub worlds : ℕ
  pub outputs : ℕ
  pub inputs : ℕ
  pub starts : ℕ → Bool
  pub controller_mark : ℕ → ℕ
  pub world_mark : ℕ → ℕ
  pub output_edge : ℕ → ℕ → ℕ → Bool
  pub input_edge : ℕ → ℕ → ℕ → Bool

abbrev pub on_output : Table → ℕ → Half
on_output t o = record { sources = t.controllers; targets = t.worlds; edge = t.output_edge o; mark = t.world_mark }

abbrev pub on_input : Table → ℕ → Half
on_input t i = record { sources = t.worlds; targets = t.controllers; edge = t.input_edge i; mark = t.controller_mark }

-- "The number of outputs is one more than the largest letter in kind 3, or 0 if there is none; inputs likewise from kind 4."
unfoldable pub letters : ℕ → List Record → ℕ
letters kind rs = let es = of_kind kind rs in largest (length es) (λ i. suc (at es i).letter)

-- "1 marked, 2 start". "The mark is 1 for a marked state and 0 otherwise.": what bytes 2 and 3 of a state's record say
unfoldable pub mark_in : Record → ℕ
mark_in r = r.letter % 2

unfoldable pub start_in : Record → Bool
start_in r = eqb (r.letter / 2) 1

-- state q of a side is its record number q
unfoldable pub mark_of : ℕ → List Record → ℕ → ℕ
mark_of kind rs = let states = of_kind kind rs in λ q. mark_in (at states q)

unfoldable pub starts_of : List Record → ℕ → Bool
starts_of rs = let states = of_kind controller rs in λ q. start_in (at states q)

-- "Several edges may share a state and a letter: all of them are followed."
unfoldable pub edge_of : ℕ → List Record → ℕ → ℕ → ℕ → Bool
edge_of kind rs letter p q = any (same (record { kind = kind; from = p; letter = letter; to = q })) rs

unfoldable pub table_of : List Record → Table
table_of rs =
    record {
      controllers = length (of_kind controller rs);
      worlds = length (of_kind world rs);
      outputs = letters output rs;
      inputs = letters input rs;
      starts = starts_of rs;
      controller_mark = mark_of controller rs;
      world_mark = mark_of world rs;
      output_edge = edge_of output rs;
      input_edge = edge_of input rs;
    }

-- the table that bytes state
abbrev pub stated : List ℕ → Table
stated bytes = table_of (records_of bytes)

-- what checks 4 to 10 grant of a table: there are letters, every edge joins declared states and is of a letter, and every state has an edge
-- for each letter
pub record Good (t : Table) : Type 0 where
  pub some-output : 0 < t.outputs
  pub some-input : 0 < t.inputs
  pub output-ends : (o p q : ℕ) → t.output_edge o p q ≡ true → (o < t.outputs) × (p < t.controllers) × (q < t.worlds)
  pub input-ends : (i p q : ℕ) → t.input_edge i p q ≡ true → (i < t.inputs) × (p < t.worlds) × (q < t.controllers)
  pub output-leads : (o p : ℕ) → o < t.outputs → p < t.controllers → (q : ℕ) × (t.output_edge o p q ≡ true)
  pub input-leads : (i p : ℕ) → i < t.inputs → p < t.worlds → (q : ℕ) × (t.input_edge i p q ≡ true)

-- and at most eight states on each side, since their numbers are 0 to 7
pub record Small (t : Table) : Type 0 where
  pub controllers : t.controllers ≤ 8
  pub worlds : t.worlds ≤ 8

-- its start states are states
abbrev pub StartsDeclared : Table → Type 0
StartsDeclared t = (p : ℕ) → t.starts p ≡ true → p < t.controllers

-- "The targets of one state on one letter are kept as eight bits": bit q of a mask
unfoldable pub bit : ℕ → ℕ → Bool
bit mask q = ltb q 8 && eqb (mask / 2 ^ q % 2) 1
