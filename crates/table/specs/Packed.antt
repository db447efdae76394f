-- How a record and a table stand in code.
use Rattle.std.specs.Prelude.{Bool, ◌&&◌, List, ℕ, ◌+◌, ◌*◌, ◌/◌, ◌%◌, get_or, ltb}
use Rattle.meaning.specs.Lists.{some, tab}
use Rattle.meaning.specs.Records as R
use Rattle.meaning.specs.Table as T
use Rattle.meaning.specs.Table.{bit}
use Rattle.masks.specs.Mask.{mask}
use Rattle.table.specs.declared.record.Record.{Record}
use Rattle.table.specs.declared.Table.{Table}

-- the record that four bytes state
abbrev pub record_in : Record → R.Record
record_in r = record { kind = r.kind; from = r.from; letter = r.letter; to = r.to }

-- and as the four bytes stand in code
abbrev pub of_bytes : List ℕ → R.Record
of_bytes bytes =
    record { kind = get_or bytes 0 0; from = get_or bytes 1 0; letter = get_or bytes 2 0; to = get_or bytes 3 0 }

-- "The targets of one state on one letter are kept as eight bits": letter l, state p is byte l * 8 + p
abbrev pub edge_in : List ℕ → ℕ → ℕ → ℕ → Bool
edge_in targets letter p q = ltb p 8 && bit (get_or targets (letter * 8 + p) 0) q

-- whether state p has an edge for a letter, to one of the first n states
abbrev pub has_edge : List ℕ → ℕ → ℕ → ℕ → Bool
has_edge targets n letter p = some n (edge_in targets letter p)

-- the table that masks and marks state
unfoldable pub table_in : Table → T.Table
table_in t =
    record {
      controllers = t.controllers;
      worlds = t.worlds;
      outputs = t.outputs;
      inputs = t.inputs;
      starts = λ q. bit t.starts q;
      controller_mark = λ q. get_or t.controller_marks q 0;
      world_mark = λ q. get_or t.world_marks q 0;
      output_edge = edge_in t.output_targets;
      input_edge = edge_in t.input_targets;
    }

-- one number a state
unfoldable pub marks : (ℕ → ℕ) → List ℕ
marks mark = tab 8 mark

-- for each letter and state one byte of targets
unfoldable pub targets : (ℕ → ℕ → ℕ → Bool) → List ℕ
targets edge = tab 64 (λ k. mask 8 (edge (k / 8) (k % 8)))

-- a table in masks and marks: eight states a side, eight letters
unfoldable pub packed : T.Table → Table
packed t =
    record {
      controllers = t.controllers;
      worlds = t.worlds;
      outputs = t.outputs;
      inputs = t.inputs;
      starts = mask 8 t.starts;
      controller_marks = marks t.controller_mark;
      world_marks = marks t.world_mark;
      output_targets = targets t.output_edge;
      input_targets = targets t.input_edge;
    }
