-- Document 01, "Join" and "By parts".
use Rattle.std.specs.Prelude.{cond, ◌&&◌, List, ◌++◌, map, ℕ, ◌+◌, ◌-◌, length, take, drop, eqb, ltb}
use Rattle.meaning.specs.Records.{Record, records_of, bytes_of, of_kind, controller, world, output, input}
use Rattle.meaning.specs.Table.{Table, table_of}
use Rattle.meaning.specs.Rounds.{Set, all_safe, winning}

-- the records of each kind in turn
unfoldable pub by_kind : List Record → List Record
by_kind rs = of_kind controller rs ++ of_kind world rs ++ of_kind output rs ++ of_kind input rs

-- "renumbered upward": the state, or the ends of an edge
unfoldable pub upward : ℕ → ℕ → Record → Record
upward here there r = record { kind = r.kind; from = here + r.from; letter = r.letter; to = there + r.to }

-- "by the first's counts, each side for itself; letters stay": controllers by n, worlds by m. A state record's byte 3 stays
unfoldable pub renumber : ℕ → ℕ → Record → Record
renumber n m r =
    cond (eqb r.kind controller) (upward n 0 r)
    (cond (eqb r.kind world) (upward m 0 r) (cond (eqb r.kind output) (upward n m r) (upward m n r)))

-- the joined table's records: kind by kind, the first table's and then the second's
unfoldable pub joined : List Record → List Record → List Record
joined rs ss = by_kind (rs ++ map (renumber (length (of_kind controller rs)) (length (of_kind world rs))) ss)

-- Demand 3's "swapped with only the states renumbered": where the first table has n states on a side and the second m, state p of the
-- joined table stands in the swapped one at m + p if it is the first's, and at p - n if it is the second's
unfoldable pub across : ℕ → ℕ → ℕ → ℕ
across n m p = cond (ltb p n) (m + p) (p - n)

-- of n controllers and m worlds, how many are on the side that a record of a kind is from, and how many on the side that it leads to
-- (0 for a state, which leads nowhere)
abbrev pub home : ℕ → ℕ → ℕ → ℕ
home n m kind = cond (eqb kind controller) n (cond (eqb kind world) m (cond (eqb kind output) n m))

abbrev pub away : ℕ → ℕ → ℕ → ℕ
away n m kind = cond (eqb kind controller) 0 (cond (eqb kind world) 0 (cond (eqb kind output) m n))

-- a record with its states so renumbered, where the first table has n controllers and m worlds and the second n' and m'; its kind, its
-- letter or flags, and byte 3 of a state's record stay
unfoldable pub across_record : ℕ → ℕ → ℕ → ℕ → Record → Record
across_record n m n' m' r =
    record {
      kind = r.kind;
      from = across (home n m r.kind) (home n' m' r.kind) r.from;
      letter = r.letter;
      to = across (away n m r.kind) (away n' m' r.kind) r.to;
    }

-- the joined table, and its bytes
abbrev pub joined_table : List ℕ → List ℕ → Table
joined_table one two = table_of (joined (records_of one) (records_of two))

abbrev pub joined_bytes : List ℕ → List ℕ → List ℕ
joined_bytes one two = bytes_of (joined (records_of one) (records_of two))

-- "the pairs whose halves win alone"
unfoldable pub pairs : ℕ → Table → Table → Set
pairs K t u =
    let first = winning K t (all_safe K t.controllers) in
    let second = winning K u (all_safe K u.controllers) in
    λ F. first (take t.controllers F) && second (drop t.controllers F)
