-- Document 01, "Table records": what a table's bytes are, and the table of limits.
use Rattle.std.specs.Prelude.{Bool, ◌&&◌, ◌||◌, ℕ, ◌-◌, length, get_or, eqb, ltb}
use mathlib.Core.List.{List, [], ◌∷◌, flat_map}
use Rattle.meaning.specs.Lists.{keep}

-- "A table is a run of 4-byte records": byte 0 is the kind; byte 1 the state, or the state an edge is from; byte 2 the flags,
-- or the letter; byte 3 is 0, or the state that an edge is to
pub record Record : Type 0 where
  pub kind : ℕ
  pub from : ℕ
  pub letter : ℕ
  pub to : ℕ

-- "with no header": the whole records of the bytes, in their order
unfoldable pub records_of : List ℕ → List Record
records_of [] = []
records_of (a ∷ []) = []
records_of (a ∷ b ∷ []) = []
records_of (a ∷ b ∷ c ∷ []) = []
records_of (a ∷ b ∷ c ∷ d ∷ rest) = record { kind = a; from = b; letter = c; to = d } ∷ records_of rest

-- and the bytes of records
unfoldable pub bytes_of : List Record → List ℕ
bytes_of = flat_map (λ (r : Record). r.kind ∷ r.from ∷ r.letter ∷ r.to ∷ [])

-- record number i, from 0
abbrev pub blank : Record
blank = record { kind = 0; from = 0; letter = 0; to = 0 }

abbrev pub at : List Record → ℕ → Record
at rs i = get_or rs i blank

-- the kinds: "1, controller's turn", "2, world's turn", "3, edge on an output", "4, edge on an input"
abbrev pub controller : ℕ
controller = 1

abbrev pub world : ℕ
world = 2

abbrev pub output : ℕ
output = 3

abbrev pub input : ℕ
input = 4

-- "The largest value of each byte for each kind is read from one table of limits": bytes 1, 2 and 3, a row for each kind from 1 on
unfoldable pub limits : List (List ℕ)
limits = (7 ∷ 3 ∷ 0 ∷ []) ∷ (7 ∷ 1 ∷ 0 ∷ []) ∷ (7 ∷ 7 ∷ 7 ∷ []) ∷ (7 ∷ 7 ∷ 7 ∷ []) ∷ []

unfoldable pub limit : ℕ → ℕ → ℕ
limit kind byte = get_or (get_or limits (kind - 1) []) (byte - 1) 0

-- code 5: "a byte outside the record table above": a kind without a row, or a byte over its limit
unfoldable pub outside : Record → Bool
outside r =
    ltb r.kind 1 || ltb (length limits) r.kind
    || ltb (limit r.kind 1) r.from || ltb (limit r.kind 2) r.letter || ltb (limit r.kind 3) r.to

-- "strictly ascending when compared as byte strings": two neighbours
unfoldable pub ascends : Record → Record → Bool
ascends r s =
    ltb r.kind s.kind || eqb r.kind s.kind
    && (ltb r.from s.from || eqb r.from s.from
    && (ltb r.letter s.letter || eqb r.letter s.letter && ltb r.to s.to))

-- the same four bytes
unfoldable pub same : Record → Record → Bool
same r s = eqb r.kind s.kind && eqb r.from s.from && eqb r.letter s.letter && eqb r.to s.to

-- the records of one kind, in their order
unfoldable pub of_kind : ℕ → List Record → List Record
of_kind kind = keep (λ (r : Record). eqb r.kind kind)
