-- Document 01, "The numbered answers", column "When": the checks of each call, in their order.
use Rattle.std.specs.Prelude.{◌≡◌, Bool, true, false, cond, not, ◌&&◌, ◌||◌, List, [], ◌∷◌, ◌++◌, length, get_or}
use Rattle.std.specs.Prelude.{ℕ, suc, ◌+◌, ◌-◌, ◌*◌, ◌%◌, ◌<◌, eqb, leb, ltb}
use Rattle.meaning.specs.declared.Refusal.{Refusal}
use Rattle.meaning.specs.declared.Refusal.TheVariants.{Bound, Room, Length, Record as Recorded, Order, States, Start, Edge, Gap}
use Rattle.meaning.specs.declared.Refusal.TheVariants.{Full, Nothing, Letters, Size}
use Rattle.meaning.specs.Lists.{each, some, first, place, every}
use Rattle.meaning.specs.Records.{Record, records_of, at, outside, ascends, of_kind, controller, world, output, input}
use Rattle.meaning.specs.Table.{Half, Table, on_output, on_input, table_of, stated}
use Rattle.meaning.specs.Rounds.{Set, all_safe, maximal_members, full}
use Rattle.meaning.specs.Written.{winners}
use Rattle.meaning.specs.Join.{joined_table, pairs}

-- A check of a call: whether it fails, and with which refusal, place and which
pub record Check : Type 0 where
  pub failed : Bool
  pub refusal : Refusal
  pub fault_at : ℕ
  pub table : ℕ

abbrev pub check : Refusal → ℕ → ℕ → Bool → Check
check refusal place which failed = record { failed = failed; refusal = refusal; fault_at = place; table = which }

-- "Checks run in this order": what the first that fails comes to, or what comes if none fails
abbrev pub judge : {A : Type 0} → List Check → (Check → A) → A → A
judge [] refuse grant = grant
judge (c ∷ cs) refuse grant = let r = judge cs refuse grant in cond c.failed (refuse c) r

-- no check fails
abbrev pub Passes : List Check → Type 0
Passes cs = every (λ (c : Check). not c.failed) cs ≡ true

-- check number i of a list is the first that fails
pub record Fails (cs : List Check) (i : ℕ) (c : Check) : Type 0 where
  pub there : (i < length cs) × (get_or cs i c ≡ c)
  pub fails : c.failed ≡ true
  pub earlier : (j : ℕ) → j < i → (get_or cs j c).failed ≡ false

-- a check with this refusal is the first that fails
abbrev pub FailsWith : List Check → Refusal → Type 0
FailsWith cs r = (i : ℕ) × (c : Check) × Fails cs i c × (c.refusal ≡ r)

-- 2 BOUND: "K over 7"
unfoldable pub bound : ℕ → Check
bound K = check Bound 0 0 (ltb 7 K)

-- 3 ROOM: "N not 1 to 256; winners buffer under 8N bytes; controller buffer under 32N"
unfoldable pub room : ℕ → List ℕ → List ℕ → Check
room N win con = check Room 0 0 (eqb N 0 || ltb 256 N || ltb (length win) (8 * N) || ltb (length con) (32 * N))

-- "for a join, output under 4,160 bytes"
unfoldable pub room_to_join : List ℕ → Check
room_to_join out = check Room 0 0 (ltb (length out) 4160)

-- records of "0 bytes, not a multiple of 4, or over" so many
unfoldable pub wrong_size : ℕ → List ℕ → Bool
wrong_size most bytes = eqb (length bytes) 0 || not (eqb (length bytes % 4) 0) || ltb most (length bytes)

-- 6 ORDER, "the later of the first bad pair": the first record that does not ascend from the one before it, or the length
unfoldable pub descent : List Record → ℕ
descent rs = suc (first (length rs - 1) (λ i. not (ascends (at rs i) (at rs (suc i)))))

-- 7 STATES: "a side's state records aren't numbered 0, 1, 2 and so on, or a side has none"
unfoldable pub misnumbered : List Record → Bool
misnumbered states = eqb (length states) 0 || not (each (length states) (λ i. eqb (at states i).from i))

-- 8 START: "no start state"
unfoldable pub no_start : Table → Bool
no_start t = not (some t.controllers t.starts)

-- 9 EDGE: "an edge names a state without a record"
unfoldable pub dangling : Table → Record → Bool
dangling t r =
    eqb r.kind output && (leb t.controllers r.from || leb t.worlds r.to)
    || eqb r.kind input && (leb t.worlds r.from || leb t.controllers r.to)

-- 10 GAP: "no output, no input, or a state with no edge for some letter"
unfoldable pub total : Half → Bool
total h = each h.sources (λ p. some h.targets (λ q. h.edge p q))

unfoldable pub gap : Table → Bool
gap t =
    eqb t.outputs 0 || eqb t.inputs 0
    || not (each t.outputs (λ o. total (on_output t o)))
    || not (each t.inputs (λ i. total (on_input t i)))

-- 4 LENGTH: "table of 0 bytes, not a multiple of 4, or over 4,160". "4 to 10", "over the whole table" each. "Place is the record number,
-- from 0, for 5 and 9 (the first bad one) and 6 (the later of the first bad pair); otherwise 0."
unfoldable pub table_checks : ℕ → List ℕ → List Check
table_checks which bytes =
    let rs = records_of bytes in
    let t = table_of rs in
    let bad = place outside rs in
    let late = descent rs in
    let stray = place (dangling t) rs in
    check Length 0 which (wrong_size 4160 bytes)
    ∷ check Recorded bad which (ltb bad (length rs))
    ∷ check Order late which (ltb late (length rs))
    ∷ check States 0 which (misnumbered (of_kind controller rs) || misnumbered (of_kind world rs))
    ∷ check Start 0 which (no_start t)
    ∷ check Edge stray which (ltb stray (length rs))
    ∷ check Gap 0 which (gap t)
    ∷ []

-- 11 FULL and 12 NOTHING ("no position wins at all") of one stage
unfoldable pub stage_checks : ℕ → ℕ → ℕ → Table → Set → List Check
stage_checks which K N t X = check Full 0 which (full K t X N) ∷ check Nothing 0 0 (eqb (length (winners K t X)) 0) ∷ []

-- solve: "Checks run in this order over the whole table: 2, 3, 4 to 10; .. then 11 and 12"
unfoldable pub solve_checks : List ℕ → ℕ → ℕ → List ℕ → List ℕ → List Check
solve_checks bytes K N win con =
    let t = stated bytes in
    bound K ∷ room N win con ∷ (table_checks 0 bytes ++ stage_checks 0 K N t (all_safe K t.controllers))

-- 13 LETTERS: "two tables differ in outputs or inputs"
unfoldable pub other_letters : Table → Table → Check
other_letters t u = check Letters 0 0 (not (eqb t.outputs u.outputs) || not (eqb t.inputs u.inputs))

-- 14 SIZE: "a join would have over 8 states on a side"
unfoldable pub too_large : Table → Table → Check
too_large t u = check Size 0 0 (ltb 8 (t.controllers + u.controllers) || ltb 8 (t.worlds + u.worlds))

-- "with two tables, 4 to 10 of the first, then of the second, then 13, 14"
unfoldable pub pair_checks : List ℕ → List ℕ → List Check
pair_checks one two =
    table_checks 1 one ++ table_checks 2 two ++ (other_letters (stated one) (stated two) ∷ too_large (stated one) (stated two) ∷ [])

-- join: 3, then those of the two tables. "Code 2 and the room for positions don't arise for a plain join."
unfoldable pub join_checks : List ℕ → List ℕ → List ℕ → List Check
join_checks one two out = room_to_join out ∷ pair_checks one two

-- by parts: "FULL applies to each of the three stages in turn, and to that first list of pairs."
unfoldable pub parts_stages : List ℕ → List ℕ → ℕ → ℕ → List Check
parts_stages one two K N =
    let t = stated one in
    let u = stated two in
    let both = joined_table one two in
    let X = pairs K t u in
    let crowded = ltb N (length (maximal_members K both.controllers X)) in
    stage_checks 1 K N t (all_safe K t.controllers)
    ++ stage_checks 2 K N u (all_safe K u.controllers)
    ++ (check Full 0 0 crowded ∷ stage_checks 0 K N both X)

unfoldable pub parts_checks : List ℕ → List ℕ → ℕ → ℕ → List ℕ → List ℕ → List Check
parts_checks one two K N win con = bound K ∷ room N win con ∷ (pair_checks one two ++ parts_stages one two K N)
