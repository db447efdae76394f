-- Demand 2's words: strategies, runs of the table, and winning. Nothing here is computed: it is what "realizable" means.
use Rattle.std.specs.Prelude.{◌≡◌, true, ◌&&◌, List, [], ◌∷◌, map, ℕ, ◌+◌, ◌≤◌, ◌<◌, get_or, eqb}
use Rattle.meaning.specs.Lists.{place}
use Rattle.meaning.specs.Records.{Record, records_of}
use Rattle.meaning.specs.Table.{Table}
use Rattle.meaning.specs.Written.{Row}
use Rattle.meaning.specs.Counting.{Position, count}

-- "some way of choosing outputs from the inputs so far": a strategy. The inputs so far stand latest first
abbrev pub Strategy : Type 0
Strategy = List ℕ → ℕ

-- it always chooses a letter of the table
abbrev pub Legal : Table → Strategy → Type 0
Legal t σ = (inputs : List ℕ) → σ inputs < t.outputs

-- "every run of the table": a run from controller-turn state p, with the strategy choosing the outputs, that has read these inputs,
-- is now in controller-turn state q, and has added up the marks of the states entered since
pub data Run (t : Table) (σ : Strategy) (p : ℕ) : List ℕ → ℕ → ℕ → Type 0 where
  here : Run t σ p [] p 0
  round : {inputs : List ℕ} {q e : ℕ} → Run t σ p inputs q e → (w i r : ℕ) → t.output_edge (σ inputs) q w ≡ true
      → t.input_edge i w r ≡ true → Run t σ p (i ∷ inputs) r (e + t.world_mark w + t.controller_mark r)

-- From a position, "their counts already spent": each run from a state that has a count, on every finite sequence of inputs, also half a
-- round further, adds at most K less that count. (A count stands one higher: 0 is no run there.)
pub record Keeps (K : ℕ) (t : Table) (F : Position) (σ : Strategy) : Type 0 where
  pub whole : (p : ℕ) → 0 < count F p → {inputs : List ℕ} {q e : ℕ} → Run t σ p inputs q e → count F p + e ≤ K + 1
  pub half : (p : ℕ) → 0 < count F p → {inputs : List ℕ} {q e : ℕ} → Run t σ p inputs q e
      → (w : ℕ) → t.output_edge (σ inputs) q w ≡ true → count F p + (e + t.world_mark w) ≤ K + 1

-- a position wins if some legal strategy keeps its runs to K
pub record Wins (K : ℕ) (t : Table) (F : Position) : Type 0 where
  pub strategy : Strategy
  pub legal : Legal t strategy
  pub keeps : Keeps K t F strategy

-- "The controller written": the rows that bytes hold
unfoldable pub rows_in : List ℕ → List Row
rows_in bytes =
    map (λ (r : Record). record { state = r.kind; output = r.from; input = r.letter; next = r.to }) (records_of bytes)

abbrev pub row : List Row → ℕ → Row
row rows i = get_or rows i (record { state = 0; output = 0; input = 0; next = 0 })

-- A state's output stands in its first row, and its next state in its row for that input
unfoldable pub row_output : List Row → ℕ → ℕ
row_output rows s = (row rows (place (λ (r : Row). eqb r.state s) rows)).output

unfoldable pub row_next : List Row → ℕ → ℕ → ℕ
row_next rows s i = (row rows (place (λ (r : Row). eqb r.state s && eqb r.input i) rows)).next

-- Following rows from a state is a strategy
unfoldable pub state_after : List Row → ℕ → List ℕ → ℕ
state_after rows s [] = s
state_after rows s (i ∷ inputs) = row_next rows (state_after rows s inputs) i

unfoldable pub follow : List Row → ℕ → Strategy
follow rows s inputs = row_output rows (state_after rows s inputs)

-- "keeps every run of the table to at most K visits into marked states, for every finite sequence of inputs" (R-2 says visits for entries):
-- this strategy does. "In the papers a run visits its first state too.": its mark comes to those of the states entered
pub record Realizes (K : ℕ) (t : Table) (σ : Strategy) : Type 0 where
  pub legal : Legal t σ
  pub keeps : (p : ℕ) → t.starts p ≡ true → {inputs : List ℕ} {q e : ℕ} → Run t σ p inputs q e → t.controller_mark p + e ≤ K

-- "some way of choosing outputs from the inputs so far" does
abbrev pub Realizable : ℕ → Table → Type 0
Realizable K t = (σ : Strategy) × Realizes K t σ
