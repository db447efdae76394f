-- Demands 1 and 2 of document 00, a sentence a field: what is asked of every call, and of every call that solves; and R-1 of document 02.
-- R-2 of document 02 puts "visits" for "entries" in demand 2 and in R-1: a run visits its first state too.
-- proofs/Demands.antt shows that the calls do so, and demand 3; proofs/Checked.antt R-1.
use Rattle.std.specs.Prelude.{◌≡◌, ◌↔◌, ◌⊎◌, List, ℕ, ◌<◌, length}
use Rattle.meaning.specs.declared.Answer.{Answer}
use Rattle.meaning.specs.declared.Refusal.{Refusal}
use Rattle.meaning.specs.Table.{Table, stated}
use Rattle.meaning.specs.Counting.{Position}
use Rattle.meaning.specs.Rounds.{Set, all_safe, maximal_members, SmallestRepeat, Overfull}
use Rattle.meaning.specs.Join.{joined_table, pairs}
use Rattle.meaning.specs.Checks.{Check, Passes, Fails, FailsWith}
use Rattle.meaning.specs.Answers.{number_of, start_of, refused, Solved}
use Rattle.meaning.specs.Play.{Wins, Realizes, Realizable}
use Rattle.meaning.specs.Controller.{check_checks, followed}
use Rattle.meaning.specs.Calls.{code, Unrefused, Covers, controller_of}

-- 1, of a call with these checks and this answer; Untouched says that its result buffers are as they were
pub record Refuses (cs : List Check) (answer : Answer) (Untouched : Type 0) : Type 0 where
  -- "Bad input is refused by a numbered reason, in a fixed order": a reason's number is given exactly if its check is the first that fails,
  pub in_order : (r : Refusal) → (code answer ≡ number_of r) ↔ FailsWith cs r
  -- with its place and which
  pub by_the_first : (i : ℕ) (c : Check) → Fails cs i c → answer ≡ refused c
  -- "and a refused call writes nothing to the result buffers"
  pub writes_nothing : (r : Refusal) → code answer ≡ number_of r → Untouched

-- 2, of a call that solves a table from a first set, "unless refused"
pub record Solves (K : ℕ) (t : Table) (X : Set) (s : Solved) : Type 0 where
  -- "the answer is "realizable" exactly if some way of choosing outputs from the inputs so far keeps every run of the table to at most K
  -- visits into marked states, for every finite sequence of inputs", and else unrealizable
  pub realizable_exactly : (code s.answer ≡ 0) ↔ Realizable K t
  pub unrealizable_exactly : (code s.answer ≡ 1) ↔ (Realizable K t → ⊥)
  -- "The controller written does so.": its rows, read back from the bytes and followed from the answer's start
  pub controller_realizes : code s.answer ≡ 0 → Realizes K t (controller_of t s)
  -- "The winning list covers exactly the positions from which, their counts already spent, this can be done."
  pub winners_cover : (F : Position) → length F ≡ t.controllers → Wins K t F ↔ Covers t s F
  -- document 01: "The reported rounds is the smallest r with W(r) = W(r + 1). It is at most (K + 2) to the power of the number of
  -- controller-turn states, less 1."
  pub rounds-smallest : SmallestRepeat K t X s.answer.rounds

-- 1: ""Full" is given exactly when a set named in document 01 needs more positions than the room allows": of one table,
abbrev pub TableFull : List ℕ → ℕ → ℕ → Type 0
TableFull bytes K N = Overfull K (stated bytes) (all_safe K (stated bytes).controllers) N

-- and by parts: "each of the three stages in turn", and "that first list of pairs"
abbrev pub PartsFull : List ℕ → List ℕ → ℕ → ℕ → Type 0
PartsFull one two K N =
    let both = joined_table one two in
    let X = pairs K (stated one) (stated two) in
    (TableFull one K N ⊎ TableFull two K N) ⊎ ((N < length (maximal_members K both.controllers X)) ⊎ Overfull K both X N)

-- Document 02, R-1, of a call that checks rows: 0 and 1 exactly where no check fails and following the rows keeps every run to K, or
-- doesn't; and then all other fields are 0
pub record Judges (bytes : List ℕ) (K : ℕ) (rows : List ℕ) (answer : Answer) : Type 0 where
  pub right-exactly : (code answer ≡ 0) ↔ (Passes (check_checks bytes K rows) × Realizes K (stated bytes) (followed rows))
  pub wrong_exactly : (code answer ≡ 1) ↔ (Passes (check_checks bytes K rows) × (Realizes K (stated bytes) (followed rows) → ⊥))
  pub others-zero : Unrefused answer
      → (answer.place ≡ 0) × (answer.which ≡ 0) × (answer.rounds ≡ 0) × (answer.winners ≡ 0) × (start_of answer.verdict ≡ 0)
