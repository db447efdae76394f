-- The public calls: an answer's bytes, and for each call its whole outcome, the result and every lent buffer's bytes afterwards.
use Rattle.std.specs.Prelude.{◌≡◌, cond, ℕ, ◌+◌, ◌*◌, ◌/◌, ◌%◌, ◌≤◌, ◌<◌, length, take, ltb}
use mathlib.Core.List.{List, [], ◌∷◌, flat_map}
use Rattle.meaning.specs.declared.Answer.{Answer}
use Rattle.meaning.specs.declared.Refusal.TheVariants.{Bound, Room}
use Rattle.meaning.specs.Lists.{written}
use Rattle.meaning.specs.Answers.{number_of, code_of, start_of, Solved, solve, Joined, join, parts}
use Rattle.meaning.specs.Controller.{Found, CheckCall}
use Rattle.meaning.specs.Calls as Solving
use Rattle.meaning.specs.Calls.{Call, code}

-- "Every answer carries a code, a place, which .., rounds, number of winners, start."
unfoldable pub fields : Answer → List ℕ
fields a = code_of a.verdict ∷ a.place ∷ a.which ∷ a.rounds ∷ a.winners ∷ start_of a.verdict ∷ []

-- a field's four bytes, low byte first
unfoldable pub four_bytes : ℕ → List ℕ
four_bytes x = x % 256 ∷ x / 256 % 256 ∷ x / 65536 % 256 ∷ x / 16777216 % 256 ∷ []

-- six fields of four bytes
unfoldable pub answer_bytes : Answer → List ℕ
answer_bytes a = flat_map four_bytes (fields a)

-- they are laid down where there is room for them
unfoldable pub reported : Answer → List ℕ → List ℕ
reported a ans = cond (ltb (length ans) 24) ans (written (answer_bytes a) ans)

-- What a call that solves leaves: its result, and the bytes of the winners', the controller's and the answer's buffers afterwards
pub record Called : Type 0 where
  pub result : ℕ
  pub winners_after : List ℕ
  pub controller_after : List ℕ
  pub answer_after : List ℕ

abbrev pub called : ℕ → List ℕ → List ℕ → List ℕ → Called
called result win con ans = record { result = result; winners_after = win; controller_after = con; answer_after = ans }

-- an answer buffer under 24 bytes is refused with 3, together with the other room of 3: so 2 comes before it
abbrev pub unanswered : ℕ → ℕ
unanswered K = cond (ltb 7 K) (number_of Bound) (number_of Room)

-- and then nothing at all is written. Otherwise the result is the code, the two other buffers are as solving leaves them, and the answer is
-- laid down, for refusals too.
unfoldable pub called_solved : ℕ → List ℕ → List ℕ → List ℕ → Solved → Called
called_solved K win con ans s =
    cond (ltb (length ans) 24) (called (unanswered K) win con ans)
    (called (code_of s.answer.verdict) s.winners_after s.controller_after (written (answer_bytes s.answer) ans))

unfoldable pub called_solve : List ℕ → ℕ → ℕ → List ℕ → List ℕ → List ℕ → Called
called_solve table K N win con ans = called_solved K win con ans (solve table K N win con)

unfoldable pub called_parts : List ℕ → List ℕ → ℕ → ℕ → List ℕ → List ℕ → List ℕ → Called
called_parts one two K N win con ans = called_solved K win con ans (parts one two K N win con)

-- What a call that joins leaves: its result, and the bytes of the output's and the answer's buffers afterwards
pub record CalledJoin : Type 0 where
  pub result : ℕ
  pub out_after : List ℕ
  pub answer_after : List ℕ

abbrev pub joins : ℕ → List ℕ → List ℕ → CalledJoin
joins result out ans = record { result = result; out_after = out; answer_after = ans }

-- the same for a join, where 2 does not arise
unfoldable pub called_join : List ℕ → List ℕ → List ℕ → List ℕ → CalledJoin
called_join one two out ans =
    let j = join one two out in
    cond (ltb (length ans) 24) (joins (number_of Room) out ans)
    (joins (code_of j.answer.verdict) j.out_after (written (answer_bytes j.answer) ans))

-- And for a check of rows, which is lent the answer's buffer alone: with too short a one the result is 2 or 3 and nothing is written;
-- otherwise what is found is laid down, and the result is its code
pub record CalledCheck (table : List ℕ) (K : ℕ) (rows before : List ℕ) (result : ℕ) (after : List ℕ) : Type 0 where
  pub short : length before < 24 → (result ≡ unanswered K) × (after ≡ before)
  pub long : 24 ≤ length before
      → (a : Answer) × Found table K rows a × (result ≡ code_of a.verdict) × (after ≡ written (answer_bytes a) before)

-- What a caller learns from a call for C: the buffers that it lent, and what the call left of its result and of them
pub record Lent : Type 0 where
  pub winners_before : List ℕ
  pub controller_before : List ℕ
  pub answer_before : List ℕ

abbrev pub CSolveCall : List ℕ → ℕ → ℕ → Type 0
CSolveCall table K N = Call (λ (b : Lent). called_solve table K N b.winners_before b.controller_before b.answer_before)

abbrev pub CPartsCall : List ℕ → List ℕ → ℕ → ℕ → Type 0
CPartsCall one two K N = Call (λ (b : Lent). called_parts one two K N b.winners_before b.controller_before b.answer_before)

pub record LentToJoin : Type 0 where
  pub out_before : List ℕ
  pub answer_before : List ℕ

abbrev pub CJoinCall : List ℕ → List ℕ → Type 0
CJoinCall one two = Call (λ (b : LentToJoin). called_join one two b.out_before b.answer_before)

pub record CCheckCall (table : List ℕ) (K : ℕ) (rows : List ℕ) : Type 0 where
  pub answer_before : List ℕ
  pub result : ℕ
  pub answer_after : List ℕ
  pub promise : CalledCheck table K rows answer_before result answer_after

-- the numbers that bytes say, four by four, low byte first
abbrev pub numbers_in : List ℕ → List ℕ
numbers_in [] = []
numbers_in (a ∷ []) = []
numbers_in (a ∷ b ∷ []) = []
numbers_in (a ∷ b ∷ c ∷ []) = []
numbers_in (a ∷ b ∷ c ∷ d ∷ rest) = (a + 256 * b + 65536 * c + 16777216 * d) ∷ numbers_in rest

-- A call for C that solves is a call of Rattle, with the same buffers before and afterwards: its result is the code, and the first 24
-- bytes of the answer's buffer say the answer
pub record Heard {outcome : Solving.Lent → Solved} (lent : Lent) (left : Called) (call : Call outcome) : Type 0 where
  pub winners-lent : call.lent.winners_before ≡ lent.winners_before
  pub controller-lent : call.lent.controller_before ≡ lent.controller_before
  pub result-code : left.result ≡ code call.left.answer
  pub winners-left : left.winners_after ≡ call.left.winners_after
  pub controller-left : left.controller_after ≡ call.left.controller_after
  pub answer-said : numbers_in (take 24 left.answer_after) ≡ fields call.left.answer

-- and a call for C that joins likewise
pub record HeardJoin {outcome : List ℕ → Joined} (lent : LentToJoin) (left : CalledJoin) (call : Call outcome) : Type 0 where
  pub out_lent : call.lent ≡ lent.out_before
  pub result-code : left.result ≡ code call.left.answer
  pub out_left : left.out_after ≡ call.left.out_after
  pub answer-said : numbers_in (take 24 left.answer_after) ≡ fields call.left.answer

-- and a call for C that checks rows
pub record HeardCheck {table : List ℕ} {K : ℕ} {rows : List ℕ} (said : CCheckCall table K rows) (call : CheckCall table K rows)
    : Type 0 where
  pub result-code : said.result ≡ code call.answer
  pub answer-said : numbers_in (take 24 said.answer_after) ≡ fields call.answer
