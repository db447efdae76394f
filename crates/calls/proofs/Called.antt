-- What a call leaves, by whether the answer's buffer is long enough. Where it isn't, a call that solves is made with no room for
-- positions, and so is refused with 2 or 3 before it writes anything. Assumes nothing.
use mathlib.Core.Path.{◌≡◌, refl, ap, ◌∙◌}
use mathlib.Core.Bool.{Bool, true, false, cond}
use mathlib.Core.List.{List}
use Prim.Native.Nat.{ℕ, ◌≤◌, ◌<◌}
use borrow.Author.Tests.{lt-ltb, le-ltb}
use lib.Dec.{ltb}
use lib.ListN.{length}
use Rattle.meaning.specs.declared.Answer.{Answer}
use Rattle.meaning.specs.Answers.{code_of, refused, Solved, unsolved, solve, join, parts, joined_as, solved}
use Rattle.meaning.specs.Checks.{bound, room, solve_checks, parts_checks}
use Rattle.calls.specs.Called.{reported, called, unanswered, called_solved, joins, called_join}

-- what a call that solves leaves with no room for positions
pub record Roomless (K : ℕ) (win con : List ℕ) (s : Solved) : Type 0 where
  pub code : code_of s.answer.verdict ≡ unanswered K
  pub winners_stay : s.winners_after ≡ win
  pub controller-stays : s.controller_after ≡ con

roomless : (K : ℕ) (win con : List ℕ) (s : Solved) → s ≡ cond (ltb 7 K) (unsolved win con (bound K)) (unsolved win con (room 0 win con))
    → Roomless K win con s
unfolding bound room unsolved refused
roomless K win con s e = go (ltb 7 K) refl
  where
    go : (b : Bool) → ltb 7 K ≡ b → Roomless K win con s
    go true h = rw (e, h) (record { code = rw h; winners_stay = refl; controller-stays = refl })
    go false h = rw (e, h) (record { code = rw h; winners_stay = refl; controller-stays = refl })

pub solve-roomless : (bytes : List ℕ) (K : ℕ) (win con : List ℕ) → Roomless K win con (solve bytes K 0 win con)
unfolding solve solve_checks bound room
solve-roomless bytes K win con = roomless K win con (solve bytes K 0 win con) refl

pub parts-roomless : (one two : List ℕ) (K : ℕ) (win con : List ℕ) → Roomless K win con (parts one two K 0 win con)
unfolding parts parts_checks bound room
parts-roomless one two K win con = roomless K win con (parts one two K 0 win con) refl

-- a call that solves, by what it makes of the room that it is given
module _ (K N : ℕ) (win con ans : List ℕ) (solving : ℕ → Solved) (none : Roomless K win con (solving 0)) where
  pub called-solving : (given r : ℕ) (a : Answer) (win_after con_after ans_after : List ℕ) → given ≡ cond (ltb (length ans) 24) 0 N
      → solved a win_after con_after ≡ solving given → r ≡ code_of a.verdict → ans_after ≡ reported a ans
      → called r win_after con_after ans_after ≡ called_solved K win con ans (solving N)
  unfolding reported called_solved
  called-solving given r a win_after con_after ans_after lent left code laid = go (ltb (length ans) 24) refl
    where
      go : (b : Bool) → ltb (length ans) 24 ≡ b → called r win_after con_after ans_after ≡ called_solved K win con ans (solving N)
      go true e =
          let out : solved a win_after con_after ≡ solving 0 = left ∙ ap solving (rw e at lent) in
          rw (
            e,
            laid,
            e,
            code ∙ ap (λ (s : Solved). code_of s.answer.verdict) out ∙ none.code,
            ap (λ (s : Solved). s.winners_after) out ∙ none.winners_stay,
            ap (λ (s : Solved). s.controller_after) out ∙ none.controller-stays,
          )
      go false e =
          let out : solved a win_after con_after ≡ solving N = left ∙ ap solving (rw e at lent) in
          rw (e, ← out, laid, e, code)

module _ (one two out ans : List ℕ) where
  pub joins-short : length ans < 24 → joins 3 out ans ≡ called_join one two out ans
  unfolding called_join
  joins-short h = rw (lt-ltb (length ans) 24 h)

  pub joins_long : 24 ≤ length ans → (r : ℕ) (a : Answer) (out_after ans_after : List ℕ) → joined_as a out_after ≡ join one two out
      → r ≡ code_of a.verdict → ans_after ≡ reported a ans → joins r out_after ans_after ≡ called_join one two out ans
  unfolding reported called_join
  joins_long h r a out_after ans_after left code laid = rw (laid, le-ltb (length ans) 24 h, ← left, code)
