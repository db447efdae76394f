-- Document 01, codes 0, 1 and 12, from a list of winners alone.
use Rattle.std.specs.Prelude.{List, [], ◌∷◌, ℕ, ◌*◌, ◌≤◌, length, eqb}
use Rattle.meaning.specs.declared.Refusal.TheVariants.{Nothing}
use Rattle.meaning.specs.Table.{Table, Good, Small}
use Rattle.meaning.specs.Counting.{Position, covered}
use Rattle.meaning.specs.Answers.{Solved, unsolved, answered}
use Rattle.meaning.specs.Checks.{check, judge}

-- 12, "no position wins at all", or the answer that the list gives
unfoldable pub finished : ℕ → Table → List Position → ℕ → List ℕ → List ℕ → Solved
finished K t ws rounds win con =
    judge (check Nothing 0 0 (eqb (length ws) 0) ∷ []) (unsolved win con) (answered K t (covered ws) ws rounds win con)

-- there is room for the winners and for the rows
pub record Roomy (ws : List Position) (win con : List ℕ) : Type 0 where
  pub winners : 8 * length ws ≤ length win
  pub controller : 32 * length ws ≤ length con

-- a table that the rounds may be run on and the rows be written of: it may be played on, with at most eight states a side and eight letters
pub record Fit (t : Table) : Type 0 where
  pub small : Small t
  pub good : Good t
  pub outputs : t.outputs ≤ 8
  pub inputs : t.inputs ≤ 8
