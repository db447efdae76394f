-- `Play::by_input`: the step in words stands for that of the half of a round they state, so it is safe if that is, and raises the next
-- state's counts to it. Assumes nothing.
use mathlib.Core.Path.{◌≡◌, sym, ap, ◌∙◌}
use mathlib.Core.Bool.{Bool, true≢false}
use Prim.Native.Nat.{ℕ, ◌≤◌}
use lib.ListN.{length}
use Rattle.meaning.specs.Table.{Half}
use Rattle.meaning.specs.Counting.{Position, forward, safe}
use Rattle.meaning.specs.Written.{position_bytes}
use Rattle.meaning.proofs.Steps.{forward-length}
use Rattle.counts.specs.Words.{counts_in}
use Rattle.checker.proofs.Counts.{safe_wide}
use Rattle.checker.proofs.Raising.{raised_wide}
use Rattle.checker.proofs.lead.Play.by_input.Goals as goal

-- for a half of a round whose step is made in words
module _ (k : ℕ) (h : Half) (small : h.targets ≤ 8) (middle word : ℕ)
    (stepped : counts_in word ≡ position_bytes (forward k h (counts_in middle))) where
  -- the position after its step
  abbrev after : Position
  after = forward k h (counts_in middle)

  few : length after ≤ 8
  few = rw (forward-length k h (counts_in middle)) small

  -- is safe if the word is
  judged : {b : Bool} → b ≡ safe k (counts_in word) → b ≡ safe k after
  judged e = e ∙ ap (safe k) stepped ∙ safe_wide k after few

pub returns-then-not-safe : goal.returns-then-not-safe
returns-then-not-safe c h stated small =
    let told = judged c.args.self.now.k h small c.args.middle c.forward-after.result (c.forward-after.ensures h stated) c.safe.ensures in
    (sym c.if-not-safe.true ∙ told, λ e. absurd (true≢false (sym e)))

pub returns : goal.returns
returns c h stated small =
    let k = c.args.self.now.k in
    let middle = c.args.middle in
    let word = c.forward-after.result in
    let stepped = c.forward-after.ensures h stated in
    let raised = c.raise.ensures k (sym c.safe.ensures ∙ c.if-not-safe.false) in (
      sym c.if-not-safe.false ∙ judged k h small middle word stepped c.safe.ensures,
      λ _. raised_wide (after k h small middle word stepped) (few k h small middle word stepped) (rw stepped at raised),
    )
