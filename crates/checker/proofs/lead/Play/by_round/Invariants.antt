-- `Play::by_round` leads the state's counts on by one input after the other. The loop's invariant: for whatever table the words state, they
-- are led on for the first i inputs, from the counts as they were. Assumes nothing.
use Prim.Native.Nat.{ℕ}
use Rattle.meaning.specs.Table.{Table}
use Rattle.meaning.specs.Play.{rows_in, row_next}
use Rattle.checker.specs.declared.lead.Play.{Play}
use Rattle.checker.specs.declared.most.Counts.{Counts}
use Rattle.checker.specs.Followable.{Followable}
use Rattle.checker.specs.Stepped.{Steps}
use Rattle.checker.specs.Raised.{counts_at, Led}
use Rattle.checker.specs.LedByRound.{led_to}
use Rattle.checker.proofs.lead.Play.by_round.Given as goal

-- led on for the first i inputs, on each table that the words state
abbrev pub LedFor : Play → ℕ → ℕ → Counts → Counts → Type 0
LedFor play s i old new =
    let rows = rows_in play.controller in
    (t : Table) → Followable play.k t play.controller → Steps t play.outputs play.inputs
    → Led play.k i (row_next rows s) (led_to play.k t rows s (counts_at old.most s)) old.most old.risen new.most new.risen

abbrev pub invariant-loop-i : goal.invariant-loop-i
invariant-loop-i l = LedFor l.self l.s l.i l.initial.counts l.counts
