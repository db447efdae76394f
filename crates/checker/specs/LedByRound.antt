-- A controller state led on: its counts a round further, by its output and each input.
use Rattle.std.specs.Prelude.{◌≡◌, Bool, true, false, List, ℕ, ◌≤◌}
use Rattle.meaning.specs.Table.{Half, Table}
use Rattle.meaning.specs.Counting.{Position, forward, safe}
use Rattle.meaning.specs.Written.{Row, after_round}
use Rattle.meaning.specs.Play.{rows_in, row_output, row_next}
use Rattle.counts.specs.Words.{counts_in, StatedIn}
use Rattle.checker.specs.declared.lead.Play.{Play}
use Rattle.checker.specs.declared.lead.Turn.{Turn}
use Rattle.checker.specs.declared.most.Counts.{Counts}
use Rattle.checker.specs.Followable.{Followable}
use Rattle.checker.specs.Stepped.{Steps}
use Rattle.checker.specs.Raised.{counts_at, Raised, Led}

-- the position that state s leads on to from its counts F with an input
abbrev pub led_to : ℕ → Table → List Row → ℕ → Position → ℕ → Position
led_to K t rows s F i = after_round K t (row_output rows s) i F

abbrev pub AllLed : ℕ → Table → List Row → ℕ → List ℕ → List Bool → List ℕ → List Bool → Type 0
AllLed K t rows s most risen = Led K t.inputs (row_next rows s) (led_to K t rows s (counts_at most s)) most risen

-- with some input a run overruns K
abbrev pub Overruns : ℕ → Table → List Row → ℕ → Position → Type 0
Overruns K t rows s F = (i : ℕ) × (safe K (led_to K t rows s F i) ≡ false)

-- a middle position led on by an input, for whatever half of a round the words state; true exactly if that is safe
abbrev pub LedByInput : ℕ → Turn → ℕ → ℕ → ℕ → Counts → Counts → Bool → Type 0
LedByInput K turn middle input next old new r =
    (h : Half) → StatedIn turn.spreads input turn.marks h → h.targets ≤ 8
    → (r ≡ safe K (forward K h (counts_in middle)))
    × (r ≡ true → Raised K next (forward K h (counts_in middle)) old.most old.risen new.most new.risen)

-- a state led on, for whatever table the words state; false exactly if a run overruns K
abbrev pub LedByRound : Play → ℕ → Counts → Counts → Bool → Type 0
LedByRound play s old new r =
    (t : Table) → Followable play.k t play.controller → Steps t play.outputs play.inputs
    → (r ≡ true → AllLed play.k t (rows_in play.controller) s old.most old.risen new.most new.risen)
    × (r ≡ false → Overruns play.k t (rows_in play.controller) s (counts_at old.most s))
