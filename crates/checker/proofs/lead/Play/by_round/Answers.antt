-- `Play::by_round`: the word half way has the counts that the half of a round on the state's output leads to, so that each input leads to
-- the position of the definition, for whatever table the words state. An input that is not safe shows an overrun; after the last one all
-- are led on. Assumes nothing.
use mathlib.Core.Path.{◌≡◌, sym, ap, ◌∙◌}
use mathlib.Core.Bool.{Bool, true≢false}
use mathlib.Core.List.{List}
use Prim.Native.Nat.{ℕ}
use native.Mathlib.Omega.{arith}
use lib.ListN.{get_or}
use Rattle.meaning.specs.Table.{Table, on_output, on_input}
use Rattle.meaning.specs.Counting.{Position, forward, safe}
use Rattle.meaning.specs.Written.{position_bytes}
use Rattle.meaning.specs.Play.{rows_in, row_output}
use Rattle.counts.specs.Words.{counts_in}
use Rattle.checker.specs.Followable.{Followable}
use Rattle.checker.specs.Raised.{counts_at}
use Rattle.checker.specs.LedByRound.{led_to}
use Rattle.checker.proofs.Counts.{counts-read}
use Rattle.checker.proofs.Raising.{raised_as}
use Rattle.checker.proofs.Leading.{led_none, led_more}
use Rattle.checker.proofs.Stepping.{led_to_lem}
use Rattle.checker.proofs.lead.Play.by_round.Goals as goal

-- for a table on which the rows can be followed, and the word that its half of a round on the state's output makes of the state's counts
module _ (k : ℕ) (t : Table) (bytes : List ℕ) (f : Followable k t bytes) (most : List ℕ) (s output middle : ℕ)
    (told : output ≡ row_output (rows_in bytes) s)
    (stepped : counts_in middle ≡ position_bytes (forward k (on_output t output) (counts_in (get_or most s 0)))) where
  abbrev from : Position
  from = counts_at most s

  -- the position half way, in eight counts
  begun : counts_in middle ≡ position_bytes (forward k (on_output t (row_output (rows_in bytes) s)) from)
  begun =
      stepped ∙ ap (λ (o : ℕ). position_bytes (forward k (on_output t o) (counts_in (get_or most s 0)))) told
      ∙ ap (λ (F : Position). position_bytes (forward k (on_output t (row_output (rows_in bytes) s)) F)) (counts-read most s)

  -- the position is the one that the definition leads to
  same : (i : ℕ) → forward k (on_input t i) (counts_in middle) ≡ led_to k t (rows_in bytes) s from i
  same = led_to_lem k t f.bounded (rows_in bytes) s from middle begun

  safely : (i : ℕ) {r : Bool} → r ≡ safe k (forward k (on_input t i) (counts_in middle))
      → r ≡ safe k (led_to k t (rows_in bytes) s from i)
  safely i e = e ∙ ap (safe k) (same i)

pub loop-i-init : goal.loop-i-init
loop-i-init c t f steps = led_none _ _ _ _ _

pub returns-then-not-by_input : goal.returns-then-not-by_input
returns-then-not-by_input c t f steps =
    let p = c.args.self.now in
    let i = c.loop-i.i in
    let output = c.output-output.result in
    let stepped = c.forward-middle.ensures (on_output t output) (steps.on-outputs output) in
    let led = c.by_input.ensures (on_input t i) (steps.on-inputs i) f.bounded.small.controllers in
    let told = safely p.k t p.controller f c.args.counts.now.most c.args.s output c.forward-middle.result c.output-output.ensures stepped i
    led.0 in
    (λ e. absurd (true≢false (sym e)), λ _. (i, sym told ∙ c.if-not-by_input.true))

pub loop-i-preserved : goal.loop-i-preserved
loop-i-preserved c t f steps =
    let p = c.args.self.now in
    let i = c.loop-i.i in
    let output = c.output-output.result in
    let middle = c.forward-middle.result in
    let most = c.args.counts.now.most in
    let s = c.args.s in
    let stepped = c.forward-middle.ensures (on_output t output) (steps.on-outputs output) in
    let led = c.by_input.ensures (on_input t i) (steps.on-inputs i) f.bounded.small.controllers in
    let went = c.if-not-by_input.false in
    led_more _ _ _ _ _ i (c.loop-i.invariant t f steps)
    (sym (safely p.k t p.controller f most s output middle c.output-output.ensures stepped i led.0) ∙ went)
    (raised_as c.next.ensures (same p.k t p.controller f most s output middle c.output-output.ensures stepped i) (led.1 went))

pub returns : goal.returns
returns c t f steps =
    let all : c.loop-i.i ≡ t.inputs = omega (arith, c.inputs-i-end.ensures, f.inputs) in
    (λ _. rw all at (c.loop-i.invariant t f steps), λ e. absurd (true≢false e))
