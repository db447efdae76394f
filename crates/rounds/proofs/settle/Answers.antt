-- `settle`: the rounds begin at the first list. A round whose answer is an error is FULL; any other had room for all its lists, and its
-- words hold the list of W(r + 1). Where that is the list of W(r) the rounds are settled, and else one more has run, of which there are
-- too few to pass a word. Assumes nothing.
use Rattle.std.proofs.Common.{rules}
use lib.ListN.{length}
use mathlib.Core.Path.{◌≡◌, refl, sym, ap, ◌∙◌}
use native.Mathlib.Numerals.{add-one}
use native.Mathlib.Omega.{arith}
use Rattle.std.specs.Prelude.{is_ok, is_err}
use Rattle.meaning.proofs.Tests.{clash}
use Rattle.meaning.proofs.Rounds.{rounds-few}
use Rattle.table.specs.Packed.{table_in}
use Rattle.lists.specs.Members.{positions}
use Rattle.lists.proofs.Members.{positions-length}
use Rattle.sets.specs.Engine.{next_list}
use Rattle.rounds.proofs.Runs.{full-last, fits-last}
use Rattle.rounds.proofs.Settles.{settles_first-full, settles_start, settles_bound, settles_round-full}
use Rattle.rounds.proofs.Settles.{settles_next, settles_repeat, after_settled}
use Rattle.rounds.proofs.settle.Goals as goal

pub returns-then-room-first : goal.returns-then-room-first
returns-then-room-first g c = settles_first-full c.requires.3 (omega (arith, positions-length c.args.first.now)) refl

pub loop-w-init : goal.loop-w-init
loop-w-init g c =
    let copied = (rw c.unwrap-w.ensures at c.try_from.ensures).0 in
    rw copied (settles_start c.requires.3 (omega (arith, positions-length c.args.first.now)))

pub returns-in_err-next_round : goal.returns-in_err-next_round
returns-in_err-next_round g c =
    let round = rw c.deref.ensures.0 at c.next_round.ensures in
    settles_round-full c.requires.3 c.loop-w.invariant (full-last round (ap is_err c.in_err-next_round.was)) c.from_residual.ensures.0

pub overflow_add-rounds : goal.overflow_add-rounds
overflow_add-rounds g c =
    let given = c.args in
    let list = c.requires.3 in
    omega (
      arith,
      settles_bound list c.loop-w.invariant,
      rounds-few given.k (table_in given.table).controllers (omega arith) list.small.controllers,
    )

pub loop-w-smaller : goal.loop-w-smaller
loop-w-smaller g c = omega (arith, settles_bound c.requires.3 c.loop-w.invariant)

pub loop-w-preserved : goal.loop-w-preserved
loop-w-preserved g c =
    let given = c.args in
    let ws = positions c.loop-w.w.items in
    let held = fits-last (rw c.deref.ensures.0 at c.next_round.ensures) (ap is_ok c.in_ok-next_round.was) in
    let same = rw (c.deref-in-loop-w.ensures.0, c.deref-in-loop-w-2.ensures.0) at c.same.ensures in
    let differs : (next_list given.k (table_in given.table) ws ≡ ws) → ⊥ = λ e. clash _ (same.1 (sym (held.1 ∙ e))) c.if-same.false in
    rw (add-one c.loop-w.rounds, held.1) (settles_next c.requires.3 c.loop-w.invariant held.0 differs)

pub copy-requires : goal.copy-requires
copy-requires g c =
    let held = fits-last (rw c.deref.ensures.0 at c.next_round.ensures) (ap is_ok c.in_ok-next_round.was) in
    let again = (rw (c.deref-in-loop-w.ensures.0, c.deref-in-loop-w-2.ensures.0) at c.same.ensures).0 c.if-same.true in
    let done = settles_repeat c.requires.3 c.loop-w.invariant held.0 (sym held.1 ∙ sym again) refl in
    (search rules, omega (arith, (after_settled done refl).4, ap length c.deref-2.ensures.0, c.requires.4))

pub returns : goal.returns
returns g c =
    let held = fits-last (rw c.deref.ensures.0 at c.next_round.ensures) (ap is_ok c.in_ok-next_round.was) in
    let repeats = (rw (c.deref-in-loop-w.ensures.0, c.deref-in-loop-w-2.ensures.0) at c.same.ensures).0 c.if-same.true in
    rw (c.copy.ensures ∙ c.deref-2.ensures.0) (settles_repeat c.requires.3 c.loop-w.invariant held.0 (sym held.1 ∙ sym repeats) refl)
