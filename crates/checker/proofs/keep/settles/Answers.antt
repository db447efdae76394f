-- `settles`: at the start the counts of the first state track the runs that visit nothing else. A flagged state has rows, so that it is led
-- on; an overrun shows that some run overruns k, and leading on keeps the invariant, with less room or fewer flags. Where no state is
-- flagged the rows keep every run to k. Assumes nothing.
use mathlib.Core.Path.{◌≡◌, refl, sym, ap, ◌∙◌}
use mathlib.Core.Bool.{true, false, true≢false}
use Prim.Native.Nat.{ℕ, ◌+◌, ◌<◌}
use native.Mathlib.Omega.{arith}
use borrow.Author.Count.{below_none}
use lib.ListN.{length, set}
use Rattle.meaning.specs.Lists.{smallest}
use Rattle.meaning.specs.Table.{Table}
use Rattle.meaning.specs.Play.{rows_in, row_next}
use Rattle.meaning.specs.Controller.{has_rows}
use Rattle.meaning.proofs.Formed.{first-has}
use Rattle.checker.specs.Begun.{Begun}
use Rattle.checker.specs.Raised.{counts_at, flag_at}
use Rattle.checker.specs.LedByRound.{AllLed, Overruns}
use Rattle.checker.proofs.Room.{led_less}
use Rattle.checker.proofs.Tracks.{fitting, flag_up, no_flag, tracks-start, tracks_led, none_before, tracks_overrun, tracks_end}
use Rattle.checker.proofs.keep.settles.Goals as goal
use Rattle.checker.proofs.keep.settles.Goals.{In-Some, After-by_round}

-- the state that a turn leads on is flagged, and has rows
flag : (c : In-Some) → flag_at c.loop-s.counts.risen c.in-Some.s ≡ true
flag c = flag_up c.loop-s.counts.risen c.in-Some.s c.in-Some.ensures (omega arith)

has : (c : In-Some) → has_rows (rows_in c.args.play.now.controller) c.in-Some.s ≡ true
has c = (c.loop-s.invariant c.requires.0 c.requires.1).tracks.named c.in-Some.s (flag c)

pub loop-s-init : goal.loop-s-init
loop-s-init c t begun =
    let rows = rows_in c.args.play.now.controller in
    let f = begun.followable in
    let has = first-has rows (fitting f).formed in
    record {
      tracks = rw (c.of-counts.ensures.counts, c.of-counts.ensures.flagged)
          (tracks-start c.args.play.now.k t rows f.bounded.small.controllers c.first.result c.first.ensures (omega arith) c.args.begins
          begun.starts has begun.safely);
      before = record { within = omega arith; none = below_none _ };
    }

pub first_risen-requires : goal.first_risen-requires
first_risen-requires c = (c.loop-s.invariant c.requires.0 c.requires.1).before

pub returns-in_default : goal.returns-in_default
returns-in_default c t begun =
    let p = c.args.play.now in
    let f = begun.followable in
    let counts = c.loop-s.counts in
    let none = no_flag counts.risen (c.in_default.ensures ∙ sym counts.for_all) in (
      λ _. tracks_end p.k t (rows_in p.controller) counts.most counts.risen (c.loop-s.invariant t begun).tracks
          f.good f.declared (fitting f) none,
      λ _. refl,
    )

pub by_round-requires : goal.by_round-requires
by_round-requires c = (c.requires.1.followable.bounded.patience, has (goal.at.by_round-requires c).In-Some)

-- leading the state on, its flag taken down before: all are led on, or a run overruns k
led : (c : After-by_round) (t : Table) → Begun t c.args.play.now c.args.begins
    → (c.by_round.result ≡ true
    → AllLed c.args.play.now.k t (rows_in c.args.play.now.controller) c.in-Some.s c.loop-s.counts.most
    (set c.loop-s.counts.risen c.in-Some.s false) c.by_round.new.counts.most c.by_round.new.counts.risen)
    × (c.by_round.result ≡ false
    → Overruns c.args.play.now.k t (rows_in c.args.play.now.controller) c.in-Some.s (counts_at c.loop-s.counts.most c.in-Some.s))
led c t begun =
    let led = c.by_round.ensures t begun.followable begun.steps in
    rw (c.take.ensures.kept, c.take.ensures.down) at led

pub returns-then-not-by_round : goal.returns-then-not-by_round
returns-then-not-by_round c t begun = (
  λ e. absurd (true≢false (sym e)),
  λ realizes.
      let p = c.args.play.now in
      let counts = c.loop-s.counts in
      let over = (led (goal.at.returns-then-not-by_round c).After-by_round t begun).1 c.if-not-by_round.true in
      absurd (tracks_overrun p.k t (rows_in p.controller) counts.most counts.risen (c.loop-s.invariant t begun).tracks c.in-Some.s over
      realizes),
)

pub lowest-from-requires : goal.lowest-from-requires
lowest-from-requires c = has (goal.at.lowest-from-requires c).In-Some

pub loop-s-smaller : goal.loop-s-smaller
loop-s-smaller c =
    let counts = c.loop-s.counts in
    let all = (led (goal.at.loop-s-smaller c).After-by_round c.requires.0 c.requires.1).0 c.if-not-by_round.false in
    led_less c.args.play.now.k counts.most _ counts.risen _ c.in-Some.s (omega arith) (flag (goal.at.loop-s-smaller c).In-Some)
    c.by_round.new.counts.for_all all.rises

pub loop-s-preserved : goal.loop-s-preserved
loop-s-preserved c t begun =
    let k = c.args.play.now.k in
    let rows = rows_in c.args.play.now.controller in
    let counts = c.loop-s.counts in
    let f = begun.followable in
    let s = c.in-Some.s in
    let low : s < length counts.risen = omega arith in
    let up = flag (goal.at.loop-s-preserved c).In-Some in
    let all = (led (goal.at.loop-s-preserved c).After-by_round t begun).0 c.if-not-by_round.false in
    let tracks = (c.loop-s.invariant t begun).tracks in
    let last = c.lowest-from.ensures ∙ ap (λ (n : ℕ). smallest (s + 1) n (row_next rows s)) f.inputs in
    record {
      tracks = tracks_led k t rows counts.most counts.risen tracks (fitting f) s low up _ _ all;
      before = rw last
          (none_before k t rows counts.most counts.risen tracks (fitting f) s low up _ _ all
          (c.by_round.new.counts.for_all ∙ sym counts.for_all) c.in-Some.ensures);
    }
