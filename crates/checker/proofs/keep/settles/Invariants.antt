-- `settles` leads a flagged state on until there is none. The loop's invariant is `Turning`, for each table that it was begun on: the
-- counts track the runs (`Tracks`), and no state before the one to look from is flagged. Each time the room for the counts to rise falls,
-- or with the same room the number of flags. Assumes nothing.
use Prim.Native.Nat.{ℕ}
use Rattle.meaning.specs.Table.{Table}
use Rattle.meaning.specs.Play.{rows_in}
use Rattle.checker.specs.declared.lead.Play.{Play}
use Rattle.checker.specs.declared.most.Counts.{Counts}
use Rattle.checker.specs.Begun.{Begun}
use Rattle.checker.proofs.Room.{ahead}
use Rattle.checker.proofs.Tracks.{Turning}
use Rattle.checker.proofs.keep.settles.Given as goal

-- on each table that it was begun on
abbrev pub TurningFor : Play → ℕ → ℕ → Counts → Type 0
TurningFor play begins from counts =
    (t : Table) → Begun t play begins → Turning play.k t (rows_in play.controller) from counts.most counts.risen

abbrev pub invariant-loop-s : goal.invariant-loop-s
invariant-loop-s l = TurningFor l.play l.begins l.from l.counts

abbrev pub decreases-loop-s : goal.decreases-loop-s
decreases-loop-s l = ahead l.play.k l.counts.most l.counts.risen
