-- `read_full` reads within the buffer, and what it has put there is what came next. The measure is the room that is left, since each turn
-- puts a byte at least.
use Rattle.std.proofs.Common.{length, take, ◌-◌, ◌≤◌, ◌≡◌}
use Rattle.std.specs.Io.KnownBytes.{Consumes}
use Rattle.lines.proofs.files.read_full.Given as goal

abbrev pub invariant-loop-done : goal.invariant-loop-done
invariant-loop-done g l = (length l.buf ≡ length l.initial.buf) × (l.done ≤ length l.buf)
    × Consumes (g.F.Read.remaining l.initial.from) (g.F.Read.remaining l.from) (take l.done l.buf)

abbrev pub decreases-loop-done : goal.decreases-loop-done
decreases-loop-done g l = length l.initial.buf - l.done
