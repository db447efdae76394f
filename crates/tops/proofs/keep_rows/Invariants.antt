-- `keep_rows`: the loop's invariant is that the rows from the i-th on come, from those kept so far, to what all rows come to from those
-- kept at first. Assumes nothing.
use mathlib.Core.Path.{◌≡◌}
use Prim.Native.Nat.{◌≤◌}
use lib.ListN.{drop}
use Rattle.arrayvec.specs.ArrayVec.{array_vec_len}
use Rattle.lists.specs.Members.{positions}
use Rattle.tops.specs.Candidates.{rows_of}
use Rattle.tops.proofs.keep_rows.Given as goal

abbrev pub invariant-loop-i : goal.invariant-loop-i
invariant-loop-i g l =
    (array_vec_len l.out ≤ l.room)
    × (rows_of (positions (drop l.i l.xs)) (positions l.ys) (positions l.out.items)
    ≡ rows_of (positions l.xs) (positions l.ys) (positions l.initial.out.items))
