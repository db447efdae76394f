-- `keep_row`: the outer loop's invariant is that `out` holds what is collected from the candidates seen; the scan's, that none of the kept
-- ones looked at covers the candidate. Assumes nothing.
use mathlib.Core.Path.{◌≡◌}
use mathlib.Core.Bool.{false}
use mathlib.Core.List.{map}
use lib.ListN.{take}
use Rattle.meaning.specs.Counting.{covered}
use Rattle.counts.specs.Words.{counts_in}
use Rattle.lists.specs.Members.{positions}
use Rattle.tops.specs.Tops.{meets}
use Rattle.tops.proofs.Collect.{Collects}
use Rattle.tops.proofs.keep_row.Given as goal

abbrev pub invariant-candidates : goal.invariant-candidates
invariant-candidates g l =
    Collects (meets (positions l.xs) (positions l.ys)) (positions l.initial.out.items) (positions (take l.p-index l.row)) l.room l.out.items

abbrev pub invariant-loop-kept : goal.invariant-loop-kept
invariant-loop-kept g l = covered (positions (map (λ y. y.now) l.yielded)) (counts_in l.p) ≡ false
