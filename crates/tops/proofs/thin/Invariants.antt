-- `thin`: the loop's invariant is that the kept ones are the thinned positions seen, the last first. Assumes nothing.
use mathlib.Core.Path.{◌≡◌}
use mathlib.Core.List.{map, reverse}
use Rattle.lists.specs.Members.{positions}
use Rattle.tops.specs.Tops.{thinned}
use Rattle.tops.proofs.thin.Given as goal

abbrev pub invariant-loop-m : goal.invariant-loop-m
invariant-loop-m g l = positions l.out.items ≡ thinned (reverse (positions (map (λ y. y.now) l.yielded)))
