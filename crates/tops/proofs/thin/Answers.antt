-- `thin`: one position more comes first in those seen turned round, and so is thinned last. There are no more kept ones than positions
-- seen, so there is room. At the end all are seen, turned round twice. Assumes nothing.
use mathlib.Core.Path.{ap, ◌∙◌}
use mathlib.Core.List.{List, [], ◌∷◌, map, map-append, reverse, reverse-append, reverse-reverse}
use Prim.Native.Nat.{ℕ}
use native.Mathlib.Omega.{arith}
use denote.Ref.{Bor}
use lib.ListN.{length, length-map}
use Rattle.std.proofs.lemmas.List.{length-reverse}
use Rattle.std.proofs.lemmas.Iterator.Adapters.{YieldsList-from_rev_slice}
use Rattle.std.proofs.lemmas.Iterator.Consumers.{YieldsList-turn, YieldsList-end}
use Rattle.counts.specs.Words.{counts_in}
use Rattle.lists.specs.Members.{positions}
use Rattle.lists.proofs.Members.{positions-length, positions-more, positions-reverse}
use Rattle.tops.specs.Tops.{thinned}
use Rattle.tops.proofs.Thinned.{thinned-length}
use Rattle.tops.proofs.thin.Goals as goal

pub loop-m-init : goal.loop-m-init
unfolding positions thinned
loop-m-init g c = rw c.clear.ensures

pub keep_top-requires : goal.keep_top-requires
keep_top-requires g c =
    let all = c.args.set.now in
    let seen = map (λ (y : Bor ℕ). y.now) c.loop-m.yielded in
    let turn = YieldsList-turn (YieldsList-from_rev_slice all cc) c.loop-m.yielded _ c.loop-m.yielded_by _ _ c.in-Some.m c.in-Some.is
    c.next.ensures.steps in
    omega (
      arith,
      turn.0,
      c.requires,
      positions-length c.loop-m.out.items,
      ap length c.loop-m.invariant,
      thinned-length (reverse (positions seen)),
      length-reverse (positions seen),
      positions-length seen,
      length-map c.loop-m.yielded (λ (y : Bor ℕ). y.now),
      length-reverse all,
    )

pub loop-m-preserved : goal.loop-m-preserved
unfolding thinned
loop-m-preserved g c =
    let seen = map (λ (y : Bor ℕ). y.now) c.loop-m.yielded in
    let m = c.in-Some.m.now in
    rw (
      c.keep_top.ensures,
      c.loop-m.invariant,
      map-append (λ (y : Bor ℕ). y.now) c.loop-m.yielded (c.in-Some.m ∷ []),
      positions-more seen m,
      reverse-append (positions seen) (counts_in m ∷ []),
    )

pub returns : goal.returns
returns g c =
    let all = c.args.set.now in
    let end = YieldsList-end (YieldsList-from_rev_slice all cc) c.loop-m.yielded _ c.loop-m.yielded_by _ _ c.in-None.is
    c.next.ensures.steps in
    c.loop-m.invariant
    ∙ ap thinned (ap (λ (ws : List ℕ). reverse (positions ws)) end.0 ∙ ap reverse (positions-reverse all) ∙ reverse-reverse (positions all))
