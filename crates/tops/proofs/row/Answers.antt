-- `row`: one more lesser counts come first in the list turned round, and so are thinned last. There are no more kept ones than positions
-- seen, so there is room. Assumes nothing.
use mathlib.Core.Path.{◌≡◌, ap}
use mathlib.Core.List.{List, [], ◌∷◌, map, map-append, reverse, reverse-append}
use native.Mathlib.Omega.{arith}
use lib.ListN.{length, get_or, take, length-map, length-take}
use lib.Seq.{take-length}
use Rattle.std.proofs.lemmas.List.{length-reverse}
use Rattle.meaning.specs.Counting.{Position}
use Rattle.counts.specs.Halves.{lesser_counts}
use Rattle.counts.specs.Words.{counts_in}
use Rattle.lists.specs.Members.{positions}
use Rattle.lists.proofs.Members.{positions-length, positions-next}
use Rattle.tops.specs.Tops.{thinned}
use Rattle.tops.proofs.Thinned.{thinned-length}
use Rattle.tops.proofs.row.Goals as goal

pub loop-y-init : goal.loop-y-init
unfolding positions thinned
loop-y-init c = rw c.clear.ensures

pub keep_top-requires : goal.keep_top-requires
keep_top-requires c =
    let given = c.args in
    let seen = positions (take c.loop-y.y-index given.ys.now) in
    let pairs = map (lesser_counts (counts_in given.x)) seen in
    omega (
      arith,
      c.loop-y-test.true,
      c.requires,
      positions-length c.loop-y.out.items,
      ap length c.loop-y.invariant,
      thinned-length (reverse pairs),
      length-reverse pairs,
      length-map seen (lesser_counts (counts_in given.x)),
      positions-length (take c.loop-y.y-index given.ys.now),
      length-take c.loop-y.y-index given.ys.now,
    )

pub loop-y-preserved : goal.loop-y-preserved
unfolding thinned
loop-y-preserved c =
    let given = c.args in
    let all = given.ys.now in
    let i = c.loop-y.y-index in
    let seen = positions (take i all) in
    let pairs : List Position → List Position = map (lesser_counts (counts_in given.x)) in
    let y = counts_in (get_or all i 0) in
    rw (
      c.keep_top.ensures,
      c.lesser.ensures,
      c.loop-y.invariant,
      positions-next all i c.loop-y-test.true,
      map-append (lesser_counts (counts_in given.x)) seen (y ∷ []),
      reverse-append (pairs seen) (pairs (y ∷ [])),
    )

pub returns : goal.returns
returns c =
    let at = c.before in
    let all = at.args.ys.now in
    let e : at.loop-y.y-index ≡ length all = omega arith in
    rw (e, take-length all) at at.loop-y.invariant
