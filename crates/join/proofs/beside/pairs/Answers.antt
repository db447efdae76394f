-- `pairs`: there are as many pairs as the product of the two lengths, so that is past the room exactly if the list is, and before each of
-- them there is room for one more. Each pair is one more of its row, and each row one more. Assumes nothing.
use mathlib.Core.Path.{◌≡◌, refl, sym, ap, ◌∙◌}
use mathlib.Core.List.{[], ◌∷◌, map, map-append, append_assoc, append-nil, flat_map}
use native.Mathlib.Omega.{arith}
use lib.ListN.{length, get_or, take}
use lib.Seq.{take-length}
use Rattle.counts.specs.Words.{counts_in}
use Rattle.lists.specs.Members.{positions}
use Rattle.lists.proofs.Members.{positions-length, positions-more, positions-next}
use Rattle.tops.proofs.Held.{holds-full, holds_fits}
use Rattle.join.specs.Beside.{beside_at, all_beside}
use Rattle.join.proofs.Pairs.{all_more, pairs-number, pairs-before}
use Rattle.join.proofs.beside.pairs.Goals as goal

pub returns-then-room-a : goal.returns-then-room-a
returns-then-room-a g c = holds-full _ refl (rw (pairs-number c.args.n c.args.a.now c.args.b.now) c.if-room-a.true)

pub loop-x-init : goal.loop-x-init
unfolding positions all_beside flat_map
loop-x-init g c = rw c.clear.ensures

pub loop-y-init : goal.loop-y-init
unfolding positions
loop-y-init g c = c.loop-x.invariant ∙ sym (append-nil _)

pub push-requires : goal.push-requires
push-requires g c =
    let before = pairs-before c.args.n c.args.a.now c.args.b.now c.loop-x.x-index c.loop-y.y-index _ c.loop-y.out.items c.loop-x-test.true
    c.loop-y-test.true c.loop-y.invariant in (
      omega arith,
      omega (arith, before, c.if-room-a.false, c.requires),
    )

pub loop-y-preserved : goal.loop-y-preserved
loop-y-preserved g c =
    let given = c.args in
    let j = c.loop-y.y-index in
    let rows = all_beside given.n (positions (take c.loop-x.x-index given.a.now)) (positions given.b.now) in
    let row = beside_at given.n (counts_in (get_or given.a.now c.loop-x.x-index 0)) in
    let seen = positions (take j given.b.now) in
    rw (
      c.push.ensures.items,
      positions-more c.loop-y.out.items c.beside.result,
      c.beside.ensures,
      c.loop-y.invariant,
      positions-next given.b.now j c.loop-y-test.true,
      map-append row seen (counts_in (get_or given.b.now j 0) ∷ []),
    )
    (append_assoc rows (map row seen) (row (counts_in (get_or given.b.now j 0)) ∷ []))

pub loop-x-preserved : goal.loop-x-preserved
loop-x-preserved g c =
    let given = c.args in
    let i = c.loop-x.x-index in
    let all : c.loop-y.y-index ≡ length given.b.now = omega arith in
    rw (
      positions-next given.a.now i c.loop-x-test.true,
      all_more given.n (positions (take i given.a.now)) (positions given.b.now)
          (counts_in (get_or given.a.now i 0)),
    )
    (rw (all, take-length given.b.now) at c.loop-y.invariant)

pub returns : goal.returns
returns g c =
    let given = c.args in
    let all : c.loop-x.x-index ≡ length given.a.now = omega arith in
    let held = rw (all, take-length given.a.now) at c.loop-x.invariant in
    holds_fits _ (omega (
      arith,
      sym (positions-length c.loop-x.out.items) ∙ ap length held ∙ pairs-number given.n given.a.now given.b.now,
      c.if-room-a.false,
    )) held
