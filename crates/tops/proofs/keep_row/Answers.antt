-- `keep_row`: the scan goes over the kept ones, the last first. If one is above the candidate, a kept one covers it; if the scan ends, none
-- does, and the candidate is new. At the end all candidates are seen. Assumes nothing.
use mathlib.Core.Path.{◌≡◌, refl, sym, ◌∙◌}
use mathlib.Core.Bool.{true, false}
use mathlib.Core.List.Memᴰ
use mathlib.Core.List.{List, [], ◌∷◌, map, map-append, reverse}
use Prim.Native.Nat.{ℕ, ◌+◌, ◌<◌}
use native.Mathlib.Omega.{arith}
use denote.Ref.{Bor}
use lib.ListN.{length, get_or, drop}
use lib.Seq.{take-length}
use Rattle.std.proofs.lemmas.Iterator.Adapters.{YieldsList-from_rev_slice}
use Rattle.std.proofs.lemmas.Iterator.Consumers.{YieldsList-turn, YieldsList-end}
use Rattle.meaning.specs.Counting.{Position, below, covered}
use Rattle.meaning.proofs.Lists.{any_of, member-at}
use Rattle.counts.specs.Words.{counts_in}
use Rattle.counts.proofs.Compared.{at-most_words}
use Rattle.lists.specs.Members.{positions}
use Rattle.lists.proofs.Members.{positions-next, positions-more, positions-split}
use Rattle.lists.proofs.OneMore.{none_more}
use Rattle.tops.proofs.Positions.{covered_reverse}
use Rattle.tops.proofs.Collect.{collects_none, collects_whole, collects_pass, collects_put, collects_full}
use Rattle.tops.proofs.keep_row.Goals as goal

-- one of the kept ones, the last first, is above the candidate
covered_above : (out : List ℕ) (F : Position) (i w : ℕ) → (i < length (reverse out)) × (w ≡ get_or (reverse out) i w)
    → below F (counts_in w) ≡ true → covered (positions out) F ≡ true
unfolding positions
covered_above out F i w at above =
    sym (covered_reverse out F)
    ∙ any_of (below F) (map counts_in (reverse out)) (counts_in w)
    (Memᴰ.map counts_in (rw (← at.1) at (member-at (reverse out) i w at.0))) above

-- all were looked at, and none is above
scanned : (out seen : List ℕ) (F : Position) → seen ≡ reverse out → covered (positions seen) F ≡ false → covered (positions out) F ≡ false
scanned out seen F e none = sym (covered_reverse out F) ∙ rw e at none

pub candidates-init : goal.candidates-init
unfolding positions
candidates-init g c = collects_none c.args.out.now.items c.requires.0

pub loop-kept-init : goal.loop-kept-init
unfolding positions
loop-kept-init g c = refl

pub candidates-preserved-then-at_most : goal.candidates-preserved-then-at_most
candidates-preserved-then-at_most g c =
    let all = c.args.row.now in
    let i = c.candidates.p-index in
    let p = get_or all i 0 in
    let out = c.candidates.out.items in
    let told = at-most_words p c.in-Some.kept.now c.at_most.ensures c.compare.ensures in
    let turn = YieldsList-turn (YieldsList-from_rev_slice out cc) c.loop-kept.yielded _ c.loop-kept.yielded_by _ _ c.in-Some.kept
    c.in-Some.is c.next.ensures.steps in
    rw (positions-next all i c.candidates-test.true)
    (collects_pass c.candidates.invariant (counts_in p)
    (covered_above out (counts_in p) (length c.loop-kept.yielded) c.in-Some.kept.now turn (sym told ∙ c.if-at_most.true)))

pub loop-kept-preserved : goal.loop-kept-preserved
loop-kept-preserved g c =
    let p = get_or c.args.row.now c.candidates.p-index 0 in
    let told = at-most_words p c.in-Some.kept.now c.at_most.ensures c.compare.ensures in
    let seen = map (λ (y : Bor ℕ). y.now) c.loop-kept.yielded in
    rw (map-append (λ (y : Bor ℕ). y.now) c.loop-kept.yielded (c.in-Some.kept ∷ []), positions-more seen c.in-Some.kept.now)
    (none_more (below (counts_in p)) (positions seen) (counts_in c.in-Some.kept.now) c.loop-kept.invariant
    (sym told ∙ c.if-at_most.false))

pub returns-then-len-room : goal.returns-then-len-room
returns-then-len-room g c =
    let all = c.args.row.now in
    let i = c.candidates.p-index in
    let p = get_or all i 0 in
    let out = c.candidates.out.items in
    let end = YieldsList-end (YieldsList-from_rev_slice out cc) c.loop-kept.yielded _ c.loop-kept.yielded_by _ _ c.in-None.is
    c.next.ensures.steps in
    rw (positions-split all i c.candidates-test.true)
    (collects_full c.candidates.invariant (counts_in p)
    (scanned out (map (λ (y : Bor ℕ). y.now) c.loop-kept.yielded) (counts_in p) end.0 c.loop-kept.invariant)
    (positions (drop (i + 1) all)) (omega arith))

pub candidates-preserved : goal.candidates-preserved
candidates-preserved g c =
    let all = c.args.row.now in
    let i = c.candidates.p-index in
    let p = get_or all i 0 in
    let out = c.candidates.out.items in
    let end = YieldsList-end (YieldsList-from_rev_slice out cc) c.loop-kept.yielded _ c.loop-kept.yielded_by _ _ c.in-None.is
    c.next.ensures.steps in
    rw (positions-next all i c.candidates-test.true, c.push.ensures.items)
    (collects_put c.candidates.invariant (counts_in p)
    (scanned out (map (λ (y : Bor ℕ). y.now) c.loop-kept.yielded) (counts_in p) end.0 c.loop-kept.invariant)
    c.climb_pairs.result c.climb_pairs.ensures (omega arith))

pub returns : goal.returns
returns g c =
    let at = c.before in
    let all = at.args.row.now in
    let e : at.candidates.p-index ≡ length all = omega arith in
    rw (e, take-length all) at (collects_whole at.candidates.invariant)
