-- `arriving`: the goals that are left to lemmas. What a turn adds is the larger of what came before and of what p brings. Assumes nothing.
use mathlib.Core.Path.{◌≡◌, ◌∙◌}
use native.Mathlib.Omega.{arith}
use borrow.Author.Rules.{rules}
use lib.ListN.{get_or, length}
use Rattle.std.proofs.lemmas.Grind.{common_steps}
use Rattle.meaning.specs.Counting.{count, plus}
use Rattle.meaning.proofs.Signed.{plus_signed_lem}
use Rattle.counts.specs.Halves.{brought}
use Rattle.counts.specs.Words.{counts_in}
use Rattle.counts.proofs.Signed.{from_bits, greater_counted}
use Rattle.counts.proofs.Edges.{bit_beyond, mask_beyond, within, largest-next, largest-within}
use Rattle.counts.proofs.position.arriving.Goals as goal
use Rattle.counts.proofs.position.arriving.Goals.{then-p-half+then-has, else-p-half}

pub returns-then-q-ge8 : goal.returns-then-q-ge8
returns-then-q-ge8 c =
    let given = c.args in
    largest-within 0 given.half.sources (brought given.k given.half (counts_in given.m) given.q)
    (λ p _. rw (bit_beyond (get_or given.half.masks p 0) given.q c.if-q-ge8.true))

pub loop-p-preserved : goal.loop-p-preserved
loop-p-preserved c =
    let p = c.loop-p.p in
    let given = c.args in
    let sum = plus given.k (get_or given.half.marks given.q 0) (count (counts_in given.m) p) in
    let next = largest-next (within given.half.sources 0 (brought given.k given.half (counts_in given.m) given.q)) p in
    elim c.if-p-half.branch [
      | then-p-half+then-has w ↦ grind (arith, common_steps, from_bits, plus_signed_lem, greater_counted, next sum)
      | else-p-half w ↦ grind (arith, common_steps, next 0)
    ]

pub returns : goal.returns
returns c =
    let half = c.args.half in
    let whole : c.loop-p.p ≡ 8 = omega arith in
    let eight : length half.masks ≡ 8 = search rules in
    (rw whole at c.loop-p.invariant)
    ∙ largest-within 8 half.sources (brought c.args.k half (counts_in c.args.m) c.args.q)
    (λ p l. rw (mask_beyond half.masks p c.args.q eight l))
