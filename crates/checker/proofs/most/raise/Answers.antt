-- `raise`: nothing changes where the state's counts cover the position, and else the greater counts are set. Assumes nothing.
use mathlib.Core.Path.{◌≡◌, sym, ap, ◌∙◌}
use Prim.Native.Nat.{max}
use lib.ListN.{length, get_or}
use Rattle.meaning.specs.Counting.{Position, count, below}
use Rattle.counts.specs.Words.{counts_in}
use Rattle.counts.proofs.Lesser.{greater-at}
use Rattle.counts.proofs.Bytes.{counts_in-length}
use Rattle.counts.proofs.Compared.{at-most_words, as_long}
use Rattle.checker.proofs.Counts.{counts-read}
use Rattle.checker.proofs.Raising.{covered_already, raised_over}
use Rattle.checker.proofs.most.raise.Goals as goal

pub returns-then-at_most : goal.returns-then-at_most
returns-then-at_most c K safely =
    let most = c.args.most.now in
    let F = counts_in c.args.m in
    let told = at-most_words _ (get_or most c.args.s 0) c.at_most.ensures c.compare.ensures in
    covered_already K c.args.s F most c.args.risen.now
    (ap (below F) (sym (counts-read most c.args.s)) ∙ sym told ∙ c.if-at_most.true)

pub returns : goal.returns
returns c K safely =
    let most = c.args.most.now in
    let s = c.args.s in
    let held = counts_in (get_or most s 0) in
    let F = counts_in c.args.m in
    let told = at-most_words _ (get_or most c.args.s 0) c.at_most.ensures c.compare.ensures in
    let read = counts-read most s in
    let eight : length held ≡ length F = as_long (get_or most s 0) c.args.m in
    raised_over K s F most c.args.risen.now c.greater.result c.requires.0 c.requires.1
    (counts_in-length c.args.m) safely (ap (below F) (sym read) ∙ sym told ∙ c.if-at_most.false)
    (λ q. ap (λ (G : Position). count G q) c.greater.ensures ∙ greater-at held F eight q
    ∙ ap (λ (G : Position). max (count G q) (count F q)) read)
