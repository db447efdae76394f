-- `misnumbered`: no record of the kind, or a state that does not bear its place among the states, which are filtered from the records and
-- counted off. Assumes nothing.
use mathlib.Core.Path.{◌≡◌, refl, ap, ◌∙◌}
use mathlib.Core.Bool.{Bool, true, false, not, ◌||◌, true≢false, false≢true}
use mathlib.Core.List.{List}
use Prim.Native.Nat.{ℕ}
use borrow.Author.Rules.{rules}
use borrow.Author.Tests.{tests}
use lib.ListN.{length}
use lib.Dec.{eqb}
use Rattle.std.specs.List.{list_all, list_any, enumerate_from}
use Rattle.std.proofs.lemmas.Iterator.{YieldsList-from_slice, YieldsList-from_map_by}
use Rattle.std.proofs.lemmas.Iterator.Consumers.{YieldsList-at, YieldsList-from_filter, YieldsList-from_enumerate}
use Rattle.std.proofs.lemmas.Iterator.Search.{all_from_yields_List, any_from_yields_List}
use Rattle.meaning.specs.Lists.{each}
use Rattle.meaning.specs.Records.{Record, records_of, of_kind, at}
use Rattle.meaning.specs.Checks.{misnumbered}
use Rattle.table.specs.Packed.{record_in, of_bytes}
use Rattle.table.proofs.Chains.{kind-filtered, any_of_kind, numbered-all}
use Rattle.table.proofs.checks.misnumbered.Goals as goal

-- no record of the kind, and so no state
none : (b : Bool) (ss : List Record) → b ≡ not (eqb (length ss) 0) → b ≡ false → not b ≡ misnumbered ss
unfolding misnumbered
none true ss e n = absurd (true≢false n)
none false ss e n = go (eqb (length ss) 0) e
  where
    go : (z : Bool) → false ≡ not z → true ≡ (z || not (each (length ss) (λ i. eqb (at ss i).from i)))
    go true q = refl
    go false q = absurd (false≢true q)

some-states : (b : Bool) (ss : List Record) → b ≡ not (eqb (length ss) 0) → b ≡ true
    → not (each (length ss) (λ i. eqb (at ss i).from i)) ≡ misnumbered ss
unfolding misnumbered
some-states false ss e n = absurd (false≢true n)
some-states true ss e n = go (eqb (length ss) 0) e
  where
    go : (z : Bool) → true ≡ not z
        → not (each (length ss) (λ i. eqb (at ss i).from i)) ≡ (z || not (each (length ss) (λ i. eqb (at ss i).from i)))
    go true q = absurd (true≢false q)
    go false q = refl

pub returns-then-not-some : goal.returns-then-not-some
returns-then-not-some c =
    let chunks = c.records-records.result.now in
    let rs = records_of c.args.bytes.now in
    let found : c.any-some.result ≡ list_any (λ bytes. eqb (of_bytes bytes).kind c.args.kind) chunks
    = any_from_yields_List _ _ _ _ c.any-some.ensures.ran (YieldsList-from_slice chunks cc) (λ x b q k. search (rules, tests)) in
    none c.any-some.result (of_kind c.args.kind rs) (found ∙ any_of_kind c.args.kind chunks rs c.records-records.ensures) c.if-not-some.true

pub returns-else-not-some : goal.returns-else-not-some
returns-else-not-some c =
    let kind = c.args.kind in
    let chunks = c.records-records.result.now in
    let rs = records_of c.args.bytes.now in
    let of_this = λ (r : Record). eqb r.kind kind in
    let test : ℕ × Record → Bool = λ p. eqb p.1.from p.0 in
    let states = of_kind kind rs in
    let found : c.any-some.result ≡ list_any (λ bytes. eqb (of_bytes bytes).kind kind) chunks
    = any_from_yields_List _ _ _ _ c.any-some.ensures.ran (YieldsList-from_slice chunks cc) (λ x b q k. search (rules, tests)) in
    ap not
    (all_from_yields_List test _ _ _ c.all.ensures.ran
    (YieldsList-from_enumerate
    (YieldsList-at c.enumerate-states.ensures.source
    (YieldsList-from_filter _ of_this
    (YieldsList-at c.filter.ensures.source
    (YieldsList-from_map_by _ record_in of_bytes (YieldsList-from_slice chunks cc) c.map.ensures.closure
    (λ x r q k. search (rules, tests))))
    c.filter.ensures.closure
    (λ x b q k. search (rules, tests))))
    c.enumerate-states.ensures.count)
    (λ x b q k. search (rules, tests))
    ∙ ap (λ (l : List Record). list_all test (enumerate_from 0 l)) (kind-filtered kind chunks rs c.records-records.ensures)
    ∙ numbered-all states)
    ∙ some-states c.any-some.result states (found ∙ any_of_kind kind chunks rs c.records-records.ensures) c.if-not-some.false
