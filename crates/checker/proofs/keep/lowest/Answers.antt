-- `lowest`: the fold takes the smaller of what it has and of each next state in turn, and so comes to the smallest. Assumes nothing.
use mathlib.Core.Path.{◌≡◌, refl, ap, ◌∙◌}
use mathlib.Core.List.{map}
use Prim.Native.Nat.{ℕ, zero, suc, ◌+◌, min}
use native.Mathlib.Omega.{arith}
use borrow.Author.Rules.{rules}
use borrow.Author.Tests.{tests}
use Rattle.std.specs.List.{fold, range_with_len}
use Rattle.std.proofs.lemmas.Iterator.{YieldsList-from_range, YieldsList-from_map}
use Rattle.std.proofs.lemmas.Iterator.Consumers.{fold_from_yields_List}
use Rattle.meaning.specs.Lists.{smallest}
use Rattle.meaning.specs.Play.{rows_in, row_next}
use Rattle.meaning.specs.Controller.{inputs_in}
use Rattle.meaning.proofs.Tests.{smallest-same}
use Rattle.checker.proofs.keep.lowest.Goals as goal

-- the first of the numbers may be taken first
smallest-first : (top n : ℕ) (f : ℕ → ℕ) → smallest (min top (f 0)) n (λ i. f (suc i)) ≡ smallest top (suc n) f
smallest-first top zero f = refl
smallest-first top (suc n) f = ap (λ (m : ℕ). min m (f (suc n))) (smallest-first top n f)

fold-smallest : (f : ℕ → ℕ) (top n a : ℕ) → fold (λ x y. min x y) top (map f (range_with_len a n)) ≡ smallest top n (λ i. f (i + a))
fold-smallest f top zero a = refl
fold-smallest f top (suc n) a =
    fold-smallest f (min top (f a)) n (a + 1)
    ∙ smallest-same _ n _ _ (λ i _. ap f (omega arith))
    ∙ ap (λ (m : ℕ). smallest (min top (f m)) n (λ i. f (suc i + a))) (omega arith)
    ∙ smallest-first top n (λ i. f (i + a))

pub returns : goal.returns
returns c =
    let rows = rows_in c.args.play.now.controller in
    let next : ℕ → ℕ = λ i. row_next rows c.args.s i in
    fold_from_yields_List _ (λ x y. min x y) _ c.fold.result c.fold.ensures.ran
    (YieldsList-from_map _ next (YieldsList-from_range 0 (inputs_in rows) (inputs_in rows) (cc) (omega arith)) c.map.ensures.closure
    (λ x r q k. search (rules, tests)))
    (λ x y z q k. search (rules, tests))
    ∙ fold-smallest next (c.args.s + 1) (inputs_in rows) 0
    ∙ smallest-same _ (inputs_in rows) _ _ (λ i _. ap next (omega arith))
