-- `has_any`: the library says what `any` gives over the list of the numbers below n, where the closure is the test of one bit; and that
-- list has a number of which a test holds exactly if the test holds of some number below n (`any-range`), by induction on n from the front.
-- Assumes nothing.
use mathlib.Core.Path.{◌≡◌, refl, sym, ap, ap₂, ◌∙◌}
use mathlib.Core.Bool.{Bool, ◌||◌, or-false, or_assoc}
use Prim.Native.Nat.{ℕ, zero, suc, ◌+◌, ◌<◌}
use native.Mathlib.Omega.{arith}
use borrow.Author.Rules.{rules}
use borrow.Author.Tests.{tests}
use Rattle.std.specs.List.{list_any, range_with_len}
use Rattle.std.proofs.lemmas.Iterator.{YieldsList-from_range}
use Rattle.std.proofs.lemmas.Iterator.Search.{any_from_yields_List}
use Rattle.meaning.specs.Lists.{some}
use Rattle.meaning.specs.Table.{bit}
use Rattle.masks.proofs.has_any.Goals as goal

-- the first number apart from the others
some-front : (n : ℕ) (f : ℕ → Bool) → some (suc n) f ≡ (f zero || some n (λ i. f (suc i)))
some-front zero f = sym (or-false (f zero))
some-front (suc n) f = ap (λ b. b || f (suc n)) (some-front n f) ∙ or_assoc (f zero) (some n (λ i. f (suc i))) (f (suc n))

any-range : (a n : ℕ) (f g : ℕ → Bool) → ((i : ℕ) → i < n → f (a + i) ≡ g i) → list_any f (range_with_len a n) ≡ some n g
any-range a zero f g e = refl
any-range a (suc n) f g e =
    ap₂ ◌||◌ (ap f (omega arith) ∙ e 0 (omega arith))
    (any-range (a + 1) n f (λ i. g (suc i)) (λ i l. ap f (omega arith) ∙ e (suc i) (omega arith)))
    ∙ sym (some-front n g)

pub returns : goal.returns
returns c =
    let n = c.args.n in
    any_from_yields_List (bit c.args.mask) _ _ _ c.any.ensures.ran (YieldsList-from_range 0 n n refl (omega arith))
    (λ x b q k. search (rules, tests))
    ∙ any-range 0 n (bit c.args.mask) (bit c.args.mask) (λ i _. ap (bit c.args.mask) (omega arith))
