-- `go_on` tries each row after the first with the one before it, so row i + 1 with row i for each i below the last. Assumes nothing.
use mathlib.Core.Path.{◌≡◌, refl, sym, ap, ap₂, ◌∙◌}
use mathlib.Core.Bool.{Bool}
use Prim.Native.Nat.{ℕ, suc, ◌-◌, ◌+◌, ◌/◌, ◌<◌}
use native.Mathlib.Omega.{arith}
use lib.ListN.{length, get_or}
use borrow.Author.Rules.{rules}
use borrow.Author.Tests.{tests}
use Rattle.std.specs.List.{range_with_len, list_all}
use Rattle.std.proofs.lemmas.List.FromFn.{length-range_with_len, get_or-range_with_len}
use Rattle.std.proofs.lemmas.List.Recursion.{and_at, and_from_places}
use Rattle.std.proofs.lemmas.Iterator.{YieldsList-from_range}
use Rattle.std.proofs.lemmas.Iterator.Search.{all_from_yields_List}
use Rattle.meaning.specs.Lists.{each}
use Rattle.meaning.specs.Play.{rows_in, row}
use Rattle.meaning.specs.Controller.{goes_on}
use Rattle.meaning.proofs.Tests.{each_at, each_of, same_test}
use Rattle.meaning.proofs.Formed.{rows-count}
use Rattle.rows.proofs.go_on.Goals as goal

-- a test of the numbers from 1 on, as one of the numbers before them
each-from_one : (test f : ℕ → Bool) (n : ℕ) → ((i : ℕ) → test (1 + i) ≡ f i) → list_all test (range_with_len 1 n) ≡ each n f
each-from_one test f n same =
    same_test _ _
    (λ p. each_of n f (λ i l. sym (read i l) ∙ and_at (list_all test) test refl (λ _ _. refl) (range_with_len 1 n) i 0 (inside i l) p))
    (λ p.
    and_from_places (list_all test) test refl (λ _ _. refl) (range_with_len 1 n) 0
    (λ i l. let low : i < n = omega (arith, length-range_with_len 1 n) in read i low ∙ each_at n f p i low))
  where
    inside : (i : ℕ) → i < n → i < length (range_with_len 1 n)
    inside i l = omega (arith, length-range_with_len 1 n)

    read : (i : ℕ) → i < n → test (get_or (range_with_len 1 n) i 0) ≡ f i
    read i l = ap test (get_or-range_with_len 1 n i 0 l) ∙ same i

pub returns : goal.returns
returns c =
    let bytes = c.args.rows.now in
    let rows = rows_in bytes in
    let test : ℕ → Bool = λ i. goes_on c.args.first c.args.last (row rows (i - 1)) (row rows i) in
    let later : (i : ℕ) → test (1 + i) ≡ goes_on c.args.first c.args.last (row rows i) (row rows (suc i)) =
    λ i. ap₂ (λ (j k : ℕ). goes_on c.args.first c.args.last (row rows j) (row rows k)) (omega arith) (omega arith) in
    all_from_yields_List test _ _ c.all.result c.all.ensures.ran
    (YieldsList-from_range 1 (length bytes / 4) (length rows - 1) (cc) (omega (arith, rows-count bytes))) (λ x b q k. search (rules, tests))
    ∙ each-from_one test _ (length rows - 1) later
