-- `Counts::first_risen`: of the flags from `from` on the search finds the first that is up, and those before it are down. Assumes nothing.
use mathlib.Core.Path.{◌≡◌, ◌∙◌}
use mathlib.Core.Bool.{Bool, true, false}
use mathlib.Core.List.{List}
use Prim.Native.Nat.{ℕ, ◌≤◌, ◌<◌}
use native.Mathlib.Decide.{dec_lt}
use native.Mathlib.Omega.{arith}
use lib.ListN.{length}
use borrow.Author.Rules.{rules}
use borrow.Author.Tests.{tests}
use Rattle.std.specs.Option.{MatchOption}
use Rattle.std.proofs.lemmas.Iterator.{first_from_Range}
use Rattle.meaning.proofs.Searches.{place_is, place_none}
use Rattle.checker.specs.Raised.{NoneBefore, flag_at}
use Rattle.checker.proofs.most.Counts.first_risen.Goals as goal
use Rattle.checker.proofs.most.Counts.first_risen.Goals.{After-find}

-- none of the flags before a place is up, if none from `from` on is
down : (risen : List Bool) (from i : ℕ) → NoneBefore from risen → ((k : ℕ) → from ≤ k → k < i → flag_at risen k ≡ false)
    → (k : ℕ) → k < i → flag_at risen k ≡ false
down risen from i before none k l = go (dec_lt k from)
  where
    go : Dec (k < from) → flag_at risen k ≡ false
    go (yes early) = before.none k early
    go (no late) = none k (omega arith) l

-- what the search tells
found : (c : After-find) → MatchOption c.find.result ((k : ℕ) → c.args.from ≤ k → k < 256 → flag_at c.args.self.now.risen k ≡ false)
    (λ i. (c.args.from ≤ i) × (i < 256) × (flag_at c.args.self.now.risen i ≡ true)
    × ((k : ℕ) → c.args.from ≤ k → k < i → flag_at c.args.self.now.risen k ≡ false))
found c =
    first_from_Range _ _ _ c.find.result (λ k. flag_at c.args.self.now.risen k ≡ true) (λ k. flag_at c.args.self.now.risen k ≡ false)
    c.find.ensures.ran (λ x q k. search (rules, tests)) (λ x q k. search (rules, tests))

pub returns : goal.returns
returns c =
    let risen = c.args.self.now.risen in
    let f = rw c.in_ok-s.was at (found (goal.at.returns c).After-find) in
    place_is (λ b. b) risen false c.in_ok-s.s (omega (arith, f.1)) f.2 (down risen c.args.from c.in_ok-s.s c.requires f.3)

pub returns-in_err-s : goal.returns-in_err-s
returns-in_err-s c =
    let risen = c.args.self.now.risen in
    let long : length risen ≡ 256 = omega arith in
    let f = rw c.in_err-s.was at (found (goal.at.returns-in_err-s c).After-find) in
    rw c.from_residual.ensures (place_none (λ b. b) risen false (λ k l. down risen c.args.from 256 c.requires f k (omega arith)) ∙ long)
