-- `keep_rows`: a row is the first of those that are left, and the rows after it are what its candidates may climb to. Where a row finds no
-- room there is none at the end, since what the rows come to grows. Assumes nothing.
use mathlib.Core.Path.{◌≡◌, refl, sym, ap, ◌∙◌}
use mathlib.Core.List.{List, [], ◌∷◌, map, reverse}
use Prim.Native.Nat.{ℕ, ◌+◌, ◌<◌, ◌-◌}
use native.Mathlib.Omega.{arith}
use Rattle.std.proofs.Common.{rules}
use borrow.Author.Tests.{tests}
use lib.ListN.{length, get_or, take, drop}
use lib.Seq.{drop-length}
use Rattle.std.proofs.lemmas.List.{take_rest}
use Rattle.meaning.specs.Counting.{Position}
use Rattle.counts.specs.Halves.{lesser_counts}
use Rattle.counts.specs.Words.{counts_in}
use Rattle.lists.specs.Members.{positions}
use Rattle.lists.proofs.Members.{positions-from}
use Rattle.tops.specs.Tops.{meets, thinned}
use Rattle.tops.specs.Candidates.{collected, rows_of}
use Rattle.tops.proofs.Held.{holds-full, holds_fits, full-held, fits-held}
use Rattle.tops.proofs.Collect.{rows_grow}
use Rattle.tops.proofs.keep_rows.Goals as goal

-- where row i is kept, what is collected with it: it is paired with the others, and may climb to the pairs of the rows after it
abbrev with_row : List ℕ → ℕ → List Position → List Position → List Position → List Position
with_row xs i ys kept row = collected (meets (positions (take (length xs - (i + 1)) (drop (i + 1) xs))) ys) kept row

-- the rows after it come from that to what they came to from row i on
stepped : (xs : List ℕ) (i : ℕ) → i < length xs → (ys kept row whole : List Position)
    → row ≡ thinned (reverse (map (lesser_counts (counts_in (get_or xs i 0))) ys)) → rows_of (positions (drop i xs)) ys kept ≡ whole
    → rows_of (positions (drop (i + 1) xs)) ys (with_row xs i ys kept row) ≡ whole
unfolding rows_of
stepped xs i h ys kept row whole e all =
    rw (take_rest xs (i + 1), e) (ap (λ (l : List Position). rows_of l ys kept) (sym (positions-from xs i h)) ∙ all)

-- no row, and nothing is kept beside what was
no-rows : (xs : List ℕ) → length xs ≡ 0 → (ys kept : List Position) → kept ≡ rows_of (positions xs) ys kept
unfolding rows_of positions
no-rows [] e ys kept = refl
no-rows (x ∷ xs) e ys kept = absurd (omega (arith, e))

pub returns-then-is_empty : goal.returns-then-is_empty
returns-then-is_empty g c =
    let given = c.args in
    let none : length given.xs.now ≡ 0 = search (rules, tests) in
    holds_fits given.out.now.items c.requires.1
    (no-rows given.xs.now none (positions given.ys.now) (positions given.out.now.items))

pub loop-i-init : goal.loop-i-init
loop-i-init g c = (c.requires.1, refl)

pub returns-in_err-keep_row : goal.returns-in_err-keep_row
returns-in_err-keep_row g c =
    let xs = c.args.xs.now in
    let i = c.loop-i.i in
    let ys = positions c.args.ys.now in
    let kept = positions c.loop-i.out.items in
    let row = positions c.deref.result.now in
    let e = ap positions c.deref.ensures.0 ∙ c.row.ensures in
    holds-full _ c.from_residual.ensures.0
    (omega (
      arith,
      full-held {l = with_row xs i ys kept row} c.in_err-keep_row.ensures refl,
      rows_grow (positions (drop (i + 1) xs)) ys (with_row xs i ys kept row),
      ap length (stepped xs i c.loop-i-test.true ys kept row _ e c.loop-i.invariant.1),
    ))

pub loop-i-preserved : goal.loop-i-preserved
loop-i-preserved g c =
    let xs = c.args.xs.now in
    let i = c.loop-i.i in
    let ys = positions c.args.ys.now in
    let kept = positions c.loop-i.out.items in
    let row = positions c.deref.result.now in
    let e = ap positions c.deref.ensures.0 ∙ c.row.ensures in
    let held = fits-held {l = with_row xs i ys kept row} c.in_ok-keep_row.ensures refl in
    (held.0, rw held.1 (stepped xs i c.loop-i-test.true ys kept row _ e c.loop-i.invariant.1))

pub returns : goal.returns
unfolding rows_of positions
returns g c =
    let at = c.before in
    let e : at.loop-i.i ≡ length at.args.xs.now = omega arith in
    holds_fits at.loop-i.out.items at.loop-i.invariant.0 (rw (e, drop-length at.args.xs.now) at at.loop-i.invariant.1)
