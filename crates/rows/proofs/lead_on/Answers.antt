-- `lead_on` tries every four: its second byte is at most 7, and the state that its last byte names is marked, which says that it has rows,
-- since a byte is below 256. Assumes nothing.
use mathlib.Core.Path.{ap, ◌∙◌}
use mathlib.Core.Bool.{Bool, false, ◌&&◌}
use mathlib.Core.List.{List, []}
use Prim.Native.Nat.{ℕ}
use native.Mathlib.Omega.{arith}
use lib.Dec.{leb}
use lib.ListN.{get_or}
use borrow.Author.Rules.{rules}
use borrow.Author.Tests.{tests}
use Rattle.std.proofs.lemmas.Iterator.{YieldsList-from_slice}
use Rattle.std.proofs.lemmas.Iterator.Search.{all_from_yields_List}
use Rattle.meaning.specs.Written.{Row}
use Rattle.meaning.specs.Play.{rows_in}
use Rattle.meaning.specs.Controller.{leads_on}
use Rattle.rows.proofs.Cut.{every-four, four-at}
use Rattle.rows.proofs.Reading.{row-low}
use Rattle.rows.proofs.lead_on.Goals as goal

pub returns : goal.returns
unfolding leads_on
returns c =
    let bytes = c.args.rows.now in
    let fours = c.fours.result.now in
    let marks = c.named-named.result in
    let test : List ℕ → Bool = λ x. leb (get_or x 1 0) 7 && get_or marks (get_or x 3 0) false in
    all_from_yields_List test _ _ c.all.result c.all.ensures.ran (YieldsList-from_slice fours cc) (λ x b q k. search (rules, tests))
    ∙ every-four bytes fours c.fours.ensures (leads_on (rows_in bytes)) test
    (λ i _.
    let low = (row-low bytes (λ j. omega (arith, c.type_inv.rows j)) i).1 in
    let same = ap (λ (r : Row). r.next) (four-at bytes fours c.fours.ensures i) in
    ap (λ (b : Bool). leb (get_or (get_or fours i []) 1 0) 7 && b) (c.named-named.ensures _ (omega arith)))
