-- `pairs`: the steps are those of the definition: the covered ones of the one list, what those of the other add, and what the rows of the
-- rest add. Where one of them finds no room there is none at the end, since each step only adds. Assumes nothing.
use Rattle.std.proofs.Common.{rules}
use mathlib.Core.Path.{◌≡◌, refl, ap, ◌∙◌}
use mathlib.Core.List.{List, []}
use Prim.Native.Nat.{ℕ}
use native.Mathlib.Omega.{arith}
use lib.ListN.{length}
use Rattle.std.specs.Prelude.{Result}
use Rattle.meaning.specs.Lists.{keep}
use Rattle.meaning.specs.Counting.{Position, covered}
use Rattle.lists.specs.Members.{positions}
use Rattle.lists.proofs.Members.{positions-length}
use Rattle.tops.specs.declared.Full.{Full}
use Rattle.tops.specs.Tops.{meets}
use Rattle.tops.specs.Held.{Holds}
use Rattle.tops.specs.Candidates.{collected, uncovered, paired}
use Rattle.tops.proofs.Positions.{keep-length}
use Rattle.tops.proofs.Meets.{meets_none}
use Rattle.tops.proofs.Held.{holds-full, full-held, fits-held}
use Rattle.tops.proofs.Collect.{collected_grows, rows_grow}
use Rattle.tops.proofs.pairs.Goals as goal

-- where the pairs that are in a list are kept: those of the one list that the other covers, and what those of the other add
whole-kept : (A E : List Position) {room : ℕ} {kept fits : List Position} {out : List ℕ} {found : Result (Unit {0}) Full}
    → kept ≡ keep (covered E) A → fits ≡ keep (covered A) E
    → Holds room (collected (meets (positions []) (positions [])) kept fits) out found
    → Holds room (collected [] (keep (covered E) A) (keep (covered A) E)) out found
whole-kept A E e d h = rw (meets_none, e, d) at h

pub returns-then-room-len : goal.returns-then-room-len
unfolding paired
returns-then-room-len g c =
    let A = positions c.args.set.now in
    let E = positions c.args.backs.now in
    holds-full _ refl
    (omega (
      arith,
      c.len.ensures.value,
      rows_grow (keep (uncovered E) A) (keep (uncovered A) E) (collected [] (keep (covered E) A) (keep (covered A) E)),
      collected_grows [] (keep (covered E) A) (keep (covered A) E),
      ap length {y = keep (covered E) A} c.part.ensures.taken,
      positions-length c.part.new.taken.items,
    ))

pub returns-in_err-keep_row : goal.returns-in_err-keep_row
unfolding paired
returns-in_err-keep_row g c =
    let A = positions c.args.set.now in
    let E = positions c.args.backs.now in
    let kept = ap positions c.deref.ensures.0 ∙ c.part-2.ensures.taken in
    holds-full _ c.from_residual.ensures.0
    (omega (
      arith,
      full-held (whole-kept A E c.part.ensures.taken kept c.in_err-keep_row.ensures) refl,
      rows_grow (keep (uncovered E) A) (keep (uncovered A) E) (collected [] (keep (covered E) A) (keep (covered A) E)),
    ))

pub keep_rows-requires : goal.keep_rows-requires
keep_rows-requires g c =
    let A = positions c.args.set.now in
    let E = positions c.args.backs.now in
    let ys = c.deref-3.result.now in
    let kept = ap positions c.deref.ensures.0 ∙ c.part-2.ensures.taken in (
      search rules,
      (
        omega (
          arith,
          c.requires,
          positions-length ys,
          ap length (ap positions c.deref-3.ensures.0 ∙ c.part-2.ensures.rest),
          keep-length (uncovered A) E,
          positions-length c.args.backs.now,
        ),
        (fits-held (whole-kept A E c.part.ensures.taken kept c.in_ok-keep_row.ensures) refl).0,
        c.requires.2,
      ),
    )

pub returns : goal.returns
unfolding paired
returns g c =
    let A = positions c.args.set.now in
    let E = positions c.args.backs.now in
    let kept = ap positions c.deref.ensures.0 ∙ c.part-2.ensures.taken in
    let held = fits-held (whole-kept A E c.part.ensures.taken kept c.in_ok-keep_row.ensures) refl in
    rw (
      ap positions c.deref-2.ensures.0 ∙ c.part.ensures.rest,
      ap positions c.deref-3.ensures.0 ∙ c.part-2.ensures.rest,
      held.1,
    ) at c.keep_rows.ensures
