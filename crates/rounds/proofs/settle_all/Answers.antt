-- `settle_all`: the list of the brim alone covers all safe positions, so the rounds settle from these. Assumes nothing.
use Rattle.std.proofs.Common.{rules}
use mathlib.Core.Path.{◌≡◌, ap, ◌∙◌}
use mathlib.Core.List.{[], ◌∷◌}
use Prim.Native.Nat.{ℕ}
use native.Mathlib.Omega.{arith}
use Rattle.meaning.specs.Rounds.{all_safe}
use Rattle.meaning.specs.Counting.{Position}
use Rattle.meaning.specs.Written.{position_bytes}
use Rattle.counts.specs.Words.{counts_in}
use Rattle.table.specs.Packed.{table_in}
use Rattle.lists.specs.Members.{positions}
use Rattle.sets.specs.Engine.{brim}
use Rattle.rounds.specs.Rounds.{covered_by}
use Rattle.rounds.proofs.First.{brim-covered, brim-first}
use Rattle.rounds.proofs.settle_all.Goals as goal

-- the list is that of the brim
brim-listed : (k n p : ℕ) → counts_in p ≡ position_bytes (brim k n) → positions (p ∷ []) ≡ position_bytes (brim k n) ∷ []
unfolding positions
brim-listed k n p e = ap (λ (F : Position). F ∷ []) e

pub settle-requires : goal.settle-requires
unfolding table_in
settle-requires g c =
    let given = c.args in (
      search rules,
      (
        omega arith,
        omega arith,
        omega arith,
        rw (brim-listed given.k (table_in given.table).controllers _ c.brim.ensures)
            (brim-first given.k (table_in given.table) c.requires.3 c.requires.4),
        c.requires.5,
      ),
    )

pub returns : goal.returns
unfolding table_in
returns g c =
    let given = c.args in
    let first : covered_by (table_in given.table).controllers (positions (c.brim.result ∷ []))
    ≡ all_safe given.k (table_in given.table).controllers =
    ap (covered_by (table_in given.table).controllers) (brim-listed given.k (table_in given.table).controllers _ c.brim.ensures)
    ∙ brim-covered given.k (table_in given.table) c.requires.3 in
    rw first at c.settle.ensures
