-- `keeps` makes the words of the table's steps and of its start position, and leaves the rest to `settles`. A start position that is not
-- safe is one visit too many already. Assumes nothing.
use mathlib.Core.Path.{◌≡◌, sym, ◌∙◌}
use mathlib.Core.Bool.{true, true≢false}
use mathlib.Core.List.{List}
use Prim.Native.Nat.{ℕ}
use Rattle.meaning.specs.Counting.{safe, start_position}
use Rattle.meaning.specs.Written.{position_bytes}
use Rattle.meaning.specs.Play.{Realizes, rows_in}
use Rattle.meaning.proofs.Tests.{clash}
use Rattle.meaning.proofs.Realizes.{start-length, realizes_safe}
use Rattle.meaning.proofs.Followed.{following}
use Rattle.counts.specs.Halves.{start_counts}
use Rattle.counts.specs.Words.{counts_in}
use Rattle.table.specs.declared.Table.{Table}
use Rattle.table.specs.Packed.{table_in}
use Rattle.checker.specs.Begun.{Begun}
use Rattle.checker.specs.Followable.{Followable}
use Rattle.checker.proofs.Counts.{safe_wide}
use Rattle.checker.proofs.keep.keeps.Goals as goal
use Rattle.checker.proofs.keep.keeps.Goals.{After-new}

module _ (K : ℕ) (table : Table) (begins : ℕ)
    (started : counts_in begins ≡ position_bytes (start_counts K table.controllers table.starts table.controller_marks)) where
  -- the start position, in eight counts
  begun : counts_in begins ≡ position_bytes (start_position K (table_in table))
  unfolding table_in start_position start_counts
  begun = started

  -- it is safe where following the rows keeps every run to K: a run visits its first state too
  begun-safe : {rows : List ℕ} → Followable K (table_in table) rows → Realizes K (table_in table) (following (rows_in rows))
      → safe K (counts_in begins) ≡ true
  begun-safe f realizes =
      let t = table_in table in
      rw begun (safe_wide K (start_position K t) (rw (start-length K t) f.bounded.small.controllers) ∙ realizes_safe K t _ realizes)

-- what `settles` begins with
made : (c : After-new) → Begun (table_in c.args.table) c.new.result c.start-begins.result
made c =
    record {
      followable = rw (c.new.ensures.patience, c.new.ensures.rows) c.requires;
      steps = c.new.ensures.steps;
      starts = rw c.new.ensures.patience (begun c.args.k c.args.table c.start-begins.result c.start-begins.ensures);
      safely = rw c.new.ensures.patience (sym c.safe.ensures ∙ c.if-safe.true);
    }

pub settles-requires : goal.settles-requires
settles-requires c = (table_in c.args.table, made (goal.at.settles-requires c).After-new)

pub returns-then-safe : goal.returns-then-safe
returns-then-safe c =
    let settled = c.settles.ensures (table_in c.args.table) (made (goal.at.returns-then-safe c).After-new) in
    rw (c.new.ensures.patience, c.new.ensures.rows) at settled

pub returns-else-safe : goal.returns-else-safe
returns-else-safe c = (
  λ e. absurd (true≢false (sym e ∙ c.if-safe.false)),
  λ realizes.
      absurd (clash _ (begun-safe c.args.k c.args.table c.start-begins.result c.start-begins.ensures c.requires realizes)
      (sym c.safe.ensures ∙ c.if-safe.false)),
)
