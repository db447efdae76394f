-- `last`: what is read back of the joined bytes is the joined table, and the list of pairs is a first list of it, which covers them. So
-- the stage from that list is the last. Assumes nothing.
use mathlib.Core.Path.{◌≡◌, ap, ◌∙◌}
use mathlib.Core.List.{List}
use Prim.Native.Nat.{ℕ}
use lib.ListN.{length, take}
use lib.Seq.{take-append_seam}
use Rattle.meaning.specs.Lists.{written}
use Rattle.meaning.specs.Records.{records_of}
use Rattle.meaning.specs.Table.{table_of}
use Rattle.meaning.specs.Checks.{Passes, pair_checks}
use Rattle.meaning.specs.Join.{joined_table, joined_bytes}
use Rattle.table.specs.Packed.{table_in, packed}
use Rattle.lists.specs.Members.{positions}
use Rattle.joined.proofs.Paired.{read-passes}
use Rattle.join.proofs.Stages.{joined-read, pairs-covered, pairs_list, joined_fit}
use Rattle.join.proofs.stage.last.Goals as goal
use Rattle.join.proofs.stage.last.Goals.{After-read-table}

-- the bytes that were written
bytes-made : (new old out : List ℕ) (size : ℕ) → size ≡ length new → out ≡ written new old → take size out ≡ new
bytes-made new old out size e f = rw (e, f) (take-append_seam _ _)

module _ (c : After-read-table) where
  abbrev one : List ℕ
  one = c.args.first.now

  abbrev two : List ℕ
  two = c.args.second.now

  passes : Passes (pair_checks one two)
  passes = read-passes one two c.requires.pass.2

  -- what is read of them is the joined table
  both : table_in c.read-table.result ≡ joined_table one two
  both =
      joined-read one two passes c.read-table.result
      (c.read-table.ensures
      ∙ ap (λ (l : List ℕ). packed (table_of (records_of l)))
      (bytes-made (joined_bytes one two) _ c.write-size.new.out _ c.write-size.ensures.size c.write-size.ensures.bytes))

pub stage-requires-clause-bounds : goal.stage-requires-clause-bounds
stage-requires-clause-bounds c =
    let at = (goal.at.stage-requires-clause-bounds c).After-read-table in
    rw (both at) (c.requires.pass.0, c.requires.pass.1, joined_fit (one at) (two at) (passes at))

pub stage-requires-clause-list : goal.stage-requires-clause-list
stage-requires-clause-list c =
    let at = (goal.at.stage-requires-clause-list c).After-read-table in
    rw (both at) (pairs_list (one at) (two at) (passes at) c.args.k (positions c.args.list.now) c.requires.pairs)

pub returns : goal.returns
returns c =
    let at = (goal.at.returns c).After-read-table in
    rw (both at, pairs-covered (one at) (two at) (passes at) c.args.k (positions c.args.list.now) c.requires.pairs) at c.stage.ensures
