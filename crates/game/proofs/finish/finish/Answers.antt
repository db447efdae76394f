-- `finish`: each return is one case of the definition. A buffer is written only once there is a winner, and the controller's only if the
-- start position wins. Assumes nothing.
use native.Mathlib.Omega.{arith}
use Rattle.meaning.specs.Counting.{start_position}
use Rattle.counts.specs.Halves.{start_counts}
use Rattle.table.specs.Packed.{table_in}
use Rattle.lists.specs.Members.{positions}
use Rattle.lists.proofs.Members.{positions-length}
use Rattle.writing.proofs.Chains.{some-within}
use Rattle.game.proofs.Finished.{finished_nothing, finished-without, finished_with}
use Rattle.game.proofs.finish.finish.Goals as goal

pub returns-then-is_empty : goal.returns-then-is_empty
returns-then-is_empty c =
    let given = c.args in
    finished_nothing given.k (table_in given.table) (positions given.list.now) given.rounds given.winners.now given.controller.now
    _ (positions-length given.list.now) c.if-is_empty.ensures c.at.ensures

pub write_winners-requires : goal.write_winners-requires
write_winners-requires c = omega (arith, c.requires.1.winners, positions-length c.args.list.now)

pub write_rows-requires : goal.write_rows-requires
write_rows-requires c = (
  (some-within _ _ c.in-Some.ensures).0,
  c.requires.0,
  omega (arith, c.requires.1.controller, positions-length c.args.list.now),
)

pub returns-in-Some : goal.returns-in-Some
unfolding table_in start_position start_counts
returns-in-Some c =
    let given = c.args in
    finished_with given.k (table_in given.table) (positions given.list.now) given.rounds given.winners.now given.controller.now
    _ (positions-length given.list.now) c.if-is_empty.ensures c.requires.0.bounded _ c.start-begins.ensures
    c.write_winners.new.winners c.write_winners.ensures c.in-Some.ensures c.write_rows.new.controller c.write_rows.ensures

pub returns-in-None : goal.returns-in-None
unfolding table_in start_position start_counts
returns-in-None c =
    let given = c.args in
    finished-without given.k (table_in given.table) (positions given.list.now) given.rounds given.winners.now given.controller.now
    _ (positions-length given.list.now) c.if-is_empty.ensures c.requires.0.bounded _ c.start-begins.ensures
    c.write_winners.new.winners c.write_winners.ensures c.in-None.ensures
