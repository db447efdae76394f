-- `Play::new`: the words that are made of the table's targets and marks state its halves of a round. Assumes nothing.
use Rattle.checker.proofs.Stated.{steps-stated}
use Rattle.checker.proofs.lead.Play.new.Goals as goal

pub returns-clause-steps : goal.returns-clause-steps
returns-clause-steps c =
    steps-stated c.args.k c.args.table c.args.rows.now c.requires _ _ c.new-2.ensures.spread c.new-2.ensures.marked
    c.new-3.ensures.spread c.new-3.ensures.marked
