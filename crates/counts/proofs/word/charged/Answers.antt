-- `charged`: the counts are brought to at most k + 2, each that is present is charged with its mark, and they are brought there again
-- (Charging.antt). Assumes nothing.
use Rattle.counts.proofs.Charging.{paid-fits, charged_with}
use Rattle.counts.proofs.word.charged.Goals as goal

pub overflow_add-low : goal.overflow_add-low
overflow_add-low c =
    let low = c.lesser-low.result in
    let marks = c.args.marks in
    record { fits = rw c.at_most.ensures (paid-fits low marks) }

pub returns : goal.returns
returns c =
    let args = c.args in
    charged_with args.k args.marks args.most c.lesser-low.result c.lesser.result c.requires
    c.lesser-low.ensures (rw c.at_most.ensures at c.lesser.ensures)
