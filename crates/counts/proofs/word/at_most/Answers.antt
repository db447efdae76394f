-- `at_most`: a byte with its top bit set is at least any count, so that the bytes are subtracted each on its own; and it keeps its top bit
-- exactly if the count taken off is at most its own. Assumes nothing.
use Rattle.counts.proofs.Bytes.{no_borrowing, difference_flags}
use Rattle.counts.proofs.word.at_most.Goals as goal

pub overflow_sub-result : goal.overflow_sub-result
overflow_sub-result c = no_borrowing 8 c.args.a c.args.b

pub returns : goal.returns
returns c = difference_flags 8 c.args.a c.args.b
