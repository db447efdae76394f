-- `wrong_size` is its three tests in turn. Assumes nothing.
use Rattle.std.proofs.Common.{eq-eqb, ne_eqb}
use Rattle.meaning.specs.Checks.{wrong_size}
use Rattle.meaning.proofs.wrong_size.Goals as goal

pub returns-then-bytes-eq0 : goal.returns-then-bytes-eq0
unfolding wrong_size
returns-then-bytes-eq0 c = rw (eq-eqb _ _ c.if-bytes-eq0.true)

pub returns-then-bytes-ne0 : goal.returns-then-bytes-ne0
unfolding wrong_size
returns-then-bytes-ne0 c = rw (ne_eqb _ _ c.if-bytes-eq0.false, ne_eqb _ _ c.if-bytes-ne0.true)

pub returns-else-bytes-ne0 : goal.returns-else-bytes-ne0
unfolding wrong_size
returns-else-bytes-ne0 c = rw (ne_eqb _ _ c.if-bytes-eq0.false, eq-eqb _ _ c.if-bytes-ne0.false)
