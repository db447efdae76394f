-- `at`: the byte of state q, shifted down, less its top bit is the count, one higher; and a byte of at most 127 is the count of itself.
-- Assumes nothing.
use mathlib.Core.Path.{◌≡◌, ap, ◌∙◌}
use Prim.Native.Nat.{◌*◌, ◌-◌, ◌/◌, ◌%◌, ◌^◌, min}
use native.Mathlib.Omega.{arith}
use Rattle.meaning.specs.Counting.{one_higher}
use Rattle.meaning.proofs.Signed.{lower_signed}
use Rattle.counts.proofs.Signed.{from_bits}
use Rattle.counts.proofs.Spreads.{byte-count}
use Rattle.counts.proofs.position.at.Goals as goal

pub returns : goal.returns
returns c =
    let given = c.args in
    let byte = given.m / 2 ^ (56 - 8 * given.q) % 128 in
    let low : min byte 128 ≡ byte = omega arith in
    ap one_higher (from_bits c.from_byte.result c.from_byte.type_inv ∙ c.from_byte.ensures)
    ∙ lower_signed (min byte 128) ∙ low ∙ byte-count given.m given.q c.requires
