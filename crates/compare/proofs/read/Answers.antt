-- By the laws of a word that is read from its front: a byte is a digit by the test that the definition makes, and before the eighth there
-- is room for one byte more.
use Rattle.std.proofs.Common.{◌<◌, ◌-◌, arith, sym, ◌∙◌}
use Rattle.counts.proofs.Packing.{packed-room}
use Rattle.compare.specs.Shown.{is_digit}
use Rattle.compare.proofs.Reading.{byte, taken_none, taken_next, taken_whole, other_length, other_byte}
use Rattle.compare.proofs.read.Goals as goal

pub returns-then-word-ne8 : goal.returns-then-word-ne8
returns-then-word-ne8 c = other_length c.args.word.now c.if-word-ne8.true

pub loop-byte-init : goal.loop-byte-init
loop-byte-init c = taken_none c.args.word.now

pub returns-then-not-is_ascii_digit : goal.returns-then-not-is_ascii_digit
unfolding is_digit
returns-then-not-is_ascii_digit c =
    other_byte c.args.word.now c.loop-byte.byte-index c.if-word-ne8.false c.loop-byte-test.true
    (sym c.is_ascii_digit.ensures.value ∙ c.if-not-is_ascii_digit.true)

pub overflow_mul-position : goal.overflow_mul-position
overflow_mul-position c =
    let more : c.loop-byte.byte-index < 8 = omega (arith, c.loop-byte-test.true, c.if-word-ne8.false) in
    omega (arith, packed-room _ _ _ c.loop-byte.invariant.packed 0 more (omega arith))

pub overflow_add-position : goal.overflow_add-position
overflow_add-position c =
    let more : c.loop-byte.byte-index < 8 = omega (arith, c.loop-byte-test.true, c.if-word-ne8.false) in
    let small : byte c.args.word.now c.loop-byte.byte-index - 48 < 256 = omega (arith, c.type_inv.word c.loop-byte.byte-index) in
    omega (arith, packed-room _ _ _ c.loop-byte.invariant.packed _ more small)

pub loop-byte-preserved : goal.loop-byte-preserved
unfolding is_digit
loop-byte-preserved c =
    taken_next c.args.word.now c.loop-byte.byte-index c.loop-byte.position c.loop-byte.invariant c.if-word-ne8.false
    (omega (arith, c.loop-byte-test.true, c.if-word-ne8.false))
    (sym c.is_ascii_digit.ensures.value ∙ c.if-not-is_ascii_digit.false)

pub returns : goal.returns
returns c =
    taken_whole c.args.word.now c.loop-byte.byte-index c.loop-byte.position c.loop-byte.invariant c.if-word-ne8.false
    (omega (arith, c.loop-byte-test.false, c.if-word-ne8.false))
