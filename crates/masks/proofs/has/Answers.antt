-- `has` reads bit q: the last digit of what a shift by q leaves. Assumes nothing.
use mathlib.Core.Path.{sym, ap, ◌∙◌}
use Prim.Native.Nat.{ℕ, ◌/◌, ◌^◌}
use lib.Dec.{eqb}
use lib.Bits.{and_mask}
use Rattle.masks.proofs.Masks.{bit-digit, bit_beyond}
use Rattle.masks.proofs.has.Goals as goal

pub returns-then-q-ge8 : goal.returns-then-q-ge8
returns-then-q-ge8 c = sym (bit_beyond c.args.mask c.args.q c.if-q-ge8.true)

pub returns : goal.returns
returns c =
    let m = c.args.mask in
    let q = c.args.q in
    ap (λ (d : ℕ). eqb d 1) (and_mask (m / 2 ^ q) 1) ∙ sym (bit-digit m q c.if-q-ge8.false)
