-- `with_state` sets bit q, and leaves the mask as it is if q is past the eighth. Assumes nothing.
use mathlib.Core.Path.{ap, ◌∙◌}
use Prim.Native.Nat.{ℕ, ◌%◌, ◌^◌}
use native.Mathlib.Nat.{one-mul, mod-eq_of_lt}
use native.Mathlib.Omega.{arith}
use lib.Bits.{bit_or}
use lib.Pow.{pow-lt}
use Rattle.masks.proofs.Masks.{set-bit, set_beyond}
use Rattle.masks.proofs.with_state.Goals as goal

pub returns-then-q-ge8 : goal.returns-then-q-ge8
returns-then-q-ge8 c = set_beyond c.args.mask c.args.q (omega arith) c.if-q-ge8.true

pub returns : goal.returns
returns c =
    let m = c.args.mask in
    let q = c.args.q in
    ap (bit_or m) (ap (λ (x : ℕ). x % 256) (one-mul (2 ^ q)) ∙ mod-eq_of_lt (pow-lt c.if-q-ge8.false))
    ∙ set-bit m q (omega arith) c.if-q-ge8.false
