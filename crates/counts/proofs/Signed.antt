-- Signed counts as the code meets them: the bits of a signed byte stand for it, and the greater of two counts, as the library takes it,
-- is the greater of them read one higher. What each step of one count comes to, read one higher, is said in meaning (Signed.antt).
-- Assumes nothing.
use mathlib.Core.Path.{◌≡◌}
use Prim.Native.Nat.{◌<◌, max}
use native.Mathlib.Omega.{arith}
use lib.IntN.{ℤ}
use lib.Signed.{mag, lt_z}
use mir.Syntax.{w8}
use mir.Val.{to_z, of_z}
use mir.ValLaws.{to_z-of_z}
use Rattle.std.specs.Int.{int_max}
use Rattle.meaning.specs.Counting.{one_higher}
use Rattle.meaning.proofs.Tests.{cond_cases}
use Rattle.meaning.proofs.Signed.{ordered, not_ordered}

pub from_bits : (a : ℤ) → mag a < 128 → to_z w8 (of_z w8 a) ≡ a
from_bits a h = to_z-of_z w8 a (record { sfits = h })

pub greater_counted : (a b : ℤ) → one_higher (int_max a b) ≡ max (one_higher a) (one_higher b)
greater_counted a b =
    cond_cases (lt_z b a) a b (λ z. one_higher z ≡ max (one_higher a) (one_higher b))
    (λ t. omega (arith, ordered b a t)) (λ t. omega (arith, not_ordered b a t))
