-- `ascends` is the derived order, byte after byte: where two bytes differ they decide, and where they are equal the rest does. Assumes
-- nothing.
use mathlib.Core.Path.{◌≡◌, refl, ◌∙◌}
use mathlib.Core.Bool.{Bool, true, false, ◌&&◌, ◌||◌, cond}
use Prim.Native.Nat.{ℕ}
use lib.Dec.{ltb, eqb}
use Rattle.std.specs.Prelude.{Option, Some}
use Rattle.std.specs.declared.cmp.Ordering.{Ordering}
use Rattle.std.specs.declared.cmp.Ordering.TheVariants.{Less, Equal, Greater}
use Rattle.std.specs.Ordering.{is_some_and, is_lt, partial_ordering_then, nat_cmp}
use Rattle.meaning.specs.Records.{ascends}
use Rattle.table.proofs.record.ascends.Goals as goal

-- one byte, and then the rest
byte-first : (x y : ℕ) (rest : Option Ordering)
    → is_some_and is_lt (partial_ordering_then (Some (nat_cmp x y)) rest) ≡ (ltb x y || eqb x y && is_some_and is_lt rest)
byte-first x y rest = go (ltb x y) (eqb x y)
  where
    go : (less same : Bool)
        → is_some_and is_lt (partial_ordering_then (Some (cond less Less (cond same Equal Greater))) rest)
        ≡ (less || same && is_some_and is_lt rest)
    go true same = refl
    go false true = refl
    go false false = refl

last-byte : (x y : ℕ) → is_lt (nat_cmp x y) ≡ ltb x y
last-byte x y = go (ltb x y) (eqb x y)
  where
    go : (less same : Bool) → is_lt (cond less Less (cond same Equal Greater)) ≡ less
    go true same = refl
    go false true = refl
    go false false = refl

pub returns : goal.returns
unfolding ascends
returns c =
    let a = c.args.a in
    let b = c.args.b in
    c.lt.ensures ∙ rw (byte-first a.kind b.kind, byte-first a.from b.from, byte-first a.letter b.letter, last-byte a.to b.to)
