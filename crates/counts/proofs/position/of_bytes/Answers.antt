-- `of_bytes`: the library says of `from_fn` that its calls gave the bytes in turn, and of `from_be_bytes` what number they make; and that
-- number has them for its counts (Made.antt). Assumes nothing.
use mathlib.Core.Path.{ap, ◌∙◌, refl}
use Prim.Native.Nat.{ℕ, ◌%◌, ◌<◌, zero-le}
use borrow.Author.Rules.{rules}
use lib.ListN.{get_or}
use Rattle.meaning.specs.Counting.{Position, count}
use Rattle.meaning.proofs.Lists.{tab-at}
use Rattle.counts.specs.Words.{counts_in}
use Rattle.counts.proofs.Made.{called_at_each, given_at, counts-of_bytes}
use Rattle.counts.proofs.position.of_bytes.Goals as goal

pub from_fn-requires : goal.from_fn-requires
from_fn-requires g c = (
  search rules,
  called_at_each g.F.Fn c.args.byte (λ q y t. g.met.F.Fn.1.step_stays c.args.byte (q, tt) y t) 8 c.requires,
)

pub returns : goal.returns
returns g c = λ q l.
    let f = c.args.byte in
    let bytes = c.from_fn.result in
    let low : (i : ℕ) → get_or bytes i 0 < 256 = λ i. search rules in
    let here =
    given_at g.F.Fn f (λ q y t. g.met.F.Fn.1.step_stays f (q, tt) y t) bytes 8 0 f refl c.from_fn.ensures.items.each q zero-le l in (
      here.0,
      (g.met.F.FnMut.1.post_iff f (q, tt) here.0).1 here.2,
      ap (λ w. count (counts_in w) q) c.from_be_bytes.ensures
          ∙ ap (λ (F : Position). count F q) (counts-of_bytes (λ i. get_or bytes i 0) low)
          ∙ tab-at 8 (λ i. get_or bytes i 0 % 128) q 0 l ∙ ap (λ b. b % 128) (here.1.1 0),
    )
