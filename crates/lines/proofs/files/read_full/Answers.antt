-- A turn puts what was read after what stands before it, and changes nothing of that.
use Rattle.std.proofs.Common.{◌≡◌, ℕ, ◌+◌, ◌-◌, ◌≤◌, List, ◌++◌, length, take, rules}
use Rattle.std.proofs.Common.{sym, ap, ◌∙◌, subst}
use Rattle.std.proofs.lemmas.List.{length-take-le, take-append-le}
use Rattle.std.proofs.Math.Seq.{take-append-add}
use Rattle.std.specs.Io.KnownBytes.{Consumes}
use Rattle.std.proofs.KnownBytes.{Consumes-trans}
use borrow.Rule.Slice.PartMut.{put_mid, post_of}
use Rattle.lines.proofs.files.read_full.Goals as goal

-- the first n of what was put, after what stood before it
taken : (a k n : ℕ) (old new : List ℕ) → a ≤ length old → n ≤ length new → take (a + n) (put_mid a k old new) ≡ take a old ++ take n new
taken a k n old new within fits =
    ap (λ (m : ℕ). take (m + n) (put_mid a k old new)) (sym (length-take-le a old within))
    ∙ take-append-add (take a old) (new ++ post_of a k old) n
    ∙ ap (λ l. take a old ++ l) (take-append-le n new (post_of a k old) fits)

pub loop-done-preserved : goal.loop-done-preserved
loop-done-preserved g c =
    let from = c.loop-done.done in
    let room = length c.loop-done.buf - from in
    let n = c.in_ok-n.n in (
      search rules,
      search rules,
      subst (Consumes _ _) (sym (taken from room n c.loop-done.buf c.read.new.buf c.loop-done.invariant.1 c.in_ok-n.ensures.bound.0))
          (Consumes-trans _ _ _ _ _ c.loop-done.invariant.2 c.in_ok-n.ensures.bytes.0),
    )
