-- `put` puts four bytes in the place of those from the start on: those of the record. Assumes nothing.
use mathlib.Core.Path.{refl, sym, ◌∙◌}
use native.Mathlib.Omega.{arith}
use mathlib.Core.List.{[], ◌∷◌, append_assoc, flat_map}
use Prim.Native.Nat.{◌+◌}
use lib.ListN.{take, drop}
use borrow.Rule.Slice.PartMut.{Post-is}
use Rattle.std.proofs.lemmas.List.Edits.{sets-eq}
use Rattle.meaning.specs.Records.{bytes_of}
use Rattle.joined.proofs.put.Goals as goal

pub returns : goal.returns
unfolding bytes_of flat_map
returns c =
    let start = c.args.start in
    let out = c.args.out.now in
    let r = c.args.r in
    let new = r.kind ∷ r.from ∷ r.letter ∷ r.to ∷ [] in
    record {
      ends = refl;
      bytes =
          rw (c.copy_from_slice.ensures.after, Post-is start (start + 4) out (omega arith))
          (sym (append_assoc (take start out) new (drop (start + 4) out)) ∙ sym (sets-eq new out start c.requires));
    }
