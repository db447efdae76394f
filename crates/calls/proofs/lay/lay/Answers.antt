-- `lay`: a turn puts a field's low four bytes after those that stand, and after the sixth they are the whole answer. Assumes nothing.
use mathlib.Core.Path.{◌≡◌, refl, ap, ap₂, ◌∙◌}
use mathlib.Core.List.{[], ◌∷◌, flat_map}
use Prim.Native.Nat.{ℕ}
use native.Mathlib.Omega.{arith}
use lib.ListN.{take, get_or}
use Rattle.meaning.specs.Lists.{written}
use Rattle.calls.specs.Called.{fields, four_bytes, answer_bytes}
use Rattle.calls.proofs.Laid.{laid, field_laid}
use Rattle.calls.proofs.lay.lay.Goals as goal

pub loop-i-init : goal.loop-i-init
unfolding flat_map
loop-i-init c = refl

pub loop-i-preserved : goal.loop-i-preserved
unfolding fields four_bytes
loop-i-preserved c =
    let a = c.args.answer in
    let field = λ (code start : ℕ). get_or (code ∷ a.place ∷ a.which ∷ a.rounds ∷ a.winners ∷ start ∷ []) c.loop-i.i 0 in
    field_laid (fields a) c.args.out.now c.loop-i.out c.copy_from_slice.new.self c.loop-i.i _ _
    (omega (arith, c.loop-i-test.true)) (omega arith)
    (ap₂ field c.code.ensures c.start.ensures)
    (c.copy_from_slice.ensures.after ∙ ap (take 4) c.to_le_bytes.ensures)
    c.loop-i.invariant

pub returns : goal.returns
unfolding answer_bytes fields
returns c =
    let all : c.loop-i.i ≡ 6 = omega arith in
    c.loop-i.invariant ∙ ap (λ (i : ℕ). written (laid (fields c.args.answer) i) c.args.out.now) all
