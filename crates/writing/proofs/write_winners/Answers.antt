-- `write_winners`: the byte that is stored is byte b of the winners, which makes their first b bytes one more; at the end they are all.
-- Assumes nothing.
use mathlib.Core.Path.{◌≡◌, sym, ap, ◌∙◌}
use mathlib.Core.List.{List}
use Prim.Native.Nat.{ℕ, ◌/◌, ◌%◌}
use native.Mathlib.Omega.{arith}
use lib.ListN.{length, get_or, set}
use lib.Seq.{take_all}
use Rattle.meaning.specs.Lists.{written}
use Rattle.meaning.specs.Counting.{Position, count}
use Rattle.meaning.specs.Written.{winners_bytes}
use Rattle.meaning.proofs.Buffers.{winners-bytes}
use Rattle.meaning.proofs.Stores.{list_store}
use Rattle.counts.proofs.Signed.{from_bits}
use Rattle.lists.specs.Members.{positions}
use Rattle.lists.proofs.Members.{positions-length}
use Rattle.writing.proofs.Bytes.{bytes-at, position-counts}
use Rattle.writing.proofs.write_winners.Goals as goal

pub loop-b-preserved : goal.loop-b-preserved
loop-b-preserved c =
    let given = c.args in
    let all = given.list.now in
    let b = c.loop-b.b in
    let ws = positions all in
    let number : length ws ≡ length all = positions-length all in
    let byte : c.to_byte.result ≡ get_or (winners_bytes ws) b 0 =
    (rw (from_bits c.at.result c.at.type_inv) at c.to_byte.ensures)
    ∙ c.at.ensures
    ∙ ap (λ (F : Position). count F (b % 8)) (sym (position-counts all (b / 8) (omega arith)))
    ∙ sym (bytes-at ws b (omega arith)) in
    ap (λ (l : List ℕ). set l b c.to_byte.result) c.loop-b.invariant
    ∙ list_store given.winners.now (winners_bytes ws) b c.to_byte.result byte (omega (arith, winners-bytes ws)) (omega arith)

pub returns : goal.returns
returns c =
    let given = c.args in
    let ws = positions given.list.now in
    c.loop-b.invariant
    ∙ ap (λ (l : List ℕ). written l given.winners.now)
    (take_all c.loop-b.b (winners_bytes ws) (omega (arith, winners-bytes ws, positions-length given.list.now)))
