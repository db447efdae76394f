-- `append`: a record of the kind is stored renumbered where the bytes before it end, and any other changes nothing. There is room, since
-- there is for all of them. Assumes nothing.
use mathlib.Core.List.{flat_map}
use native.Mathlib.Omega.{arith}
use lib.ListN.{take}
use Rattle.meaning.specs.Records.{records_of, bytes_of, of_kind}
use Rattle.table.specs.Packed.{record_in}
use Rattle.table.proofs.Records.{as_many, record-at, next_record, all_records}
use Rattle.joined.proofs.Paired.{low-states}
use Rattle.joined.proofs.Appended.{stored-none, stored_more, stored-length, moved_this, moved_other, moved-room}
use Rattle.joined.proofs.append.Goals as goal
use Rattle.joined.proofs.append.Goals.{else-r-kind, then-r-kind}

pub loop-r-init : goal.loop-r-init
unfolding of_kind bytes_of flat_map
loop-r-init c = stored-none _ _

pub renumber-requires-clause-states : goal.renumber-requires-clause-states
renumber-requires-clause-states c =
    low-states c.args.bytes.now c.records-r-items.result.now c.loop-r.r-index (record_in c.from-r.result) c.records-r-items.ensures
    c.loop-r-test.true c.from-r.ensures c.requires.pass

pub put-end-requires : goal.put-end-requires
put-end-requires c =
    let up = c.args.up in
    let chunks = c.records-r-items.result.now in
    let stated = c.records-r-items.ensures in
    let r = record_in c.from-r.result in
    omega (
      arith,
      c.loop-r.invariant.ends,
      stored-length c.loop-r.invariant,
      moved-room up.controllers up.worlds c.args.kind (records_of c.args.bytes.now) c.loop-r.r-index r
          (omega (arith, as_many chunks stated))
          (record-at chunks stated c.loop-r.r-index r c.loop-r-test.true c.from-r.ensures) c.if-r-kind.true,
      c.requires.room,
    )

pub loop-r-preserved : goal.loop-r-preserved
loop-r-preserved c =
    let args = c.args in
    let n = args.up.controllers in
    let m = args.up.worlds in
    let i = c.loop-r.r-index in
    let rs = take i (records_of args.bytes.now) in
    let r = record_in c.from-r.result in
    rw (next_record c.records-r-items.result.now c.records-r-items.ensures i r c.loop-r-test.true c.from-r.ensures)
    (elim c.if-r-kind.branch [
      | then-r-kind w ↦
          rw (w.out-is, w.end-is, moved_this n m args.kind rs r w.if-r-kind.true, ← w.renumber.ensures)
          (stored_more c.loop-r.invariant w.put-end.ensures)
      | else-r-kind w ↦ rw (w.out-is, w.end-is, moved_other n m args.kind rs r w.if-r-kind.false) c.loop-r.invariant
    ])

pub shape_of-out : goal.shape_of-out
shape_of-out c = stored-length c.loop-r.invariant

pub returns : goal.returns
returns c =
    rw (all_records c.records-r-items.result.now c.records-r-items.ensures c.loop-r.r-index c.loop-r-test.false) at c.loop-r.invariant
