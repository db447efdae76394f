-- `write`: of each kind the first table's records are stored, and then the second's, renumbered by the first's few states; there is room,
-- since the joined table's bytes are at most 4160. After the last kind they are the joined table. Assumes nothing.
use mathlib.Core.Path.{◌≡◌, ap, ◌∙◌}
use mathlib.Core.List.{List, flat_map}
use Prim.Native.Nat.{ℕ, ◌+◌, ◌≤◌}
use native.Mathlib.Omega.{arith}
use borrow.Author.Rules.{rules}
use lib.ListN.{length}
use Rattle.meaning.specs.Records.{records_of, bytes_of}
use Rattle.meaning.specs.Join.{joined_bytes}
use Rattle.meaning.proofs.Records.{Kind, kind-of}
use Rattle.joined.specs.declared.pair.Tables.{Tables}
use Rattle.joined.specs.Joined.{moved_bytes, ReadBoth, Stored}
use Rattle.joined.proofs.Paired.{few-states, read_first, read-joinable}
use Rattle.joined.proofs.Appended.{sets_written, stored-none, stored_more, stored-length, joined_before, joined-more, joined-room}
use Rattle.joined.proofs.Appended.{joined-all}
use Rattle.joined.proofs.write.Goals as goal

module _ (one two : List ℕ) (tables : Tables) (pass : ReadBoth one two tables) where
  -- the first table has few states
  few : (tables.first.controllers ≤ 8) × (tables.first.worlds ≤ 8)
  few = few-states one tables.first (read_first one two pass) (read-joinable one two pass).first

  -- there is room for both tables' records of a kind
  room : {old out : List ℕ} {kind end : ℕ} → 4160 ≤ length old → Kind kind
      → Stored old 0 (joined_before tables.first.controllers tables.first.worlds (records_of one) (records_of two) kind) out end
      → end + length (moved_bytes 0 0 kind (records_of one))
      + length (moved_bytes tables.first.controllers tables.first.worlds kind (records_of two)) ≤ length out
  room {kind = kind} large k stored =
      omega (
        arith,
        stored.ends,
        stored-length stored,
        joined-room tables.first.controllers tables.first.worlds (records_of one) (records_of two) kind k,
        ap length (joined-all one two tables.first (read_first one two pass)),
        (read-joinable one two pass).short,
      )

pub overflow_cast-up : goal.overflow_cast-up
overflow_cast-up c = omega (arith, few _ _ _ c.requires.pass)

pub overflow_cast-up-2 : goal.overflow_cast-up-2
overflow_cast-up-2 c = omega (arith, few _ _ _ c.requires.pass)

pub loop-kind-init : goal.loop-kind-init
unfolding bytes_of flat_map
loop-kind-init c = (search rules, search rules, stored-none _ _)

pub append-end-requires : goal.append-end-requires
append-end-requires c =
    let kind = kind-of c.loop-kind.kind c.loop-kind.invariant.0 c.loop-kind-test.true in
    record {
      pass = (read-joinable _ _ c.requires.pass).first;
      few = search rules;
      room = omega (arith, room _ _ _ c.requires.pass c.requires.room kind c.loop-kind.invariant.2);
    }

pub append-end-requires-in-loop-kind : goal.append-end-requires-in-loop-kind
append-end-requires-in-loop-kind c =
    let kind = kind-of c.loop-kind.kind c.loop-kind.invariant.0 c.loop-kind-test.true in
    let stored = c.append-end.ensures in
    record {
      pass = (read-joinable _ _ c.requires.pass).second;
      few = few _ _ _ c.requires.pass;
      room =
          omega (
            arith,
            room _ _ _ c.requires.pass c.requires.room kind c.loop-kind.invariant.2,
            stored.ends,
            stored-length stored,
          );
    }

pub loop-kind-preserved : goal.loop-kind-preserved
loop-kind-preserved c =
    let t = c.args.tables.first in
    let rs = records_of c.args.first.now in
    let ss = records_of c.args.second.now in
    let kind = c.loop-kind.kind in (
      search rules,
      search rules,
      rw (joined-more t.controllers t.worlds rs ss kind (kind-of kind c.loop-kind.invariant.0 c.loop-kind-test.true))
          (stored_more {ys = moved_bytes t.controllers t.worlds kind ss}
          (stored_more {ys = moved_bytes 0 0 kind rs} c.loop-kind.invariant.2 c.append-end.ensures) c.append-end-in-loop-kind.ensures),
    )

pub shape_of-out : goal.shape_of-out
shape_of-out c = stored-length c.loop-kind.invariant.2

pub returns : goal.returns
returns c =
    let one = c.args.first.now in
    let two = c.args.second.now in
    let pass = c.requires.pass in
    let last : c.loop-kind.kind ≡ 5 = omega arith in
    let all = rw (last, joined-all one two c.args.tables.first (read_first one two pass)) at c.loop-kind.invariant.2 in
    record {
      size = omega (arith, all.ends);
      bytes =
          all.bytes ∙ sets_written c.args.out.now (joined_bytes one two)
          (omega (arith, (read-joinable one two pass).short, c.requires.room));
    }
