-- `check` answers with the first check that fails, or with the table. What the tests before found says that the checks up to there pass, so
-- that what is left to judge are the others. Once 5 and 7 have passed, the table that was read states the table of the records, so 8, 9 and
-- 10 are about that. Assumes nothing.
use mathlib.Core.Path.{◌≡◌, sym, ap, ◌∙◌}
use mathlib.Core.Bool.{Bool, true, false, ◌||◌}
use mathlib.Core.List.{List}
use Prim.Native.Nat.{ℕ}
use lib.ListN.{length}
use lib.Dec.{ltb}
use Rattle.std.specs.Prelude.{Option, Some, None}
use Rattle.std.proofs.lemmas.Option.{cond_some, none-some}
use Rattle.meaning.specs.Lists.{place}
use Rattle.meaning.specs.Records.{Record, records_of, outside, of_kind, controller, world}
use Rattle.meaning.specs.Table as T
use Rattle.meaning.specs.Table.{table_of}
use Rattle.meaning.specs.Checks.{table_checks, wrong_size, descent, misnumbered, no_start, dangling, gap}
use Rattle.meaning.proofs.Tests.{either_left, either-right, refuted}
use Rattle.meaning.proofs.Lists.{no_place}
use Rattle.meaning.proofs.Records.{inside-at}
use Rattle.meaning.proofs.Sound.{numbered-at}
use Rattle.table.specs.declared.Table.{Table}
use Rattle.table.specs.Checked.{below}
use Rattle.table.specs.Packed.{table_in, packed}
use Rattle.table.proofs.Good.{checked_table}
use Rattle.table.proofs.checks.check.Goals as goal
use Rattle.table.proofs.checks.check.Goals.{then-misnumbered-via-then-misnumbered, then-misnumbered-via-else-misnumbered+then-misnumbered-2}

-- a place that was found is that of a record, and where none was found it is past the last
module _ (rs : List Record) (i : ℕ) {found : Option ℕ} (told : found ≡ below rs i) where
  seen : {j : ℕ} → found ≡ Some j → (ltb i (length rs) ≡ true) × (i ≡ j)
  seen {j} e = cond_some (ltb i (length rs)) i j (sym told ∙ e)

  unseen : found ≡ None → ltb i (length rs) ≡ false
  unseen e = refuted (ltb i (length rs)) (λ t. none-some i (sym e ∙ told ∙ rw t))

-- 4 to 6 pass
record Ordered (bytes : List ℕ) : Type 0 where
  sized : wrong_size 4160 bytes ≡ false
  inside : ltb (place outside (records_of bytes)) (length (records_of bytes)) ≡ false
  ordered : ltb (descent (records_of bytes)) (length (records_of bytes)) ≡ false

ordered_by : (bytes : List ℕ) {wrong : Bool} {bad late : Option ℕ} → wrong ≡ wrong_size 4160 bytes → wrong ≡ false
    → bad ≡ below (records_of bytes) (place outside (records_of bytes)) → bad ≡ None
    → late ≡ below (records_of bytes) (descent (records_of bytes)) → late ≡ None → Ordered bytes
ordered_by bytes size p outer q order r = record { sized = sym size ∙ p; inside = unseen _ _ outer q; ordered = unseen _ _ order r }

-- and 7, and the table was read
record Numbered (bytes : List ℕ) (t : Table) : Type 0 where
  before : Ordered bytes
  controllers : misnumbered (of_kind controller (records_of bytes)) ≡ false
  worlds : misnumbered (of_kind world (records_of bytes)) ≡ false
  was_read : t ≡ packed (table_of (records_of bytes))

numbered_by : (bytes : List ℕ) {t : Table} {m n : Bool} → Ordered bytes → m ≡ misnumbered (of_kind controller (records_of bytes))
    → m ≡ false → n ≡ misnumbered (of_kind world (records_of bytes)) → n ≡ false → t ≡ packed (table_of (records_of bytes))
    → Numbered bytes t
numbered_by bytes o a p b q r = record { before = o; controllers = sym a ∙ p; worlds = sym b ∙ q; was_read = r }

-- so the table is that of the records
same-table : (bytes : List ℕ) (t : Table) → Numbered bytes t → table_in t ≡ table_of (records_of bytes)
same-table bytes t n =
    let rs = records_of bytes in
    ap table_in n.was_read
    ∙ checked_table rs (λ r m. inside-at r (no_place outside rs n.before.inside r m))
    (numbered-at (of_kind controller rs) n.controllers) (numbered-at (of_kind world rs) n.worlds)

-- what a test of the table found holds of that of the records
of_records : (bytes : List ℕ) (t : Table) → Numbered bytes t → (test : T.Table → Bool) {a b : Bool} → a ≡ test (table_in t) → a ≡ b
    → test (table_of (records_of bytes)) ≡ b
of_records bytes t n test told e = ap test (sym (same-table bytes t n)) ∙ sym told ∙ e

stray_of : (bytes : List ℕ) (t : Table) → Numbered bytes t → {found : Option ℕ}
    → found ≡ below (records_of bytes) (place (dangling (table_in t)) (records_of bytes))
    → found ≡ below (records_of bytes) (place (dangling (table_of (records_of bytes))) (records_of bytes))
stray_of bytes t n told =
    told ∙ ap (λ (u : T.Table). below (records_of bytes) (place (dangling u) (records_of bytes))) (same-table bytes t n)

pub returns-then-wrong_size : goal.returns-then-wrong_size
unfolding table_checks
returns-then-wrong_size c = rw (c.at.ensures, sym c.wrong_size.ensures ∙ c.if-wrong_size.true)

pub returns-in-Some : goal.returns-in-Some
unfolding table_checks
returns-in-Some c =
    let found = seen _ _ c.first_outside.ensures c.in-Some.is in
    rw (c.at-in-Some.ensures, sym c.wrong_size.ensures ∙ c.if-wrong_size.false, found.0, found.1)

pub returns-in-Some-first_descent : goal.returns-in-Some-first_descent
unfolding table_checks
returns-in-Some-first_descent c =
    let found = seen _ _ c.first_descent.ensures c.in-Some-first_descent.is in
    rw (
      c.at-in-Some-first_descent.ensures,
      sym c.wrong_size.ensures ∙ c.if-wrong_size.false,
      unseen _ _ c.first_outside.ensures c.in_default.is,
      found.0,
      found.1,
    )

pub returns-then-misnumbered : goal.returns-then-misnumbered
unfolding table_checks
returns-then-misnumbered c =
    let bytes = c.args.bytes.now in
    let before = ordered_by bytes c.wrong_size.ensures c.if-wrong_size.false c.first_outside.ensures c.in_default.is
    c.first_descent.ensures c.in_default-first_descent.is in
    let controllers = misnumbered (of_kind controller (records_of bytes)) in
    let worlds = misnumbered (of_kind world (records_of bytes)) in
    let fails : (controllers || worlds) ≡ true = elim c.then-misnumbered.branch [
      | then-misnumbered-via-then-misnumbered w ↦ either_left controllers worlds (sym c.misnumbered.ensures ∙ w.if-misnumbered.true)
      | then-misnumbered-via-else-misnumbered+then-misnumbered-2 w ↦
          either-right controllers worlds (sym w.misnumbered-else-misnumbered.ensures ∙ w.if-misnumbered-2.true)
    ] in
    rw (c.at-then-misnumbered.ensures, before.sized, before.inside, before.ordered, fails)

pub returns-then-no_start : goal.returns-then-no_start
unfolding table_checks
returns-then-no_start c =
    let bytes = c.args.bytes.now in
    let before = ordered_by bytes c.wrong_size.ensures c.if-wrong_size.false c.first_outside.ensures c.in_default.is
    c.first_descent.ensures c.in_default-first_descent.is in
    let n = numbered_by bytes before c.misnumbered.ensures c.if-misnumbered.false c.misnumbered-else-misnumbered.ensures
    c.if-misnumbered-2.false c.read-table.ensures in
    let fails = of_records bytes c.read-table.result n no_start c.no_start.ensures c.if-no_start.true in
    rw (c.at-then-no_start.ensures, before.sized, before.inside, before.ordered, n.controllers, n.worlds, fails)

pub returns-in-Some-first_dangling : goal.returns-in-Some-first_dangling
unfolding table_checks
returns-in-Some-first_dangling c =
    let bytes = c.args.bytes.now in
    let before = ordered_by bytes c.wrong_size.ensures c.if-wrong_size.false c.first_outside.ensures c.in_default.is
    c.first_descent.ensures c.in_default-first_descent.is in
    let n = numbered_by bytes before c.misnumbered.ensures c.if-misnumbered.false c.misnumbered-else-misnumbered.ensures
    c.if-misnumbered-2.false c.read-table.ensures in
    let started = of_records bytes c.read-table.result n no_start c.no_start.ensures c.if-no_start.false in
    let found = seen _ _ (stray_of bytes c.read-table.result n c.first_dangling.ensures) c.in-Some-first_dangling.is in
    rw (
      c.at-in-Some-first_dangling.ensures,
      before.sized,
      before.inside,
      before.ordered,
      n.controllers,
      n.worlds,
      started,
      found.0,
      found.1,
    )

pub returns-then-gap : goal.returns-then-gap
unfolding table_checks
returns-then-gap c =
    let bytes = c.args.bytes.now in
    let before = ordered_by bytes c.wrong_size.ensures c.if-wrong_size.false c.first_outside.ensures c.in_default.is
    c.first_descent.ensures c.in_default-first_descent.is in
    let n = numbered_by bytes before c.misnumbered.ensures c.if-misnumbered.false c.misnumbered-else-misnumbered.ensures
    c.if-misnumbered-2.false c.read-table.ensures in
    let started = of_records bytes c.read-table.result n no_start c.no_start.ensures c.if-no_start.false in
    let whole = unseen _ _ (stray_of bytes c.read-table.result n c.first_dangling.ensures) c.in_default-first_dangling.is in
    let fails = of_records bytes c.read-table.result n gap c.gap.ensures c.if-gap.true in
    rw (c.at-then-gap.ensures, before.sized, before.inside, before.ordered, n.controllers, n.worlds, started, whole, fails)

pub returns : goal.returns
unfolding table_checks
returns c =
    let bytes = c.args.bytes.now in
    let before = ordered_by bytes c.wrong_size.ensures c.if-wrong_size.false c.first_outside.ensures c.in_default.is
    c.first_descent.ensures c.in_default-first_descent.is in
    let n = numbered_by bytes before c.misnumbered.ensures c.if-misnumbered.false c.misnumbered-else-misnumbered.ensures
    c.if-misnumbered-2.false c.read-table.ensures in
    let started = of_records bytes c.read-table.result n no_start c.no_start.ensures c.if-no_start.false in
    let whole = unseen _ _ (stray_of bytes c.read-table.result n c.first_dangling.ensures) c.in_default-first_dangling.is in
    let full = of_records bytes c.read-table.result n gap c.gap.ensures c.if-gap.false in
    rw (c.read-table.ensures, before.sized, before.inside, before.ordered, n.controllers, n.worlds, started, whole, full)
