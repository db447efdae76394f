-- `checked_join`: with too little room it refuses; else it goes by what the checks of the two tables come to, and writes only where they
-- pass. Assumes nothing.
use mathlib.Core.Path.{◌≡◌, sym, ap, ◌∙◌}
use mathlib.Core.Bool.{true}
use mathlib.Core.List.{List}
use Prim.Native.Nat.{ℕ, ◌≤◌, ◌<◌}
use borrow.Author.Tests.{lt-ltb, le-ltb}
use lib.ListN.{length}
use Rattle.meaning.specs.declared.Answer.{Answer}
use Rattle.meaning.specs.declared.Refusal.TheVariants.{Room}
use Rattle.meaning.specs.Join.{joined_bytes}
use Rattle.meaning.specs.Checks.{check, judge, room_to_join, pair_checks, join_checks}
use Rattle.meaning.specs.Answers.{join, joined_as, unjoined, joined_into}
use Rattle.meaning.proofs.Checks.{judge-passes}
use Rattle.game.proofs.InOrder.{told-passed}
use Rattle.joined.proofs.Paired.{judge-pair, read-passes}
use Rattle.join.proofs.checked_join.Goals as goal

module _ (one two out : List ℕ) where
  cramped : length out < 4160 → join one two out ≡ unjoined out (check Room 0 0 true)
  unfolding join join_checks room_to_join
  cramped h = rw (lt-ltb (length out) 4160 h)

  -- with room, the checks of the two tables are left
  roomy : 4160 ≤ length out → join one two out ≡ judge (pair_checks one two) (unjoined out) (joined_into (joined_bytes one two) out)
  unfolding join join_checks room_to_join
  roomy h = rw (le-ltb (length out) 4160 h)

pub returns-then-out-lt4160 : goal.returns-then-out-lt4160
returns-then-out-lt4160 c =
    rw c.at.ensures (sym (cramped c.args.first.now c.args.second.now c.args.out.now c.if-out-lt4160.true))

pub returns-in_err-tables : goal.returns-in_err-tables
returns-in_err-tables c =
    let one = c.args.first.now in
    let two = c.args.second.now in
    let out = c.args.out.now in
    ap (λ (a : Answer). joined_as a out) (told-passed c.from_residual.result _ c.from_residual.ensures.1)
    ∙ sym (roomy one two out c.if-out-lt4160.false
    ∙ judge-pair one two (unjoined out) (joined_into (joined_bytes one two) out) c.in_err-tables.ensures)

pub returns : goal.returns
returns c =
    let one = c.args.first.now in
    let two = c.args.second.now in
    let out = c.args.out.now in
    let passes = read-passes one two (record { both_read = sym c.in_ok-tables.ensures }) in
    rw (c.write.ensures.size, c.write.ensures.bytes)
    (sym (roomy one two out c.if-out-lt4160.false
    ∙ judge-passes (pair_checks one two) (unjoined out) (joined_into (joined_bytes one two) out) passes))
