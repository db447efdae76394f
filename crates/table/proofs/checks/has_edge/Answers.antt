-- `has_edge` looks into the one byte of the letter and the state; there is none for a ninth letter or state. Assumes nothing.
use mathlib.Core.Path.{◌≡◌, sym, ap}
use mathlib.Core.Bool.{Bool, false, ◌&&◌}
use mathlib.Core.List.{List}
use Prim.Native.Nat.{ℕ, ◌+◌, ◌*◌, ◌<◌, ◌≤◌}
use native.Mathlib.Omega.{arith}
use borrow.Author.Tests.{lt-ltb}
use lib.ListN.{length, get_or}
use Rattle.meaning.specs.Lists.{some}
use Rattle.meaning.specs.Table.{bit}
use Rattle.meaning.proofs.Tests.{some_same}
use Rattle.table.specs.Packed.{edge_in, has_edge}
use Rattle.meaning.proofs.Searches.{some-none}
use Rattle.table.proofs.Unpacked.{no_ninth_state, no_ninth_letter}
use Rattle.table.proofs.checks.has_edge.Goals as goal
use Rattle.table.proofs.checks.has_edge.Goals.{then-letter-lt8, else-letter-lt8}

module _ (targets : List ℕ) (reached letter p : ℕ) where
  none-on : length targets ≡ 64 → 8 ≤ letter → has_edge targets reached letter p ≡ false
  none-on e h = some-none reached (edge_in targets letter p) (λ q _. no_ninth_letter targets letter p q e h)

  none-from : 8 ≤ p → has_edge targets reached letter p ≡ false
  none-from h = some-none reached (edge_in targets letter p) (λ q _. no_ninth_state targets letter p q h)

  looked-up : p < 8 → some reached (bit (get_or targets (letter * 8 + p) 0)) ≡ has_edge targets reached letter p
  looked-up h =
      let m = get_or targets (letter * 8 + p) 0 in
      some_same reached (bit m) (edge_in targets letter p) (λ q _. ap (λ (b : Bool). b && bit m q) (sym (lt-ltb p 8 h)))

pub returns-else-p-lt8 : goal.returns-else-p-lt8
returns-else-p-lt8 c =
    let args = c.args in
    elim c.if-letter-lt8.branch [
      | then-letter-lt8 w ↦ cc (none-from args.targets args.reached args.letter args.p (omega arith))
      | else-letter-lt8 w ↦ cc (none-on args.targets args.reached args.letter args.p (omega arith) (omega arith))
    ]
