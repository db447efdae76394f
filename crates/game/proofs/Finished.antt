-- What finishing comes to in each of its three cases: no winner, a start position that does not win, and one that does. By the tests that
-- decide. Assumes nothing.
use mathlib.Core.Path.{◌≡◌, refl, sym, ap, ◌∙◌}
use mathlib.Core.Bool.{Bool, true, false}
use mathlib.Core.List.{List}
use Prim.Native.Nat.{ℕ, ◌≤◌}
use native.Mathlib.Omega.{arith}
use lib.Dec.{eqb}
use lib.ListN.{length}
use borrow.Author.Tests.{lt-ltb, le-ltb}
use Rattle.std.specs.Prelude.{Some, None, Err}
use Rattle.meaning.specs.declared.Fault.{Fault}
use Rattle.meaning.specs.declared.Verdict.TheVariants.{Realizable, Unrealizable}
use Rattle.meaning.specs.declared.Refusal.TheVariants.{Nothing}
use Rattle.meaning.specs.Lists.{written, place}
use Rattle.meaning.specs.Table.{Table}
use Rattle.meaning.specs.Counting.{Position, start_position, covered}
use Rattle.meaning.specs.Written.{position_bytes, winners_bytes, covering, start_state, row_bytes, rows_from}
use Rattle.meaning.specs.Answers.{refused, unsolved, answered, solved, told, fault_of}
use Rattle.meaning.specs.Checks.{check}
use Rattle.meaning.proofs.Lists.{tab-length}
use Rattle.steps.specs.Bounded.{Bounded}
use Rattle.writing.specs.Playable.{within}
use Rattle.writing.proofs.Chains.{some-within, none-within}
use Rattle.writing.proofs.Stepped.{below-same}
use Rattle.game.specs.Finished.{finished}

-- the start state, by the start position in eight counts
pub start_stepped : (K : ℕ) (t : Table) → Bounded K t → (ws : List Position) (F : Position) → F ≡ position_bytes (start_position K t)
    → covering ws F ≡ start_state K t ws
unfolding covering start_state start_position
start_stepped K t bounded ws F e =
    ap (λ (G : Position). covering ws G) e
    ∙ ap (λ (f : Position → Bool). place f ws)
    (below-same (start_position K t) (rw (tab-length t.controllers _) bounded.small.controllers))

module _ (K : ℕ) (t : Table) (ws : List Position) (rounds : ℕ) (win con : List ℕ) (n : ℕ) (number : length ws ≡ n) where
  pub finished_nothing : true ≡ eqb n 0 → {fault : Fault} → fault ≡ fault_of (check Nothing 0 0 true)
      → solved (told (Err fault)) win con ≡ finished K t ws rounds win con
  unfolding finished unsolved refused
  finished_nothing e p = rw (p, number, sym e) refl

  module _ (some : false ≡ eqb n 0) (bounded : Bounded K t) (begins : Position) (stands : begins ≡ position_bytes (start_position K t))
      (winners : List ℕ) (written-winners : winners ≡ written (winners_bytes ws) win) where
    -- the start position does not win
    pub finished-without : None ≡ within n (covering ws begins)
        → solved (record { verdict = Unrealizable; place = 0; which = 0; rounds = rounds; winners = n }) winners con
        ≡ finished K t ws rounds win con
    unfolding finished answered
    finished-without none =
        let h : n ≤ start_state K t ws =
        omega (arith, none-within n (covering ws begins) none, start_stepped K t bounded ws begins stands) in
        rw (number, sym some, le-ltb (start_state K t ws) n h)
        (λ i. solved (record { verdict = Unrealizable; place = 0; which = 0; rounds = rounds; winners = n }) (written-winners i) con)

    -- it does, and the rows are written
    pub finished_with : {start : ℕ} → Some start ≡ within n (covering ws begins) → (controller : List ℕ)
        → controller ≡ written (row_bytes (rows_from K t (covered ws) ws start)) con
        → solved (record { verdict = Realizable start; place = 0; which = 0; rounds = rounds; winners = n }) winners controller
        ≡ finished K t ws rounds win con
    unfolding finished answered
    finished_with {start} one controller p =
        let inside = some-within n (covering ws begins) one in
        let begun : start ≡ start_state K t ws = inside.1 ∙ start_stepped K t bounded ws begins stands in
        rw (number, sym some, lt-ltb (start_state K t ws) n (omega (arith, inside.0, begun)))
        (λ i. solved (record { verdict = Realizable (begun i); place = 0; which = 0; rounds = rounds; winners = n })
        (written-winners i)
        ((p ∙ ap (λ (s : ℕ). written (row_bytes (rows_from K t (covered ws) ws s)) con) begun) i))
