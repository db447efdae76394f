-- Demand 2's words for the start: a strategy that keeps every run from a start state to K is one that wins from the start position. A
-- start state's count there is its mark, at most K + 1: so a run may add K less the mark, and where the mark is over K no run keeps to K.
-- Half a round further adds no more than the whole round that every good table lets follow it.
use mathlib.Core.Path.{◌≡◌, ap, ◌∙◌}
use mathlib.Core.Logic.Iff
use mathlib.Core.Logic.{◌↔◌}
use mathlib.Core.Bool.{true, cond}
use mathlib.Core.List.{List}
use Prim.Native.Nat.{ℕ, ◌<◌}
use native.Mathlib.Decide.{dec_lt}
use native.Mathlib.Omega.{arith}
use lib.ListN.{length, get_or-eq_default}
use Rattle.meaning.specs.Records.{Record, blank, at, controller, of_kind}
use Rattle.meaning.specs.Table.{Table, start_in, starts_of, table_of, Good, StartsDeclared}
use Rattle.meaning.specs.Counting.{count, plus, safe, start_position}
use Rattle.meaning.specs.Rounds.{Set, winning, FirstSet}
use Rattle.meaning.specs.Written.{start_state}
use Rattle.meaning.specs.Play.{Strategy, Legal, Keeps, Wins, Realizes, Realizable}
use Rattle.meaning.specs.Play.Run.{here, round}
use Rattle.meaning.proofs.Restated.{first_count}
use Rattle.meaning.proofs.Tests.{clash}
use Rattle.meaning.proofs.Lists.{tab-length, tab-at}
use Rattle.meaning.proofs.Steps.{run-within, run-over-edge, safe_where}
use Rattle.meaning.proofs.Maximal.{winning-covered, StartCovered}

-- start states are states
pub start-declared : (rs : List Record) → StartsDeclared (table_of rs)
unfolding table_of starts_of start_in
start-declared rs p s = go (dec_lt p (length (of_kind controller rs)))
  where
    go : Dec (p < length (of_kind controller rs)) → p < length (of_kind controller rs)
    go (yes l) = l
    go (no l) =
        let none : at (of_kind controller rs) p ≡ blank = get_or-eq_default (of_kind controller rs) blank (omega arith) in
        absurd (clash (start_in (at (of_kind controller rs) p)) s (ap start_in none))

-- the start position: its states, that count at each start state, and none elsewhere
pub start-length : (K : ℕ) (t : Table) → length (start_position K t) ≡ t.controllers
unfolding start_position
start-length K t = tab-length t.controllers _

start-at : (K : ℕ) (t : Table) (p : ℕ) → p < t.controllers
    → count (start_position K t) p ≡ cond (t.starts p) (first_count K t p) 0
unfolding start_position plus
start-at K t p l = tab-at t.controllers _ p 0 l

pub start-count : (K : ℕ) (t : Table) (p : ℕ) → p < t.controllers → t.starts p ≡ true
    → count (start_position K t) p ≡ first_count K t p
start-count K t p l s = rw s at (start-at K t p l)

pub count-start : (K : ℕ) (t : Table) (p : ℕ) → 0 < count (start_position K t) p
    → (t.starts p ≡ true) × (count (start_position K t) p ≡ first_count K t p)
count-start K t p c =
    let e = start-at K t p (rw (start-length K t) at (run-within (start_position K t) p c)) in
    let r = run-over-edge (t.starts p) (first_count K t p) (omega arith) in
    (r.0, e ∙ r.1)

-- where some strategy keeps every run to K, each start state's first visit does: the start position is safe
pub realizes_safe : (K : ℕ) (t : Table) (σ : Strategy) → Realizes K t σ → safe K (start_position K t) ≡ true
realizes_safe K t σ r =
    safe_where K (start_position K t) (λ p c. let at = count-start K t p c in omega (arith, at.1, r.keeps p at.0 here))

-- it is covered exactly if it is in the winning set
pub start-covered : (K : ℕ) (t : Table) (X : Set) → FirstSet K t X → StartCovered K t X ↔ (winning K t X (start_position K t) ≡ true)
unfolding start_state
start-covered K t X first = Iff.symm (winning-covered K t X first (start_position K t) (start-length K t))

pub keeps_realizes : (K : ℕ) (t : Table) → StartsDeclared t → (σ : Strategy) → Legal t σ → Keeps K t (start_position K t) σ → Realizes K t σ
keeps_realizes K t declared σ l k =
    record { legal = l; keeps = λ p s run. let at = start-count K t p (declared p s) s in omega (arith, at, k.whole p (omega arith) run) }

pub realizes_keeps : (K : ℕ) (rs : List Record) → Good (table_of rs) → (σ : Strategy) → Realizes K (table_of rs) σ
    → Keeps K (table_of rs) (start_position K (table_of rs)) σ
realizes_keeps K rs g σ r =
    let t = table_of rs in
    record {
      whole = λ p c run. let at = count-start K t p c in omega (arith, at.1, r.keeps p at.0 run);
      half = λ p c {inputs} {q} run w out.
          let at = count-start K t p c in
          let on = g.input-leads 0 w g.some-input (g.output-ends (σ inputs) q w out).2 in
          omega (arith, at.1, r.keeps p at.0 (round run w 0 on.0 out on.1));
    }

pub wins_realizable : (K : ℕ) (rs : List Record) → Good (table_of rs)
    → Wins K (table_of rs) (start_position K (table_of rs)) ↔ Realizable K (table_of rs)
wins_realizable K rs g = (
  λ w. (w.strategy, keeps_realizes K (table_of rs) (start-declared rs) w.strategy w.legal w.keeps),
  λ r. record { strategy = r.0; legal = r.1.legal; keeps = realizes_keeps K rs g r.0 r.1 },
)
