-- What the game may take for granted of a table that passes checks 4 to 10: there are letters, every edge joins declared states and is of
-- a letter, and every state has an edge for each letter. And what check 10 says of a table: it leaves no gap exactly if there are letters
-- and each letter leads on from every state.
use mathlib.Core.Path.{◌≡◌, refl}
use mathlib.Core.Bool.{true, false, not, ◌||◌}
use Prim.Native.Nat.{ℕ, ◌<◌}
use native.Mathlib.Omega.{arith}
use lib.Dec.{eqb}
use borrow.Author.Tests.{eqb-false, ne_eqb, not-false}
use Rattle.meaning.specs.Lists.{each, some}
use Rattle.meaning.specs.Table.{Half, Table, on_output, on_input}
use Rattle.meaning.specs.Checks.{total, gap}
use Rattle.meaning.proofs.Tests.{neither_left, neither_right, each_at, each_of, some_at}

-- a letter that leads on from every state leads on from each
pub total-leads : (h : Half) → total h ≡ true → (p : ℕ) → p < h.sources → (q : ℕ) × (q < h.targets) × (h.edge p q ≡ true)
unfolding total
total-leads h e p l = some_at h.targets (λ q. h.edge p q) (each_at h.sources (λ p. some h.targets (λ q. h.edge p q)) e p l)

-- there are letters, and each of them leads on from every state
pub record Leads (t : Table) : Type 0 where
  pub some-output : 0 < t.outputs
  pub some-input : 0 < t.inputs
  pub on-output : (o : ℕ) → o < t.outputs → total (on_output t o) ≡ true
  pub on-input : (i : ℕ) → i < t.inputs → total (on_input t i) ≡ true

pub leads-at : (t : Table) → gap t ≡ false → Leads t
unfolding gap
leads-at t p =
    let no_output = eqb t.outputs 0 in
    let no-input = eqb t.inputs 0 in
    let outputs = each t.outputs (λ o. total (on_output t o)) in
    let inputs = each t.inputs (λ i. total (on_input t i)) in
    let three = neither_left (no_output || no-input || not outputs) (not inputs) p in
    let two = neither_left (no_output || no-input) (not outputs) three in
    record {
      some-output = omega (arith, eqb-false t.outputs 0 (neither_left no_output no-input two));
      some-input = omega (arith, eqb-false t.inputs 0 (neither_right no_output no-input two));
      on-output = each_at t.outputs (λ o. total (on_output t o))
          (not-false outputs (neither_right (no_output || no-input) (not outputs) three));
      on-input = each_at t.inputs (λ i. total (on_input t i))
          (not-false inputs (neither_right (no_output || no-input || not outputs) (not inputs) p));
    }

pub leads-of : (t : Table) → Leads t → gap t ≡ false
unfolding gap
leads-of t l =
    rw (
      ne_eqb t.outputs 0 (omega (arith, l.some-output)),
      ne_eqb t.inputs 0 (omega (arith, l.some-input)),
      each_of t.outputs (λ o. total (on_output t o)) l.on-output,
      each_of t.inputs (λ i. total (on_input t i)) l.on-input,
    ) refl
