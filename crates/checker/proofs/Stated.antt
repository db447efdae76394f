-- The words that are made of a table state its halves of a round: the spread of a byte of targets has the highest count exactly at its
-- bits, and the edges join states of their sides. Past the eighth letter there are no bytes. Assumes nothing.
use mathlib.Core.Path.{◌≡◌, sym, ap, ◌∙◌}
use mathlib.Core.Bool.{true}
use mathlib.Core.List.{List}
use Prim.Native.Nat.{ℕ, ◌+◌, ◌*◌, ◌≤◌, ◌<◌}
use native.Mathlib.Omega.{arith}
use borrow.Author.Tests.{lt-ltb}
use lib.ListN.{get_or}
use Rattle.meaning.specs.Counting.{Position, count}
use Rattle.counts.specs.Words.{counts_in, mark_counts, SpreadsOf, StatedIn}
use Rattle.counts.proofs.Spreads.{spread_at, marks-at}
use Rattle.table.specs.declared.Table as D
use Rattle.table.specs.Packed.{edge_in, table_in}
use Rattle.table.proofs.Unpacked.{no_ninth_letter}
use Rattle.checker.specs.Followable.{Followable}
use Rattle.checker.specs.Stepped.{Steps}
use Rattle.checker.specs.declared.lead.Turn.{Turn}

-- one half, of bytes of targets and marks
stated : (bytes marks spreads : List ℕ) (word letter sources targets : ℕ) → SpreadsOf bytes spreads → counts_in word ≡ mark_counts marks
    → sources ≤ 8 → ((p q : ℕ) → edge_in bytes letter p q ≡ true → (p < sources) × (q < targets))
    → StatedIn spreads letter word
    (record { sources = sources; targets = targets; edge = edge_in bytes letter; mark = λ (q : ℕ). get_or marks q 0 })
stated bytes marks spreads word letter sources targets all same few ends =
    record {
      sources = few;
      ends = ends;
      edges = λ known p q l b.
          ap (λ (F : Position). count F q) (all.spread (letter * 8 + p) (omega arith)) ∙ spread_at (get_or bytes (letter * 8 + p) 0) q b
          ∙ sym (rw (lt-ltb p 8 l));
      letters = λ past p q. no_ninth_letter bytes letter p q all.all past;
      mark = λ q l. ap (λ (F : Position). count F q) same ∙ marks-at marks q l;
    }

-- both, of a table
pub steps-stated : (K : ℕ) (table : D.Table) (rows : List ℕ) → Followable K (table_in table) rows → (outputs inputs : Turn)
    → SpreadsOf table.output_targets outputs.spreads → counts_in outputs.marks ≡ mark_counts table.world_marks
    → SpreadsOf table.input_targets inputs.spreads → counts_in inputs.marks ≡ mark_counts table.controller_marks
    → Steps (table_in table) outputs inputs
unfolding table_in
steps-stated K table rows f outputs inputs out-spreads out-marks in-spreads in-marks =
    record {
      on-outputs = λ o.
          stated table.output_targets table.world_marks outputs.spreads outputs.marks o table.controllers table.worlds out-spreads out-marks
          f.bounded.small.controllers (λ p q e. let w = f.good.output-ends o p q e in (w.1, w.2));
      on-inputs = λ i.
          stated table.input_targets table.controller_marks inputs.spreads inputs.marks i table.worlds table.controllers in-spreads in-marks
          f.bounded.small.worlds (λ p q e. let w = f.good.input-ends i p q e in (w.1, w.2));
    }
