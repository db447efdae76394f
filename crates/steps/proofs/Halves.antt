-- The half of a round that masks of one letter and marks state is the table's: an edge is a bit of the byte of its letter and state, and
-- there is none from a ninth state. Assumes nothing.
use mathlib.Core.Path.{◌≡◌, ap, ◌∙◌}
use mathlib.Core.List.{List}
use Prim.Native.Nat.{ℕ, ◌+◌, ◌*◌, ◌<◌}
use native.Mathlib.Decide.{dec_lt}
use native.Mathlib.Omega.{arith}
use borrow.Author.Tests.{lt-ltb, le-ltb}
use lib.ListN.{get_or}
use Rattle.meaning.specs.Lists.{tab}
use Rattle.meaning.specs.Table.{bit}
use Rattle.meaning.proofs.Lists.{tab-at, tab_beyond}
use Rattle.masks.proofs.Masks.{bit-none}
use Rattle.counts.specs.Halves.{half_of}
use Rattle.counts.specs.declared.position.Half.{Half}
use Rattle.table.specs.Packed.{edge_in}

-- the bytes of one letter
abbrev pub masks_on : List ℕ → ℕ → List ℕ
masks_on targets letter = tab 8 (λ p. get_or targets (letter * 8 + p) 0)

pub edge_on : (targets : List ℕ) (letter p q : ℕ) → bit (get_or (masks_on targets letter) p 0) q ≡ edge_in targets letter p q
edge_on targets letter p q = go (dec_lt p 8)
  where
    go : Dec (p < 8) → bit (get_or (masks_on targets letter) p 0) q ≡ edge_in targets letter p q
    go (yes h) = rw (lt-ltb p 8 h, tab-at 8 (λ p. get_or targets (letter * 8 + p) 0) p 0 h)
    go (no h) = rw (le-ltb p 8 (omega arith), tab_beyond 8 (λ p. get_or targets (letter * 8 + p) 0) p 0 (omega arith)) (bit-none q)

-- sizes and marks as the table has them, and the masks of one letter
pub half-stated : (half : Half) (targets : List ℕ) (letter : ℕ) → half.masks ≡ masks_on targets letter
    → half_of half
    ≡ record { sources = half.sources; targets = half.targets; edge = edge_in targets letter; mark = λ (q : ℕ). get_or half.marks q 0 }
unfolding half_of
half-stated half targets letter e = λ i. record {
  sources = half.sources;
  targets = half.targets;
  edge = λ p q. (ap (λ (masks : List ℕ). bit (get_or masks p 0) q) e ∙ edge_on targets letter p q) i;
  mark = λ q. get_or half.marks q 0;
}
