-- Two words compared: their top bits tell both tests of below, and these tell the comparison (meaning's Compared.antt), since two words
-- have as many counts. Assumes nothing.
use mathlib.Core.Path.{◌≡◌, sym, ap, ap₂, ◌∙◌}
use mathlib.Core.Bool.{Bool}
use Prim.Native.Nat.{ℕ}
use lib.Dec.{eqb}
use lib.ListN.{length}
use Rattle.meaning.specs.declared.Comparison.{Comparison}
use Rattle.meaning.specs.Counting.{below}
use Rattle.meaning.specs.Compared.{compared, at_most}
use Rattle.meaning.proofs.Compared.{told, compared_tests, at-most-below}
use Rattle.counts.specs.Words.{counts_in, flags}
use Rattle.counts.proofs.Bytes.{bytes, counts_in-length, below_words}

pub as_long : (a b : ℕ) → length (counts_in a) ≡ length (counts_in b)
as_long a b = counts_in-length a ∙ sym (counts_in-length b)

pub compared_words : (a b : ℕ) →
    compared (counts_in a) (counts_in b) ≡ told (eqb (flags 8 a b) (bytes 8 128)) (eqb (flags 8 b a) (bytes 8 128))
compared_words a b =
    compared_tests (counts_in a) (counts_in b) (as_long a b) ∙ ap₂ told (sym (below_words a b)) (sym (below_words b a))

-- what a caller that asks for at most learns
pub at-most_words : (a b : ℕ) {answer : Bool} {comparison : Comparison} → answer ≡ at_most comparison
    → comparison ≡ compared (counts_in a) (counts_in b) → answer ≡ below (counts_in a) (counts_in b)
at-most_words a b asked given = asked ∙ ap at_most given ∙ at-most-below (counts_in a) (counts_in b) (as_long a b)
