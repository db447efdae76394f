-- Positions in 64-bit words: a byte for each count, one higher, the first in the highest. A byte's top bit is no part of its count.
use Rattle.std.specs.Prelude.{◌≡◌, true, false, cond, List, [], ◌∷◌, ℕ, zero, suc, ◌+◌, ◌*◌, ◌/◌, ◌%◌, ◌≤◌, ◌<◌, min, leb, length, get_or}
use Rattle.meaning.specs.Lists.{tab}
use Rattle.meaning.specs.Table.{Half, bit}
use Rattle.meaning.specs.Counting.{Position, count, plus, forward}
use Rattle.meaning.specs.Written.{position_bytes}

-- the counts of the last n bytes of a number, before some more counts
unfoldable pub counts_before : ℕ → ℕ → Position → Position
counts_before zero w rest = rest
counts_before (suc n) w rest = counts_before n (w / 256) (w % 128 ∷ rest)

-- the eight counts in a word
unfoldable pub counts_in : ℕ → Position
counts_in w = counts_before 8 w []

-- the counts of a word are the bytes that were given for its eight places, each without its top bit
abbrev pub CountsGiven : (ℕ → ℕ → Type 0) → ℕ → Type 0
CountsGiven given word = (q : ℕ) → q < 8 → (byte : ℕ) × given q byte × (count (counts_in word) q ≡ byte % 128)

-- in the top bit of each of the last n bytes whether the one's count is at most the other's
unfoldable pub flags : ℕ → ℕ → ℕ → ℕ
flags zero a b = 0
flags (suc n) a b = flags n (a / 256) (b / 256) * 256 + cond (leb (a % 128) (b % 128)) 128 0

-- for a target q: no count at the sources with an edge to it, and the highest at the others
unfoldable pub bar_counts : List ℕ → ℕ → Position
bar_counts masks q = tab 8 (λ p. cond (bit (get_or masks p 0) q) 0 127)

-- the words of a side's targets are their bars
abbrev pub BarsOf : List ℕ → ℕ → List ℕ → Type 0
BarsOf masks targets words = (q : ℕ) → q < targets → q < 8 → counts_in (get_or words q 0) ≡ bar_counts masks q

-- for a source's byte of targets: the highest count at each of them, and none elsewhere
unfoldable pub spread_counts : ℕ → Position
spread_counts mask = tab 8 (λ q. cond (bit mask q) 127 0)

-- the words of a table's 64 bytes of targets are their spreads
pub record SpreadsOf (targets words : List ℕ) : Type 0 where
  pub all : length targets ≡ 64
  pub spread : (i : ℕ) → i < 64 → counts_in (get_or words i 0) ≡ spread_counts (get_or targets i 0)

-- the marks of eight states, each at most 100: every count that is charged with more overruns K as well
unfoldable pub mark_counts : List ℕ → Position
mark_counts marks = tab 8 (λ q. min (get_or marks q 0) 100)

-- the counts of one word, charged with the marks in another
abbrev pub Charged : ℕ → ℕ → ℕ → ℕ → Type 0
Charged K marks most r =
    (q : ℕ) → q < 8 → count (counts_in marks) q ≤ 100
    → count (counts_in r) q ≡ plus K (count (counts_in marks) q) (count (counts_in most) q)

-- Half a round that words state: the spread of a source has the highest count exactly at the targets of its edges, and a word has the
-- marks; past the eighth letter there are no spreads, and no edges
pub record StatedIn (spreads : List ℕ) (letter marks : ℕ) (h : Half) : Type 0 where
  pub sources : h.sources ≤ 8
  pub ends : (p q : ℕ) → h.edge p q ≡ true → (p < h.sources) × (q < h.targets)
  pub edges : letter < 8 → (p q : ℕ) → p < 8 → q < 8 → count (counts_in (get_or spreads (letter * 8 + p) 0)) q ≡ cond (h.edge p q) 127 0
  pub letters : 8 ≤ letter → (p q : ℕ) → h.edge p q ≡ false
  pub mark : (q : ℕ) → q < 8 → count (counts_in marks) q ≡ min (h.mark q) 100

-- the step forward by whatever half they state
abbrev pub SteppedForward : List ℕ → ℕ → ℕ → ℕ → ℕ → ℕ → Type 0
SteppedForward spreads letter marks K word r =
    (h : Half) → StatedIn spreads letter marks h → counts_in r ≡ position_bytes (forward K h (counts_in word))
