-- The step forward in words. A mask is spread over its targets by its bits all at once, which is tried at each of the 256 masks
-- (`spread_words`). A spread that shares its bits with a word of one count in every byte leaves that count to the source's targets alone;
-- so the greatest of these over the sources is the largest count that reaches each target (`Arrived`). Charging it once is the same as
-- charging each before, since what is charged for a count only rises with it; and where words state a half of a round, that is its step
-- (`stepped_forward`). Count by count. Assumes nothing.
use mathlib.Core.Path.{◌≡◌, refl, sym, ap, ap₂, ◌∙◌}
use mathlib.Core.Bool.{Bool, true, false, cond}
use mathlib.Core.List.{List, [], ◌∷◌}
use Prim.Native.Nat.{ℕ, zero, suc, ◌+◌, ◌-◌, ◌*◌, ◌/◌, ◌%◌, ◌^◌, ◌≤◌, ◌<◌, max, min}
use native.Mathlib.Nat.{div-one}
use native.Mathlib.Decide.{dec_lt, dec_le}
use native.Mathlib.Omega.{arith}
use borrow.Author.Tests.{lt-ltb, le-ltb, eqb-true}
use lib.Dec.{eqb}
use lib.Bits.{bit_and, and_comm, and_mask, and_zero_l}
use lib.ListN.{length, get_or}
use lib.Pow.{shr-shr}
use Rattle.meaning.specs.Lists.{each, largest}
use Rattle.meaning.specs.Table.{Half, bit}
use Rattle.meaning.specs.Counting.{Position, count, plus, forward}
use Rattle.meaning.specs.Written.{position_bytes}
use Rattle.meaning.proofs.Tests.{refuted, each_at, largest-same, largest-zero}
use Rattle.meaning.proofs.Lists.{tab-at, tab-same}
use Rattle.meaning.proofs.Steps.{count-nowhere, count_beyond, same-counts, plus_mono, plus_none, forward-length, forward-at}
use Rattle.counts.specs.Halves.{greater_counts}
use Rattle.counts.specs.Words.{counts_before, counts_in, spread_counts, mark_counts, Charged, StatedIn, SteppedForward}
use Rattle.counts.proofs.Edges.{within, largest-next, largest-within}
use Rattle.counts.proofs.Wide.{wide_length, wide_at}
use Rattle.counts.proofs.Lesser.{greater-at}
use Rattle.counts.proofs.Bytes.{counts_in-length, counts_in-low}
use Rattle.counts.proofs.Made.{number, counts-of_number, chosen_low}
use Rattle.counts.proofs.Bars.{ones, all-counts, shared_counts}

-- a spread's counts, by the code's test of each target's bit
abbrev spread_to : ℕ → ℕ → ℕ
spread_to mask q = cond (bit mask q) 127 0

module _ (mask : ℕ) where
  pub spread_at : (q : ℕ) → q < 8 → count (spread_counts mask) q ≡ spread_to mask q
  unfolding spread_counts
  spread_at q l = tab-at 8 (spread_to mask) q 0 l

-- each byte keeps its own state's bit of the mask, and is raised past its counts if that is set
abbrev pub raised : ℕ → ℕ
raised mask = bit_and (bit_and (mask * ones) 72624976668147840 + 9187201950435737471) 9259542123273814144 / 128 * 127

-- tried at each mask that eight bits have
tried : each 256 (λ mask. eqb (raised mask) (number 8 (spread_to mask))) ≡ true
unfolding bit
tried = refl

pub spread_words : (mask : ℕ) → mask < 256 → counts_in (raised mask) ≡ spread_counts mask
unfolding counts_in spread_counts
spread_words mask l =
    let low : (q : ℕ) → spread_to mask q < 128 = λ q. chosen_low (bit mask q) 127 0 (omega arith) (omega arith) in
    ap (λ word. counts_before 8 word []) (eqb-true _ _ (each_at 256 (λ mask. eqb (raised mask) (number 8 (spread_to mask))) tried mask l))
    ∙ counts-of_number 8 (spread_to mask) [] (λ q. omega (arith, low q))
    ∙ tab-same 8 (λ q. spread_to mask q % 128) (spread_to mask) (λ q _. omega (arith, low q))

-- and the counts of a word of marks
module _ (marks : List ℕ) where
  pub marks-at : (q : ℕ) → q < 8 → count (mark_counts marks) q ≡ min (get_or marks q 0) 100
  unfolding mark_counts
  marks-at q l = tab-at 8 (λ q. min (get_or marks q 0) 100) q 0 l

-- the count of p is found p bytes from the front
count-after : (n w : ℕ) (rest : Position) (i : ℕ) → count (counts_before n w rest) (n + i) ≡ count rest i
unfolding counts_before
count-after zero w rest i = ap (count rest) (omega arith)
count-after (suc n) w rest i =
    ap (count (counts_before n (w / 256) (w % 128 ∷ rest))) (omega arith) ∙ count-after n (w / 256) (w % 128 ∷ rest) (suc i)

byte-before : (n w : ℕ) (rest : Position) (p shift : ℕ) → shift + 8 * suc p ≡ 8 * n → count (counts_before n w rest) p ≡ w / 2 ^ shift % 128
unfolding counts_before
byte-before zero w rest p shift e = absurd (omega arith)
byte-before (suc n) w rest p shift e = go (dec_le 8 shift) (byte-before n (w / 256) (w % 128 ∷ rest) p (shift - 8))
  where
    go : Dec (8 ≤ shift)
        → (shift - 8 + 8 * suc p ≡ 8 * n → count (counts_before n (w / 256) (w % 128 ∷ rest)) p ≡ w / 256 / 2 ^ (shift - 8) % 128)
        → count (counts_before n (w / 256) (w % 128 ∷ rest)) p ≡ w / 2 ^ shift % 128
    go (yes l) further =
        further (omega arith)
        ∙ ap (λ x. x % 128) (shr-shr w 8 (shift - 8) ∙ ap (λ s. w / 2 ^ s) (omega arith))
    go (no l) further =
        let last : shift ≡ 0 = omega arith in
        ap (count (counts_before n (w / 256) (w % 128 ∷ rest))) (omega arith)
        ∙ count-after n (w / 256) (w % 128 ∷ rest) 0 ∙ ap (λ x. x % 128) (sym (rw last (div-one w)))

pub byte-count : (w p : ℕ) → p < 8 → w / 2 ^ (56 - 8 * p) % 128 ≡ count (counts_in w) p
unfolding counts_in
byte-count w p l = sym (byte-before 8 w [] p (56 - 8 * p) (omega arith))

-- the word 0 has none
pub none_in : (q : ℕ) → count (counts_in 0) q ≡ 0
unfolding counts_in counts_before
none_in q = count-nowhere 8 q

-- what source p brings to target q, before the mark
abbrev brings : List ℕ → ℕ → ℕ → ℕ → ℕ → ℕ
brings spreads letter word q p = bit_and (count (counts_in (get_or spreads (letter * 8 + p) 0)) q) (count (counts_in word) p)

-- a word whose counts are the largest that the sources before p bring
abbrev pub Arrived : List ℕ → ℕ → ℕ → ℕ → ℕ → Type 0
Arrived spreads letter word p most = (q : ℕ) → q < 8 → count (counts_in most) q ≡ largest p (brings spreads letter word q)

module _ (spreads : List ℕ) (letter word : ℕ) where
  pub arrived_none : Arrived spreads letter word 0 0
  arrived_none q l = none_in q

  -- one more source, by its spread and its count in every byte
  pub arrived_next : (p most c r : ℕ) → Arrived spreads letter word p most → c ≡ count (counts_in word) p
      → counts_in r ≡ greater_counts (counts_in most) (counts_in (bit_and (get_or spreads (letter * 8 + p) 0) (c * ones)))
      → Arrived spreads letter word (p + 1) r
  arrived_next p most c r before count-is greater q l =
      let one = get_or spreads (letter * 8 + p) 0 in
      let under : c ≤ 127 = omega (arith, count-is, counts_in-low word p) in
      let same : length (counts_in most) ≡ length (counts_in (bit_and one (c * ones)))
      = counts_in-length most ∙ sym (counts_in-length (bit_and one (c * ones))) in
      ap (λ (F : Position). count F q) greater ∙ greater-at (counts_in most) (counts_in (bit_and one (c * ones))) same q
      ∙ ap₂ max (before q l)
      (shared_counts one (c * ones) q ∙ ap (bit_and (count (counts_in one) q)) (all-counts c q under l ∙ count-is))
      ∙ sym (largest-next (brings spreads letter word q) p _ refl)

  -- a source where no run is brings nothing
  pub arrived_skip : (p most c : ℕ) → Arrived spreads letter word p most → c ≡ count (counts_in word) p → c ≡ 0
      → Arrived spreads letter word (p + 1) most
  arrived_skip p most c before count-is none q l =
      let f = brings spreads letter word q in
      let spread = count (counts_in (get_or spreads (letter * 8 + p) 0)) q in
      let nothing : f p ≡ 0 = ap (bit_and spread) (sym count-is ∙ none) ∙ and_comm spread 0 ∙ and_zero_l spread in
      let same : max (largest p f) 0 ≡ largest p f = omega arith in
      before q l ∙ sym (largest-next f p 0 nothing ∙ same)

-- the largest of what rises with a number is what the largest has
plus-largest : (K mark n : ℕ) (f : ℕ → ℕ) → plus K mark (largest n f) ≡ largest n (λ i. plus K mark (f i))
plus-largest K mark zero f = plus_none K mark
plus-largest K mark (suc n) f = greater (largest n f) (f n) ∙ ap (λ x. max x (plus K mark (f n))) (plus-largest K mark n f)
  where
    greater : (a b : ℕ) → plus K mark (max a b) ≡ max (plus K mark a) (plus K mark b)
    greater a b = go (dec_le a b)
      where
        go : Dec (a ≤ b) → plus K mark (max a b) ≡ max (plus K mark a) (plus K mark b)
        go (yes l) = let e : max a b ≡ b = omega arith in ap (plus K mark) e ∙ omega (arith, plus_mono K mark a b l)
        go (no l) = let e : max a b ≡ a = omega arith in ap (plus K mark) e ∙ omega (arith, plus_mono K mark b a (omega arith))

-- more than 100 charges as 100 does
plus_capped : (K mark c : ℕ) → K ≤ 7 → plus K (min mark 100) c ≡ plus K mark c
unfolding plus
plus_capped K mark zero patient = refl
plus_capped K mark (suc c) patient = omega arith

-- over an edge a count is charged, and else there is none
over-edge : (b : Bool) (K mark c : ℕ) → c ≤ 127 → plus K mark (bit_and (cond b 127 0) c) ≡ cond b (plus K mark c) 0
over-edge true K mark c low =
    let same : bit_and 127 c ≡ c = and_comm 127 c ∙ and_mask c 7 ∙ omega arith in
    ap (plus K mark) same
over-edge false K mark c low = ap (plus K mark) (and_zero_l c) ∙ plus_none K mark

-- where words state a half of a round, what arrives and is charged is its step
module _ (K word : ℕ) (spreads : List ℕ) (letter marks : ℕ) (h : Half) (stated : StatedIn spreads letter marks h) where
  abbrev brought : ℕ → ℕ → ℕ
  brought q p = cond (h.edge p q) (plus K (h.mark q) (count (counts_in word) p)) 0

  no_edge : (p q : ℕ) → ((p < h.sources) × (q < h.targets) → ⊥) → brought q p ≡ 0
  no_edge p q none = rw (refuted (h.edge p q) (λ e. none (stated.ends p q e)))

  all-sources : (q : ℕ) → largest 8 (brought q) ≡ largest h.sources (brought q)
  all-sources q =
      largest-same 8 (brought q) (within h.sources 0 (brought q)) (λ p _. go p (dec_lt p h.sources))
      ∙ largest-within 8 h.sources (brought q) (λ p l. no_edge p q (λ e. omega (arith, e.0, stated.sources)))
    where
      go : (p : ℕ) → Dec (p < h.sources) → brought q p ≡ within h.sources 0 (brought q) p
      go p (yes l) = rw (lt-ltb p h.sources l)
      go p (no l) = no_edge p q (λ e. l e.0) ∙ sym (rw (le-ltb p h.sources (omega arith)))

  -- what the sources bring, charged, is the count after the step
  counted : (q : ℕ) → largest h.sources (brought q) ≡ count (forward K h (counts_in word)) q
  counted q = go (dec_lt q h.targets)
    where
      go : Dec (q < h.targets) → largest h.sources (brought q) ≡ count (forward K h (counts_in word)) q
      go (yes inside) = sym (forward-at K h (counts_in word) q inside)
      go (no outside) =
          largest-same h.sources (brought q) (λ _. 0) (λ p _. no_edge p q (λ e. outside e.1))
          ∙ largest-zero h.sources
          ∙ sym (count_beyond (forward K h (counts_in word)) q (rw (forward-length K h (counts_in word)) (omega arith)))

  arrivals : (q : ℕ) → letter < 8 → q < 8
      → plus K (h.mark q) (largest 8 (brings spreads letter word q)) ≡ count (forward K h (counts_in word)) q
  arrivals q known l =
      plus-largest K (h.mark q) 8 (brings spreads letter word q)
      ∙ largest-same 8 _ (brought q)
      (λ p b. ap (λ x. plus K (h.mark q) (bit_and x (count (counts_in word) p))) (stated.edges known p q b l)
      ∙ over-edge (h.edge p q) K (h.mark q) (count (counts_in word) p) (counts_in-low word p))
      ∙ all-sources q ∙ counted q

  -- in eight counts
  in_eight : (r : ℕ) → ((q : ℕ) → q < 8 → count (counts_in r) q ≡ count (forward K h (counts_in word)) q)
      → counts_in r ≡ position_bytes (forward K h (counts_in word))
  in_eight r each =
      same-counts (counts_in r) (position_bytes (forward K h (counts_in word)))
      (counts_in-length r ∙ sym (wide_length (forward K h (counts_in word))))
      (λ q b. let l : q < 8 = rw (counts_in-length r) at b in each q l ∙ sym (wide_at (forward K h (counts_in word)) q l))

pub stepped_forward : (K word : ℕ) (spreads : List ℕ) (letter marks most r : ℕ) → K ≤ 7 → letter < 8
    → Arrived spreads letter word 8 most → Charged K marks most r → SteppedForward spreads letter marks K word r
stepped_forward K word spreads letter marks most r patient known arrived charged h stated =
    in_eight K word spreads letter marks h stated r
    (λ q l. charged q l (omega (arith, stated.mark q l))
    ∙ ap₂ (plus K) (stated.mark q l) (arrived q l)
    ∙ plus_capped K (h.mark q) _ patient ∙ arrivals K word spreads letter marks h stated q known l)

-- past the eighth letter nothing arrives
pub no_letter : (K word : ℕ) (spreads : List ℕ) (letter marks : ℕ) → 8 ≤ letter → SteppedForward spreads letter marks K word 0
no_letter K word spreads letter marks past h stated =
    in_eight K word spreads letter marks h stated 0
    (λ q l. none_in q
    ∙ sym (largest-same h.sources (brought K word spreads letter marks h stated q) (λ _. 0) (λ p _. rw (stated.letters past p q))
    ∙ largest-zero h.sources)
    ∙ counted K word spreads letter marks h stated q)
