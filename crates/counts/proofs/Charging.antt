-- The counts of a word charged with the marks in another. Where a count is present its byte of the mask lets the mark through, and a byte
-- has room for both, since the counts were brought to at most K + 2 before; so each byte is the sum, by induction on the bytes. Brought to
-- at most K + 2 again, it is what the definition charges. And a position is safe if it is below a word of one count. Assumes nothing.
use mathlib.Core.Path.{◌≡◌, refl, ap, ◌∙◌}
use mathlib.Core.Bool.{Bool, true, false, cond}
use mathlib.Core.List.{[], ◌∷◌}
use Prim.Native.Nat.{ℕ, zero, suc, ◌+◌, ◌*◌, ◌/◌, ◌%◌, ◌^◌, ◌≤◌, ◌<◌, min}
use native.Mathlib.Omega.{arith}
use borrow.Author.Tests.{le-leb}
use lib.Bits.{bit_and, and_zero_r, and_le_r}
use lib.Dec.{leb}
use lib.ListN.{length}
use Rattle.meaning.specs.Counting.{Position, count, plus, safe, below}
use Rattle.meaning.proofs.Tests.{same_test}
use Rattle.meaning.proofs.Steps.{below_at, below_of, safe_at, safe-of}
use Rattle.counts.specs.Halves.{lesser_counts}
use Rattle.counts.specs.Words.{counts_before, counts_in, flags, Charged}
use Rattle.counts.proofs.Lesser.{lesser_at}
use Rattle.counts.proofs.Bytes.{counts_in-length, last-count, bytes, and_byte, and_count, and_counts, flags_low, flags-whole}
use Rattle.counts.proofs.Bars.{ones, all-counts}

-- the highest count in each of the last n bytes with a count
abbrev present : ℕ → ℕ → ℕ
present n low = flags n (bytes n 1) low / 128 * 127

present-next : (n low : ℕ) → present (suc n) low ≡ present n (low / 256) * 256 + cond (leb 1 (low % 128)) 127 0
unfolding flags
present-next n low =
    let high : (bytes n 1 * 256 + 1) / 256 ≡ bytes n 1 = omega arith in
    let last : (bytes n 1 * 256 + 1) % 128 ≡ 1 = omega arith in
    rw (high, last) (next (leb 1 (low % 128)) (flags n (bytes n 1) (low / 256)) (flags-whole n (bytes n 1) (low / 256)))
  where
    next : (t : Bool) (f : ℕ) → f / 128 * 128 ≡ f → (f * 256 + cond t 128 0) / 128 * 127 ≡ f / 128 * 127 * 256 + cond t 127 0
    next true f e = omega arith
    next false f e = omega arith

-- the counts of a word, each with its mark if it is present
abbrev pub paid : ℕ → ℕ → ℕ → ℕ
paid n low marks = bit_and low (bytes n 127) + bit_and marks (present n low)

abbrev with_mark : ℕ → ℕ → ℕ
with_mark c mark = c + cond (leb 1 c) mark 0

-- it fits
pub paid-fits : (low marks : ℕ) → paid 8 low marks < 2 ^ 64
paid-fits low marks =
    omega (arith, and_le_r low (bytes 8 127), and_le_r marks (present 8 low), flags_low 8 (bytes 8 1) low)

-- byte by byte
let_through : (t : Bool) (m : ℕ) → bit_and (m % 256) (cond t 127 0) ≡ cond t (m % 128) 0
let_through true m = and_count (m % 256) ∙ omega arith
let_through false m = and_zero_r (m % 256)

let-less : (t : Bool) (m : ℕ) → (cond t 127 0 < 256) × (cond t (m % 128) 0 < 128)
let-less true m = (omega arith, omega arith)
let-less false m = (omega arith, omega arith)

paid-next : (n low marks : ℕ)
    → paid (suc n) low marks ≡ paid n (low / 256) (marks / 256) * 256 + with_mark (low % 128) (marks % 128)
paid-next n low marks =
    let t = leb 1 (low % 128) in
    let mark = ap (bit_and marks) (present-next n low) ∙ and_byte marks (present n (low / 256)) (cond t 127 0) (let-less t marks).0 in
    omega (arith, mark, and_counts n low, let_through t marks)

paid-before : (n low marks : ℕ) (F G H : Position) → ((q : ℕ) → count H q ≡ with_mark (count F q) (count G q) % 128)
    → (q : ℕ) → count (counts_before n (paid n low marks) H) q
    ≡ with_mark (count (counts_before n low F) q) (count (counts_before n marks G) q) % 128
unfolding counts_before
paid-before zero low marks F G H h q = h q
paid-before (suc n) low marks F G H h q =
    let c = with_mark (low % 128) (marks % 128) in
    ap (λ w. count (counts_before (suc n) w H) q) (paid-next n low marks)
    ∙ ap (λ (L : Position). count L q)
    (last-count n (paid n (low / 256) (marks / 256)) c H (omega (arith, (let-less (leb 1 (low % 128)) marks).1)))
    ∙ paid-before n (low / 256) (marks / 256) (low % 128 ∷ F) (marks % 128 ∷ G) (c % 128 ∷ H) go q
  where
    go : (q : ℕ) → count (with_mark (low % 128) (marks % 128) % 128 ∷ H) q
        ≡ with_mark (count (low % 128 ∷ F) q) (count (marks % 128 ∷ G) q) % 128
    go zero = refl
    go (suc q) = h q

paid-counts : (low marks q : ℕ)
    → count (counts_in (paid 8 low marks)) q ≡ with_mark (count (counts_in low) q) (count (counts_in marks) q) % 128
unfolding counts_in
paid-counts low marks q = paid-before 8 low marks [] [] [] (λ _. refl) q

-- one count: brought to at most K + 2, charged, and brought there again
charge : (K mark c : ℕ) → K ≤ 7 → mark ≤ 100 → min (with_mark (min c (K + 2)) mark % 128) (K + 2) ≡ plus K mark c
unfolding plus
charge K mark zero patient low =
    let none : min 0 (K + 2) ≡ 0 = omega arith in
    rw none (omega arith)
charge K mark (suc c) patient low =
    rw (le-leb 1 (min (suc c) (K + 2)) (omega arith)) (omega arith)

pub charged_with : (K marks most low r : ℕ) → K ≤ 7
    → counts_in low ≡ lesser_counts (counts_in most) (counts_in ((K + 2) * ones))
    → counts_in r ≡ lesser_counts (counts_in (paid 8 low marks)) (counts_in ((K + 2) * ones)) → Charged K marks most r
charged_with K marks most low r patient lowered least q l cheap =
    let top = counts_in ((K + 2) * ones) in
    let high : count top q ≡ K + 2 = all-counts (K + 2) q (omega arith) l in
    let c = count (counts_in most) q in
    let under : count (counts_in low) q ≡ min c (K + 2)
    = ap (λ (F : Position). count F q) lowered ∙ lesser_at (counts_in most) top q ∙ ap (min c) high in
    ap (λ (F : Position). count F q) least ∙ lesser_at (counts_in (paid 8 low marks)) top q
    ∙ rw (high, paid-counts low marks q, under) (charge K (count (counts_in marks) q) c patient cheap)

-- safe exactly if below K everywhere
pub safe_words : (K word : ℕ) → K ≤ 7 → below (counts_in word) (counts_in ((K + 1) * ones)) ≡ safe K (counts_in word)
safe_words K word patient =
    let F = counts_in word in
    let brim = counts_in ((K + 1) * ones) in
    let top : (q : ℕ) → q < length F → count brim q ≡ K + 1
    = λ q l. all-counts (K + 1) q (omega arith) (omega (arith, counts_in-length word)) in
    same_test (below F brim) (safe K F)
    (λ b. safe-of K F (λ q l. omega (arith, below_at F brim b q, top q l)))
    (λ s. below_of F brim (λ q l. omega (arith, safe_at K F s q, top q l)))
