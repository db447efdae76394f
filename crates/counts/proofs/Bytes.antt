-- Positions in words: what the word's operations do to each byte, and so to each count. A number is its last byte and the rest, and the
-- bit operations work on the two apart; so each law goes by induction on the number of bytes, over any counts that come after them.
-- Assumes nothing.
use mathlib.Core.Path.{◌≡◌, refl, sym, ap, ap₂, ◌∙◌}
use mathlib.Core.Logic.{⊎_elim}
use mathlib.Core.Bool.{Bool, true, false, cond, ◌&&◌, ◌||◌, and-true, and-false, and_assoc, or-false}
use mathlib.Core.List.{[], ◌∷◌}
use Prim.Native.Nat.{ℕ, zero, suc, ◌+◌, ◌-◌, ◌*◌, ◌/◌, ◌%◌, ◌≤◌, ◌<◌, max, min, zero-le}
use native.Mathlib.Nat.{zero-add}
use native.Mathlib.Omega.{arith}
use lib.Bits.{bit_and, bit_or, and_zero_r, or_zero_r, and_le_l, and_le_r, or_add_and, and_mask, and_high, and_block, or_block}
use lib.Dec.{leb, ltb, eqb}
use lib.ListN.{length}
use lib.Pow.{split}
use borrow.Author.Tests.{leb-true, leb-false, le-leb, eqb-true, eq-eqb, ne_eqb}
use Rattle.meaning.specs.Lists.{before}
use Rattle.meaning.specs.Counting.{Position, count, below}
use Rattle.meaning.proofs.Tests.{both, both_left, both_right, same_test, cond_cases, ordered_cases, ordered_of}
use Rattle.meaning.proofs.Steps.{same-counts, below_at, below_of}
use Rattle.counts.specs.Halves.{lesser_counts, greater_counts}
use Rattle.counts.specs.Words.{counts_before, counts_in, flags}
use Rattle.counts.proofs.Lesser.{lesser_length, lesser_at, greater-length, greater-at}

-- eight counts
counts_before-length : (n w : ℕ) (rest : Position) → length (counts_before n w rest) ≡ n + length rest
unfolding counts_before
counts_before-length zero w rest = sym (zero-add (length rest))
counts_before-length (suc n) w rest = counts_before-length n (w / 256) (w % 128 ∷ rest) ∙ omega arith

pub counts_in-length : (w : ℕ) → length (counts_in w) ≡ 8
unfolding counts_in
counts_in-length w = counts_before-length 8 w []

-- each at most 127
counts_before-low : (n w : ℕ) (rest : Position) → ((p : ℕ) → count rest p ≤ 127) → (p : ℕ) → count (counts_before n w rest) p ≤ 127
unfolding counts_before
counts_before-low zero w rest low = low
counts_before-low (suc n) w rest low = counts_before-low n (w / 256) (w % 128 ∷ rest) go
  where
    go : (p : ℕ) → count (w % 128 ∷ rest) p ≤ 127
    go zero = omega arith
    go (suc p) = low p

pub counts_in-low : (w p : ℕ) → count (counts_in w) p ≤ 127
unfolding counts_in
counts_in-low w p = counts_before-low 8 w [] (λ _. zero-le) p

-- the last byte's count
pub last-count : (n w c : ℕ) (rest : Position) → c < 256 → counts_before (suc n) (w * 256 + c) rest ≡ counts_before n w (c % 128 ∷ rest)
unfolding counts_before
last-count n w c rest h = ap₂ (λ v d. counts_before n v (d ∷ rest)) (omega arith) (omega arith)

-- the number with the byte c in each of the last n
abbrev pub bytes : ℕ → ℕ → ℕ
bytes zero c = 0
bytes (suc n) c = bytes n c * 256 + c

bytes_le : (n c d : ℕ) → c ≤ d → bytes n c ≤ bytes n d
bytes_le zero c d h = zero-le
bytes_le (suc n) c d h = omega (arith, bytes_le n c d h)

-- the bit operations on a last byte and the rest
pub and_byte : (a m c : ℕ) → c < 256 → bit_and a (m * 256 + c) ≡ bit_and (a / 256) m * 256 + bit_and (a % 256) c
and_byte a m c h = ap (λ x. bit_and x (m * 256 + c)) (sym (split a 8)) ∙ and_block 8 (a / 256) m (a % 256) c (omega arith) h

or_byte : (a m c : ℕ) → c < 256 → bit_or a (m * 256 + c) ≡ bit_or (a / 256) m * 256 + bit_or (a % 256) c
or_byte a m c h = ap (λ x. bit_or x (m * 256 + c)) (sym (split a 8)) ∙ or_block 8 (a / 256) m (a % 256) c (omega arith) h

-- one byte: its count, its top bit, and its top bit set
pub and_count : (x : ℕ) → bit_and x 127 ≡ x % 128
and_count x = and_mask x 7

and_top : (x : ℕ) → bit_and x 128 ≡ x / 128 % 2 * 128
and_top x = and_high x 1 7

or_top : (x : ℕ) → x < 256 → bit_or x 128 ≡ 128 + x % 128
or_top x h = omega (arith, or_add_and x 128, and_top x)

-- the counts of a word alone, and its top bits set, byte by byte
pub and_counts : (n a : ℕ) → bit_and a (bytes (suc n) 127) ≡ bit_and (a / 256) (bytes n 127) * 256 + a % 128
and_counts n a = and_byte a (bytes n 127) 127 (omega arith) ∙ omega (arith, and_count (a % 256))

or_tops : (n b : ℕ) → bit_or b (bytes (suc n) 128) ≡ bit_or (b / 256) (bytes n 128) * 256 + (128 + b % 128)
or_tops n b = or_byte b (bytes n 128) 128 (omega arith) ∙ omega (arith, or_top (b % 256) (omega arith))

-- no byte borrows from the next
pub no_borrowing : (n a b : ℕ) → bit_and a (bytes n 127) ≤ bit_or b (bytes n 128)
no_borrowing n a b =
    omega (arith, and_le_r a (bytes n 127), bytes_le n 127 128 (omega arith), or_add_and b (bytes n 128), and_le_l b (bytes n 128))

-- the top bit that one byte is left with
top_left : (x y : ℕ) → x < 128 → y < 128 → bit_and (128 + y - x) 128 ≡ cond (leb x y) 128 0
top_left x y hx hy =
    and_top (128 + y - x)
    ∙ cond_cases (leb x y) 128 0 (λ z. (128 + y - x) / 128 % 2 * 128 ≡ z)
    (λ t. omega (arith, leb-true x y t)) (λ t. omega (arith, leb-false x y t))

-- so the difference has a top bit where the count is at most the other's
pub difference_flags : (n a b : ℕ) → bit_and (bit_or b (bytes n 128) - bit_and a (bytes n 127)) (bytes n 128) ≡ flags n a b
unfolding flags
difference_flags zero a b = and_zero_r (bit_or b 0 - bit_and a 0)
difference_flags (suc n) a b =
    let high = bit_or (b / 256) (bytes n 128) - bit_and (a / 256) (bytes n 127) in
    let low = 128 + b % 128 - a % 128 in
    let apart : bit_or b (bytes (suc n) 128) - bit_and a (bytes (suc n) 127) ≡ high * 256 + low
    = omega (arith, or_tops n b, and_counts n a, no_borrowing n (a / 256) (b / 256)) in
    ap (λ x. bit_and x (bytes (suc n) 128)) apart
    ∙ and_block 8 high (bytes n 128) low 128 (omega arith) (omega arith)
    ∙ ap₂ (λ x y. x * 256 + y) (difference_flags n (a / 256) (b / 256)) (top_left (a % 128) (b % 128) (omega arith) (omega arith))

pub flags_low : (n a b : ℕ) → flags n a b ≤ bytes n 128
unfolding flags
flags_low zero a b = zero-le
flags_low (suc n) a b =
    cond_cases (leb (a % 128) (b % 128)) 128 0 (λ z. flags n (a / 256) (b / 256) * 256 + z ≤ bytes (suc n) 128)
    (λ _. omega (arith, flags_low n (a / 256) (b / 256))) (λ _. omega (arith, flags_low n (a / 256) (b / 256)))

-- below: one count and the rest
below-first : (x y : ℕ) (F G : Position) → below (x ∷ F) (y ∷ G) ≡ (leb x y && below F G)
below-first x y F G =
    same_test (below (x ∷ F) (y ∷ G)) (leb x y && below F G)
    (λ t. both (leb x y) (below F G) (le-leb x y (below_at (x ∷ F) (y ∷ G) t 0)) (below_of F G (λ q _. below_at (x ∷ F) (y ∷ G) t (suc q))))
    (λ t. below_of (x ∷ F) (y ∷ G)
    (each-count (leb-true x y (both_left (leb x y) (below F G) t)) (below_at F G (both_right (leb x y) (below F G) t))))
  where
    each-count : x ≤ y → ((q : ℕ) → count F q ≤ count G q) → (q : ℕ) → q < length (x ∷ F) → count (x ∷ F) q ≤ count (y ∷ G) q
    each-count first rest zero l = first
    each-count first rest (suc q) l = rest q

-- all top bits are set if that of the last byte is, and all of the rest
all_set : (t : Bool) (f m : ℕ) → eqb (f * 256 + cond t 128 0) (m * 256 + 128) ≡ (eqb f m && t)
all_set true f m =
    same_test (eqb (f * 256 + 128) (m * 256 + 128)) (eqb f m && true)
    (λ e. both (eqb f m) true (eq-eqb f m (omega (arith, eqb-true (f * 256 + 128) (m * 256 + 128) e))) refl)
    (λ e. eq-eqb (f * 256 + 128) (m * 256 + 128) (omega (arith, eqb-true f m (both_left (eqb f m) true e))))
all_set false f m = ne_eqb (f * 256 + 0) (m * 256 + 128) (λ e. omega arith) ∙ sym (and-false (eqb f m))

below-flags : (n a b : ℕ) (r s : Position)
    → (eqb (flags n a b) (bytes n 128) && below r s) ≡ below (counts_before n a r) (counts_before n b s)
unfolding flags counts_before
below-flags zero a b r s = refl
below-flags (suc n) a b r s =
    let rest = eqb (flags n (a / 256) (b / 256)) (bytes n 128) in
    ap (λ t. t && below r s) (all_set (leb (a % 128) (b % 128)) (flags n (a / 256) (b / 256)) (bytes n 128))
    ∙ and_assoc rest (leb (a % 128) (b % 128)) (below r s)
    ∙ ap (λ t. rest && t) (sym (below-first (a % 128) (b % 128) r s))
    ∙ below-flags n (a / 256) (b / 256) (a % 128 ∷ r) (b % 128 ∷ s)

-- a word's counts are at most another's if all top bits are set
pub below_words : (a b : ℕ) → eqb (flags 8 a b) (bytes 8 128) ≡ below (counts_in a) (counts_in b)
unfolding counts_in below
below_words a b = sym (and-true (eqb (flags 8 a b) (bytes 8 128))) ∙ below-flags 8 a b [] []

-- the flags, spread over their bytes
abbrev pub spread : ℕ → ℕ → ℕ → ℕ
spread n a b = flags n a b / 128 * 255

pub flags-whole : (n a b : ℕ) → flags n a b / 128 * 128 ≡ flags n a b
unfolding flags
flags-whole zero a b = refl
flags-whole (suc n) a b =
    let rest = flags n (a / 256) (b / 256) in
    cond_cases (leb (a % 128) (b % 128)) 128 0 (λ z. (rest * 256 + z) / 128 * 128 ≡ rest * 256 + z)
    (λ _. omega arith) (λ _. omega arith)

spread-next : (n a b : ℕ) → spread (suc n) a b ≡ spread n (a / 256) (b / 256) * 256 + cond (leb (a % 128) (b % 128)) 255 0
unfolding flags
spread-next n a b = next (leb (a % 128) (b % 128)) (flags n (a / 256) (b / 256)) (flags-whole n (a / 256) (b / 256))
  where
    next : (t : Bool) (f : ℕ) → f / 128 * 128 ≡ f → (f * 256 + cond t 128 0) / 128 * 255 ≡ f / 128 * 255 * 256 + cond t 255 0
    next true f e = omega arith
    next false f e = omega arith

-- one number's bits where the mask is set, and else another's
abbrev pub chosen : ℕ → ℕ → ℕ → ℕ
chosen mask a b = bit_or (bit_and a mask) (b - bit_and b mask)

-- byte by byte
chosen-byte : (mask c a b : ℕ) → c < 256
    → chosen (mask * 256 + c) a b ≡ chosen mask (a / 256) (b / 256) * 256 + chosen c (a % 256) (b % 256)
chosen-byte mask c a b h =
    let kept : b - bit_and b (mask * 256 + c) ≡ (b / 256 - bit_and (b / 256) mask) * 256 + (b % 256 - bit_and (b % 256) c)
    = omega (arith, and_byte b mask c h, and_le_l (b / 256) mask, and_le_l (b % 256) c) in
    ap₂ bit_or (and_byte a mask c h) kept
    ∙ or_block 8 (bit_and (a / 256) mask) (b / 256 - bit_and (b / 256) mask) (bit_and (a % 256) c) (b % 256 - bit_and (b % 256) c)
    (omega (arith, and_le_l (a % 256) c)) (omega arith)

-- one byte is the one's where the flag is set, and else the other's
chosen_last : (t : Bool) (x y : ℕ)
    → (chosen (cond t 255 0) (x % 256) (y % 256) < 256) × (chosen (cond t 255 0) (x % 256) (y % 256) % 128 ≡ cond t (x % 128) (y % 128))
chosen_last true x y =
    let e : bit_and (x % 256) 255 ≡ x % 256 = and_mask (x % 256) 8 ∙ omega arith in
    let f : y % 256 - bit_and (y % 256) 255 ≡ 0 = omega (arith, and_mask (y % 256) 8) in
    rw (e, f, or_zero_r (x % 256)) (omega arith, omega arith)
chosen_last false x y = rw (and_zero_r (x % 256), and_zero_r (y % 256)) (omega arith, omega arith)

-- so each count is the one's where that of a is at most that of b, and else the other's
abbrev one_of : ℕ → ℕ → ℕ → ℕ → ℕ
one_of c d x y = cond (leb c d) x y

chosen-before : (n a b x y : ℕ) (F G X Y H : Position)
    → ((q : ℕ) → count H q ≡ one_of (count F q) (count G q) (count X q) (count Y q))
    → (q : ℕ) → count (counts_before n (chosen (spread n a b) x y) H) q
    ≡ one_of (count (counts_before n a F) q) (count (counts_before n b G) q) (count (counts_before n x X) q) (count (counts_before n y Y) q)
unfolding counts_before
chosen-before zero a b x y F G X Y H h q = h q
chosen-before (suc n) a b x y F G X Y H h q =
    let t = leb (a % 128) (b % 128) in
    let rest = spread n (a / 256) (b / 256) in
    let c = chosen (cond t 255 0) (x % 256) (y % 256) in
    let small : cond t 255 0 < 256 = cond_cases t 255 0 (λ m. m < 256) (λ _. omega arith) (λ _. omega arith) in
    ap (λ mask. count (counts_before (suc n) (chosen mask x y) H) q) (spread-next n a b)
    ∙ ap (λ w. count (counts_before (suc n) w H) q) (chosen-byte rest (cond t 255 0) x y small)
    ∙ ap (λ (L : Position). count L q) (last-count n (chosen rest (x / 256) (y / 256)) c H (chosen_last t x y).0)
    ∙ chosen-before n (a / 256) (b / 256) (x / 256) (y / 256) (a % 128 ∷ F) (b % 128 ∷ G) (x % 128 ∷ X) (y % 128 ∷ Y) (c % 128 ∷ H) go q
  where
    go : (q : ℕ) → count (chosen (cond (leb (a % 128) (b % 128)) 255 0) (x % 256) (y % 256) % 128 ∷ H) q
        ≡ one_of (count (a % 128 ∷ F) q) (count (b % 128 ∷ G) q) (count (x % 128 ∷ X) q) (count (y % 128 ∷ Y) q)
    go zero = (chosen_last (leb (a % 128) (b % 128)) x y).1
    go (suc q) = h q

chosen-counts : (a b x y q : ℕ) → count (counts_in (chosen (spread 8 a b) x y)) q
    ≡ one_of (count (counts_in a) q) (count (counts_in b) q) (count (counts_in x) q) (count (counts_in y) q)
unfolding counts_in
chosen-counts a b x y q = chosen-before 8 a b x y [] [] [] [] [] (λ _. refl) q

-- so the word chosen has the lesser counts, or the greater
pub lesser_words : (a b : ℕ) → counts_in (chosen (spread 8 a b) a b) ≡ lesser_counts (counts_in a) (counts_in b)
lesser_words a b =
    let F = counts_in a in
    let G = counts_in b in
    same-counts (counts_in (chosen (spread 8 a b) a b)) (lesser_counts F G)
    (counts_in-length _ ∙ sym (counts_in-length a) ∙ sym (lesser_length F G))
    (λ q _. chosen-counts a b a b q ∙ least (count F q) (count G q) ∙ sym (lesser_at F G q))
  where
    least : (c d : ℕ) → one_of c d c d ≡ min c d
    least c d = cond_cases (leb c d) c d (λ x. x ≡ min c d) (λ t. omega (arith, leb-true c d t)) (λ t. omega (arith, leb-false c d t))

pub greater_words : (a b : ℕ) → counts_in (chosen (spread 8 a b) b a) ≡ greater_counts (counts_in a) (counts_in b)
greater_words a b =
    let F = counts_in a in
    let G = counts_in b in
    let same : length F ≡ length G = counts_in-length a ∙ sym (counts_in-length b) in
    same-counts (counts_in (chosen (spread 8 a b) b a)) (greater_counts F G)
    (counts_in-length _ ∙ sym (counts_in-length a) ∙ sym (greater-length F G))
    (λ q _. chosen-counts a b b a q ∙ most (count F q) (count G q) ∙ sym (greater-at F G same q))
  where
    most : (c d : ℕ) → one_of c d d c ≡ max c d
    most c d = cond_cases (leb c d) d c (λ x. x ≡ max c d) (λ t. omega (arith, leb-true c d t)) (λ t. omega (arith, leb-false c d t))

-- one count and the rest decide the order: the rest first, since it stands in the higher bytes
higher_first : (x y c d : ℕ) (t : Bool) → c < 256 → d < 256
    → (ltb (x * 256 + c) (y * 256 + d) || eqb (x * 256 + c) (y * 256 + d) && t) ≡ (ltb x y || eqb x y && (ltb c d || eqb c d && t))
higher_first x y c d t hc hd =
    same_test (ltb (x * 256 + c) (y * 256 + d) || eqb (x * 256 + c) (y * 256 + d) && t) (ltb x y || eqb x y && (ltb c d || eqb c d && t))
    (λ b. ⊎_elim
    (λ (l : x * 256 + c < y * 256 + d). ordered_of x y (ltb c d || eqb c d && t) (omega arith)
    (λ e. ordered_of c d t (omega arith) (λ f. absurd (omega arith))))
    (λ k. let e : x * 256 + c ≡ y * 256 + d = k.0 in
    ordered_of x y (ltb c d || eqb c d && t) (omega arith) (λ _. ordered_of c d t (omega arith) (λ _. k.1)))
    (ordered_cases (x * 256 + c) (y * 256 + d) t b))
    (λ b. ⊎_elim
    (λ (l : x < y). ordered_of (x * 256 + c) (y * 256 + d) t (omega arith) (λ e. absurd (omega arith)))
    (λ k. let e : x ≡ y = k.0 in
    ⊎_elim
    (λ (l : c < d). ordered_of (x * 256 + c) (y * 256 + d) t (omega arith) (λ f. absurd (omega arith)))
    (λ j. let f : c ≡ d = j.0 in ordered_of (x * 256 + c) (y * 256 + d) t (omega arith) (λ _. j.1))
    (ordered_cases c d t k.1))
    (ordered_cases x y (ltb c d || eqb c d && t) b))

before-counts : (n a b : ℕ) (r s : Position)
    → (ltb (bit_and a (bytes n 127)) (bit_and b (bytes n 127)) || eqb (bit_and a (bytes n 127)) (bit_and b (bytes n 127)) && before r s)
    ≡ before (counts_before n a r) (counts_before n b s)
unfolding counts_before before
before-counts zero a b r s = rw (and_zero_r a, and_zero_r b)
before-counts (suc n) a b r s =
    let high-a = bit_and (a / 256) (bytes n 127) in
    let high-b = bit_and (b / 256) (bytes n 127) in
    rw (and_counts n a, and_counts n b)
    (higher_first high-a high-b (a % 128) (b % 128) (before r s) (omega arith) (omega arith)
    ∙ before-counts n (a / 256) (b / 256) (a % 128 ∷ r) (b % 128 ∷ s))

-- the words' counts alone are in the order of the positions
pub before_words : (a b : ℕ) → ltb (bit_and a (bytes 8 127)) (bit_and b (bytes 8 127)) ≡ before (counts_in a) (counts_in b)
unfolding counts_in before
before_words a b =
    let x = bit_and a (bytes 8 127) in
    let y = bit_and b (bytes 8 127) in
    sym (ap (λ t. ltb x y || t) (and-false (eqb x y)) ∙ or-false (ltb x y))
    ∙ before-counts 8 a b [] []
