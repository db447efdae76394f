-- The paper's signed counts, read one higher (`one_higher`), are the counts of the definitions: the greater of two (`greater_signed`), a
-- run that enters a state (`plus_signed_lem`), the step back (`less_signed_lem`) and a winners' byte (`lower_signed`). By cases on the
-- signs. Then the ends by name: -1 stays -1 going forward, K + 1 is reached and seen, and the step back floors at -1.
use mathlib.Core.Path.{◌≡◌, refl, sym, ap, ◌∙◌}
use mathlib.Core.Bool.{true, false, true≢false}
use Prim.Native.Nat.{ℕ, zero, suc, ◌+◌, ◌-◌, ◌≤◌, ◌<◌, min, max, zero-le}
use native.Mathlib.Nat.{not-suc-le-zero}
use native.Mathlib.Decide.{dec_lt}
use native.Mathlib.Omega.{arith}
use lib.IntN.{ℤ, pos, negsuc, nat_abs, ◌-ℤ◌, +ℤ_idr}
use lib.Dec.{ltb}
use lib.Signed.{lt_z}
use borrow.Author.Tests.{ltb-true, ltb-false, lt-ltb, le-ltb}
use Rattle.meaning.specs.Table.{Half}
use Rattle.meaning.specs.Counting.{one_higher, Position, count, plus, forward, safe}
use Rattle.meaning.specs.Signed.{no_run, min_z, max_z, plus_signed, less_signed, one_lower}
use Rattle.meaning.proofs.Tests.{cond_cases, refuted}
use Rattle.meaning.proofs.Steps.{safe_at, plus_none, forward-brings}

-- a test of two counts goes the way of the counts
pub ordered : (a b : ℤ) → lt_z a b ≡ true → one_higher a ≤ one_higher b
ordered (pos a) (pos b) t = let l : a < b = ltb-true a b t in omega arith
ordered (pos a) (negsuc b) t = absurd (true≢false (sym t))
ordered (negsuc a) (pos b) t = zero-le
ordered (negsuc a) (negsuc b) t = zero-le

pub not_ordered : (a b : ℤ) → lt_z a b ≡ false → one_higher b ≤ one_higher a
not_ordered (pos a) (pos b) t = let l : b ≤ a = ltb-false a b t in omega arith
not_ordered (pos a) (negsuc b) t = zero-le
not_ordered (negsuc a) (pos b) t = absurd (true≢false t)
not_ordered (negsuc a) (negsuc b) t = zero-le

-- the greater of two
pub greater_signed : (a b : ℤ) → one_higher (max_z a b) ≡ max (one_higher a) (one_higher b)
unfolding max_z
greater_signed a b =
    cond_cases (lt_z a b) b a (λ z. one_higher z ≡ max (one_higher a) (one_higher b))
    (λ t. omega (arith, ordered a b t)) (λ t. omega (arith, not_ordered a b t))

-- a count and a mark: at a run the lesser of K + 1 and their sum
min_pos : (a b : ℕ) → min_z (pos a) (pos b) ≡ pos (min a b)
unfolding min_z
min_pos a b =
    cond_cases (ltb a b) (pos a) (pos b) (λ z. z ≡ pos (min a b))
    (λ t. let l : a < b = ltb-true a b t in ap pos (omega arith))
    (λ t. let l : b ≤ a = ltb-false a b t in ap pos (omega arith))

pub plus-counted : (K mark : ℕ) (c : ℤ) → lt_z c (pos 0) ≡ false → plus_signed K mark c ≡ pos (min (K + 1) (nat_abs c + mark))
unfolding plus_signed
plus-counted K mark (pos c) t = rw t (min_pos (K + 1) (c + mark))
plus-counted K mark (negsuc c) t = absurd (true≢false t)

pub plus_signed_lem : (K mark : ℕ) (c : ℤ) → one_higher (plus_signed K mark c) ≡ plus K mark (one_higher c)
unfolding plus_signed plus
plus_signed_lem K mark (pos c) =
    ap one_higher (plus-counted K mark (pos c) (le-ltb c 0 zero-le)) ∙ omega arith
plus_signed_lem K mark (negsuc c) = refl

-- a count less a mark
pub less_short : (c mark : ℕ) → c < mark → pos c -ℤ pos mark ≡ negsuc (mark - suc c)
less_short c zero l = absurd (not-suc-le-zero l)
less_short c (suc mark) l = rw (lt-ltb c (suc mark) l)

pub less_enough : (c mark : ℕ) → mark ≤ c → pos c -ℤ pos mark ≡ pos (c - mark)
less_enough c zero l = ap pos (omega arith)
less_enough c (suc mark) l = rw (le-ltb c (suc mark) l)

pub less_negative : (c mark : ℕ) → negsuc c -ℤ pos mark ≡ negsuc (c + mark)
less_negative c zero = +ℤ_idr (negsuc c) ∙ ap negsuc (omega arith)
less_negative c (suc mark) = ap negsuc (omega arith)

pub less_signed_lem : (c : ℤ) (mark : ℕ) → one_higher (less_signed c mark) ≡ one_higher c - mark
unfolding less_signed
less_signed_lem (pos c) mark = go (dec_lt c mark)
  where
    go : Dec (c < mark) → one_higher (max_z no_run (pos c -ℤ pos mark)) ≡ suc c - mark
    go (yes s) = rw (less_short c mark s) (omega (arith, greater_signed no_run (negsuc (mark - suc c))))
    go (no s) = rw (less_enough c mark (omega arith)) (omega (arith, greater_signed no_run (pos (c - mark))))
less_signed_lem (negsuc c) mark = rw (less_negative c mark) (omega (arith, greater_signed no_run (negsuc (c + mark))))

-- a byte's count is one lower than the byte
pub lower_signed : (b : ℕ) → one_higher (one_lower b) ≡ b
unfolding one_lower
lower_signed zero = refl
lower_signed (suc b) = rw (less_enough (suc b) 1 (omega arith)) (omega arith)

-- -1 stays -1 going forward
pub none-stays-none : (K mark : ℕ) → plus K mark (one_higher (negsuc 0)) ≡ one_higher (negsuc 0)
none-stays-none K mark = plus_none K mark

-- a run at K that enters a marked state is at K + 1: it is capped there and not at K, and it stays there
pub overrun_reached : (K mark : ℕ) → 0 < mark → plus K mark (one_higher (pos K)) ≡ one_higher (pos (K + 1))
unfolding plus
overrun_reached K mark marked = omega arith

pub overrun_stays : (K mark : ℕ) → plus K mark (one_higher (pos (K + 1))) ≡ one_higher (pos (K + 1))
unfolding plus
overrun_stays K mark = omega arith

-- a count past K is seen: the position is not safe
pub overrun_seen : (K : ℕ) (F : Position) (q : ℕ) → one_higher (pos K) < count F q → safe K F ≡ false
overrun_seen K F q past = refuted (safe K F) (λ s. omega (arith, safe_at K F s q))

-- so a step that takes a run at K into a marked state leads to no safe position
pub overrun_refused : (K : ℕ) (h : Half) (F : Position) (p q : ℕ) → p < h.sources → q < h.targets → h.edge p q ≡ true
    → 0 < h.mark q → count F p ≡ one_higher (pos K) → safe K (forward K h F) ≡ false
overrun_refused K h F p q lp lq e marked spent =
    let brought = rw spent at (forward-brings K h F p q lp lq e) in
    overrun_seen K (forward K h F) q (omega (arith, overrun_reached K (h.mark q) marked))

-- the step back floors at -1: nothing comes of no run, nor of a count smaller than the mark
pub none-back : (mark : ℕ) → one_higher (negsuc 0) - mark ≡ one_higher (negsuc 0)
none-back mark = omega arith

pub short_back : (mark c : ℕ) → c < mark → one_higher (pos c) - mark ≡ one_higher (negsuc 0)
short_back mark c short = omega arith
