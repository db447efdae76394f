-- What one record more adds to the bytes of targets: an edge sets one bit of one byte, and any other record none. Byte k is that of letter
-- k / 8 and state k % 8. By the laws of appending and of masks. Assumes nothing.
use mathlib.Core.Path.{◌≡◌, sym, ap, ap₂, ◌∙◌}
use mathlib.Core.Bool.{Bool, true, false, ◌&&◌, ◌||◌, or-false, or_assoc}
use mathlib.Core.List.{List, [], ◌∷◌, ◌++◌}
use Prim.Native.Nat.{ℕ, ◌+◌, ◌*◌, ◌/◌, ◌%◌, ◌<◌}
use native.Mathlib.Omega.{arith}
use lib.ListN.{length, get_or, set}
use lib.Dec.{eqb, ltb}
use borrow.Author.Tests.{eqb-true, eq-eqb, ltb-true, lt-ltb}
use Rattle.meaning.specs.Lists.{any}
use Rattle.meaning.specs.Records.{Record, same}
use Rattle.meaning.specs.Table.{edge_of, bit}
use Rattle.meaning.proofs.Tests.{both, both_left, both_right, clash, refuted}
use Rattle.meaning.proofs.Lists.{tab-length, tab-at, tab-same}
use Rattle.meaning.proofs.Records.{same-equal, edge_record}
use Rattle.masks.specs.Mask.{mask}
use Rattle.masks.proofs.Masks.{mask-same, bit-of-mask}
use Rattle.table.specs.Packed.{targets}
use Rattle.table.proofs.OneMore.{tab-set}

-- an edge of a kind, from one of eight states on one of eight letters
abbrev pub is_edge : Record → ℕ → Bool
is_edge r kind = eqb r.kind kind && ltb r.from 8 && ltb r.letter 8

pub edge-kind : (r : Record) (kind : ℕ) → is_edge r kind ≡ true → r.kind ≡ kind
edge-kind r kind e =
    let state = both_left (eqb r.kind kind && ltb r.from 8) (ltb r.letter 8) e in
    eqb-true r.kind kind (both_left (eqb r.kind kind) (ltb r.from 8) state)

pub edge-from : (r : Record) (kind : ℕ) → is_edge r kind ≡ true → r.from < 8
edge-from r kind e =
    let state = both_left (eqb r.kind kind && ltb r.from 8) (ltb r.letter 8) e in
    ltb-true r.from 8 (both_right (eqb r.kind kind) (ltb r.from 8) state)

pub edge-letter : (r : Record) (kind : ℕ) → is_edge r kind ≡ true → r.letter < 8
edge-letter r kind e = ltb-true r.letter 8 (both_right (eqb r.kind kind && ltb r.from 8) (ltb r.letter 8) e)

edge_more : (kind : ℕ) (rs : List Record) (r : Record) (l p q : ℕ)
    → edge_of kind (rs ++ (r ∷ [])) l p q ≡ (edge_of kind rs l p q || same (edge_record kind l p q) r)
unfolding edge_of
edge_more kind rs r l p q = go rs
  where
    f : Record → Bool
    f = same (edge_record kind l p q)

    go : (rs : List Record) → any f (rs ++ (r ∷ [])) ≡ (any f rs || f r)
    go [] = or-false (f r)
    go (s ∷ rs) = ap (λ (b : Bool). f s || b) (go rs) ∙ sym (or_assoc (f s) (any f rs) (f r))

-- an edge is that of a record of its letter and state if their ends are the same
same_ends : (kind : ℕ) (r : Record) (l p q : ℕ) → r.kind ≡ kind → l ≡ r.letter → p ≡ r.from
    → same (edge_record kind l p q) r ≡ eqb q r.to
unfolding same
same_ends kind r l p q k e f = rw (eq-eqb kind r.kind (sym k), eq-eqb p r.from f, eq-eqb l r.letter e)

-- byte k of targets, and that byte set anew
pub targets-at : (edge : ℕ → ℕ → ℕ → Bool) (k : ℕ) → k < 64 → get_or (targets edge) k 0 ≡ mask 8 (edge (k / 8) (k % 8))
unfolding targets
targets-at edge k h = tab-at 64 (λ j. mask 8 (edge (j / 8) (j % 8))) k 0 h

pub targets-length : (edge : ℕ → ℕ → ℕ → Bool) → length (targets edge) ≡ 64
unfolding targets
targets-length edge = tab-length 64 (λ j. mask 8 (edge (j / 8) (j % 8)))

targets-set : (edge more : ℕ → ℕ → ℕ → Bool) (k : ℕ) → k < 64
    → ((j : ℕ) → j < 64 → (j ≡ k → ⊥) → mask 8 (edge (j / 8) (j % 8)) ≡ mask 8 (more (j / 8) (j % 8)))
    → set (targets edge) k (mask 8 (more (k / 8) (k % 8))) ≡ targets more
unfolding targets
targets-set edge more k h p = tab-set 64 (λ j. mask 8 (edge (j / 8) (j % 8))) (λ j. mask 8 (more (j / 8) (j % 8))) k h p

-- a byte that a record is no edge of stays
byte-stays : (kind : ℕ) (rs : List Record) (r : Record) (k : ℕ) → ((q : ℕ) → edge_record kind (k / 8) (k % 8) q ≡ r → ⊥)
    → mask 8 (edge_of kind rs (k / 8) (k % 8)) ≡ mask 8 (edge_of kind (rs ++ (r ∷ [])) (k / 8) (k % 8))
byte-stays kind rs r k none =
    mask-same 8 (edge_of kind rs (k / 8) (k % 8)) (edge_of kind (rs ++ (r ∷ [])) (k / 8) (k % 8))
    (λ q _.
    let e = edge_record kind (k / 8) (k % 8) q in
    sym (edge_more kind rs r (k / 8) (k % 8) q
    ∙ ap (λ (b : Bool). edge_of kind rs (k / 8) (k % 8) q || b) (refuted (same e r) (λ w. none q (same-equal e r w)))
    ∙ or-false (edge_of kind rs (k / 8) (k % 8) q)))

pub targets_other : (kind : ℕ) (rs : List Record) (r : Record) → is_edge r kind ≡ false
    → targets (edge_of kind rs) ≡ targets (edge_of kind (rs ++ (r ∷ [])))
unfolding targets
targets_other kind rs r none =
    tab-same 64 (λ k. mask 8 (edge_of kind rs (k / 8) (k % 8))) (λ k. mask 8 (edge_of kind (rs ++ (r ∷ [])) (k / 8) (k % 8)))
    (λ k h. byte-stays kind rs r k
    (λ q e.
    let f : k % 8 ≡ r.from = ap (λ (s : Record). s.from) e in
    let l : k / 8 ≡ r.letter = ap (λ (s : Record). s.letter) e in
    clash (is_edge r kind)
    (both (eqb r.kind kind && ltb r.from 8) (ltb r.letter 8)
    (both (eqb r.kind kind) (ltb r.from 8) (eq-eqb r.kind kind (ap (λ (s : Record). s.kind) (sym e)))
    (lt-ltb r.from 8 (omega arith)))
    (lt-ltb r.letter 8 (omega arith)))
    none))

pub targets_this : (kind : ℕ) (rs : List Record) (r : Record) → is_edge r kind ≡ true
    → set (targets (edge_of kind rs)) (r.letter * 8 + r.from)
    (mask 8 (λ q. bit (get_or (targets (edge_of kind rs)) (r.letter * 8 + r.from) 0) q || eqb q r.to))
    ≡ targets (edge_of kind (rs ++ (r ∷ [])))
targets_this kind rs r edge =
    let k = r.letter * 8 + r.from in
    let f = edge-from r kind edge in
    let l = edge-letter r kind edge in
    let below : k < 64 = omega arith in
    let letter : k / 8 ≡ r.letter = omega arith in
    let from : k % 8 ≡ r.from = omega arith in
    ap (set (targets (edge_of kind rs)) k)
    (mask-same 8 (λ q. bit (get_or (targets (edge_of kind rs)) k 0) q || eqb q r.to) (edge_of kind (rs ++ (r ∷ [])) (k / 8) (k % 8))
    (λ q h.
    ap₂ ◌||◌
    (ap (λ (m : ℕ). bit m q) (targets-at (edge_of kind rs) k below) ∙ bit-of-mask (edge_of kind rs (k / 8) (k % 8)) q h)
    (sym (same_ends kind r (k / 8) (k % 8) q (edge-kind r kind edge) letter from))
    ∙ sym (edge_more kind rs r (k / 8) (k % 8) q)))
    ∙ targets-set (edge_of kind rs) (edge_of kind (rs ++ (r ∷ []))) k below
    (λ j h other. byte-stays kind rs r j
    (λ q e.
    let f' : j % 8 ≡ r.from = ap (λ (s : Record). s.from) e in
    let l' : j / 8 ≡ r.letter = ap (λ (s : Record). s.letter) e in
    other (omega arith)))
