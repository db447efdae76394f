-- What one record more adds to the states, marks and starts of the table that records state. A state record is the next state of
-- its side, whose number is the number of states before it. By the laws of appending. Assumes nothing.
use mathlib.Core.Path.{◌≡◌, refl, sym, ap, ◌∙◌}
use mathlib.Core.Bool.{Bool, ◌||◌, or-true, or-false, false, true}
use mathlib.Core.List.{List, [], ◌∷◌, ◌++◌, append-nil}
use Prim.Native.Nat.{ℕ, ◌+◌, ◌≤◌, ◌<◌}
use native.Mathlib.Decide.{dec_lt}
use native.Mathlib.Omega.{arith}
use lib.ListN.{length, get_or, take, set, length-append, length-take, length-set, get_or-append, get_or-eq_default}
use lib.Seq.{get_or-append_seam, get_or-set_same, get_or-set_other, ext_get_or}
use lib.Dec.{eqb}
use borrow.Author.Tests.{eq-eqb, ne_eqb}
use Rattle.meaning.specs.Lists.{tab, keep}
use Rattle.meaning.specs.Records.{Record, at, blank, of_kind, controller}
use Rattle.meaning.specs.Table.{mark_of, starts_of, bit, mark_in, start_in}
use Rattle.meaning.proofs.Lists.{keep_append, tab-length, tab-at, tab-same}
use Rattle.meaning.proofs.Searches.{at_each}
use Rattle.meaning.proofs.Sizes.{keep-length}
use Rattle.masks.specs.Mask.{mask}
use Rattle.masks.proofs.Masks.{mask-same, bit-of-mask}
use Rattle.table.specs.Packed.{marks}

-- the records of a kind
pub of_kind_around : (kind : ℕ) (rs : List Record) (r : Record) (ss : List Record) → r.kind ≡ kind
    → of_kind kind (rs ++ (r ∷ ss)) ≡ of_kind kind rs ++ (r ∷ of_kind kind ss)
unfolding of_kind
of_kind_around kind rs r ss e = rw (keep_append (λ s. eqb s.kind kind) rs (r ∷ ss), eq-eqb r.kind kind e)

pub of_kind_this : (kind : ℕ) (rs : List Record) (r : Record) → r.kind ≡ kind → of_kind kind (rs ++ (r ∷ [])) ≡ of_kind kind rs ++ (r ∷ [])
unfolding of_kind
of_kind_this kind rs r e = of_kind_around kind rs r [] e

pub of_kind_other : (kind : ℕ) (rs : List Record) (r : Record) → (r.kind ≡ kind → ⊥) → of_kind kind (rs ++ (r ∷ [])) ≡ of_kind kind rs
unfolding of_kind
of_kind_other kind rs r e =
    let of_this : Record → Bool = λ s. eqb s.kind kind in
    rw (keep_append of_this rs (r ∷ []), ne_eqb r.kind kind e) (append-nil (keep of_this rs))

-- there are at most as many as there are records
pub of_kind-few : (kind i : ℕ) (rs : List Record) → length (of_kind kind (take i rs)) ≤ i
unfolding of_kind
of_kind-few kind i rs = omega (arith, keep-length (λ (r : Record). eqb r.kind kind) (take i rs), length-take i rs)

pub states_this : (kind : ℕ) (rs : List Record) (r : Record) → r.kind ≡ kind
    → length (of_kind kind (rs ++ (r ∷ []))) ≡ length (of_kind kind rs) + 1
states_this kind rs r e = rw (of_kind_this kind rs r e) (length-append (of_kind kind rs) (r ∷ []))

-- what stands at a place of a list with one record more
pub at_last : (rs : List Record) (r : Record) → at (rs ++ (r ∷ [])) (length rs) ≡ r
at_last rs r = get_or-append_seam rs r [] blank

pub at_other : (rs : List Record) (r : Record) (j : ℕ) → (j ≡ length rs → ⊥) → at (rs ++ (r ∷ [])) j ≡ at rs j
at_other rs r j e = go (dec_lt j (length rs))
  where
    go : Dec (j < length rs) → at (rs ++ (r ∷ [])) j ≡ at rs j
    go (yes l) = get_or-append rs (r ∷ []) blank j l
    go (no l) =
        get_or-eq_default (rs ++ (r ∷ [])) blank (omega (arith, length-append rs (r ∷ [])))
        ∙ sym (get_or-eq_default rs blank (omega arith))

-- one place of a tab set anew
pub tab-set : (n : ℕ) (f g : ℕ → ℕ) (k : ℕ) → k < n → ((j : ℕ) → j < n → (j ≡ k → ⊥) → f j ≡ g j) → set (tab n f) k (g k) ≡ tab n g
tab-set n f g k h p =
    ext_get_or 0 (set (tab n f) k (g k)) (tab n g) (length-set (tab n f) k (g k) ∙ tab-length n f ∙ sym (tab-length n g))
    (λ j l.
    let inside : j < n = omega (arith, length-set (tab n f) k (g k), tab-length n f) in
    at_each (λ j. j < n → get_or (set (tab n f) k (g k)) j 0 ≡ get_or (tab n g) j 0) k
    (λ m. get_or-set_same (tab n f) k (g k) 0 (omega (arith, tab-length n f)) ∙ sym (tab-at n g k 0 m))
    (λ i e m. get_or-set_other (tab n f) k i (g k) 0 e ∙ tab-at n f i 0 m ∙ p i m e ∙ sym (tab-at n g i 0 m)) j inside)

-- a state's mark and whether it is a start: those of the new state, and those before it
module _ (kind : ℕ) (rs : List Record) (r : Record) (e : r.kind ≡ kind) where
  state-new : at (of_kind kind (rs ++ (r ∷ []))) (length (of_kind kind rs)) ≡ r
  state-new = rw (of_kind_this kind rs r e) (at_last (of_kind kind rs) r)

  state_old : (j : ℕ) → (j ≡ length (of_kind kind rs) → ⊥) → at (of_kind kind (rs ++ (r ∷ []))) j ≡ at (of_kind kind rs) j
  state_old j d = rw (of_kind_this kind rs r e) (at_other (of_kind kind rs) r j d)

-- marks
pub marks_this : (kind : ℕ) (rs : List Record) (r : Record) (q : ℕ) → r.kind ≡ kind → q ≡ length (of_kind kind rs) → q < 8
    → set (marks (mark_of kind rs)) q (mark_in r) ≡ marks (mark_of kind (rs ++ (r ∷ [])))
unfolding marks mark_of
marks_this kind rs r q e l h =
    let here : mark_of kind (rs ++ (r ∷ [])) q ≡ mark_in r = rw l (ap mark_in (state-new kind rs r e)) in
    ap (λ (m : ℕ). set (marks (mark_of kind rs)) q m) (sym here)
    ∙ tab-set 8 (mark_of kind rs) (mark_of kind (rs ++ (r ∷ []))) q h
    (λ j _ d. ap mark_in (sym (state_old kind rs r e j (λ w. d (w ∙ sym l)))))

pub marks-full : (kind : ℕ) (rs : List Record) (r : Record) → r.kind ≡ kind → 8 ≤ length (of_kind kind rs)
    → marks (mark_of kind rs) ≡ marks (mark_of kind (rs ++ (r ∷ [])))
unfolding marks mark_of
marks-full kind rs r e h =
    tab-same 8 (mark_of kind rs) (mark_of kind (rs ++ (r ∷ [])))
    (λ j l. ap mark_in (sym (state_old kind rs r e j (λ d. omega arith))))

pub marks_other : (kind : ℕ) (rs : List Record) (r : Record) → (r.kind ≡ kind → ⊥)
    → marks (mark_of kind rs) ≡ marks (mark_of kind (rs ++ (r ∷ [])))
unfolding marks mark_of
marks_other kind rs r e = ap (λ (l : List Record). marks (λ q. mark_in (at l q))) (sym (of_kind_other kind rs r e))

-- starts
pub starts_this : (rs : List Record) (r : Record) → r.kind ≡ controller → start_in r ≡ true
    → mask 8 (λ k. bit (mask 8 (starts_of rs)) k || eqb k (length (of_kind controller rs))) ≡ mask 8 (starts_of (rs ++ (r ∷ [])))
unfolding starts_of
starts_this rs r e start =
    let n = length (of_kind controller rs) in
    mask-same 8 (λ k. bit (mask 8 (starts_of rs)) k || eqb k n) (starts_of (rs ++ (r ∷ [])))
    (λ k h. ap (λ (b : Bool). b || eqb k n) (bit-of-mask (starts_of rs) k h)
    ∙ at_each (λ k. (starts_of rs k || eqb k n) ≡ starts_of (rs ++ (r ∷ [])) k) n
    (rw (eq-eqb n n refl, state-new controller rs r e, or-true (starts_of rs n)) (sym start))
    (λ j d. rw (ne_eqb j n d, state_old controller rs r e j d) (or-false (starts_of rs j))) k)

pub starts_none : (rs : List Record) (r : Record) → r.kind ≡ controller → start_in r ≡ false
    → mask 8 (starts_of rs) ≡ mask 8 (starts_of (rs ++ (r ∷ [])))
unfolding starts_of start_in
starts_none rs r e none =
    let n = length (of_kind controller rs) in
    mask-same 8 (starts_of rs) (starts_of (rs ++ (r ∷ [])))
    (λ k _. at_each (λ k. starts_of rs k ≡ starts_of (rs ++ (r ∷ [])) k) n
    (rw (state-new controller rs r e, get_or-eq_default (of_kind controller rs) blank {n = n} (omega arith)) (sym none))
    (λ j d. rw (state_old controller rs r e j d)) k)

pub starts_other : (rs : List Record) (r : Record) → (r.kind ≡ controller → ⊥)
    → mask 8 (starts_of rs) ≡ mask 8 (starts_of (rs ++ (r ∷ [])))
unfolding starts_of
starts_other rs r e = ap (λ (l : List Record). mask 8 (λ q. start_in (at l q))) (sym (of_kind_other controller rs r e))
