-- A buffer that is written from its front: one store more, and a part more. By the laws of appending. Assumes nothing.
use mathlib.Core.Path.{◌≡◌, refl, sym, ap, ◌∙◌}
use mathlib.Core.List.{List, [], ◌∷◌, ◌++◌, append_assoc, append-nil}
use Prim.Native.Nat.{ℕ, zero, suc, ◌+◌, ◌-◌, ◌≤◌, ◌<◌}
use native.Mathlib.Numerals.{add-one}
use native.Mathlib.Omega.{arith}
use lib.ListN.{length, get_or, take, drop, set, length-append, length-drop, drop_of_length-le}
use lib.Seq.{take-suc, length-take-le, drop-cons, drop-drop, set_at, take_at, take_all, drop_at}
use Rattle.meaning.specs.Lists.{tab, written}
use Rattle.meaning.proofs.Lists.{tab-length}

-- one number more
pub tab-more : {A : Type 0} (n : ℕ) (f : ℕ → A) → tab (n + 1) f ≡ tab n f ++ f n ∷ []
tab-more {A = A} n f = rw (add-one n) (go n f)
  where
    go : (n : ℕ) (f : ℕ → A) → tab (suc n) f ≡ tab n f ++ f n ∷ []
    go zero f = refl
    go (suc n) f = ap {B = List A} (λ l. f zero ∷ l) (go n (λ i. f (suc i)))

module _ (old : List ℕ) where
  pub written-length : (new : List ℕ) → length new ≤ length old → length (written new old) ≡ length old
  written-length new h = simp (length-append, length-drop) (omega arith)

  -- one store more
  pub written_store : (new : List ℕ) (i x : ℕ) → length new ≡ i → i < length old → set (written new old) i x ≡ written (new ++ x ∷ []) old
  written_store new i x e h =
      let longer : length (new ++ x ∷ []) ≡ suc i = length-append new (x ∷ []) ∙ ap (λ (n : ℕ). n + 1) e ∙ add-one i in
      rw (longer, e, drop-cons old i 0 h, append_assoc) (set_at new (get_or old i 0) (drop (suc i) old) x i e)

  -- the next number of a tab, and the next member of a list
  pub tab_store : (f : ℕ → ℕ) (i x : ℕ) → x ≡ f i → i < length old → set (written (tab i f) old) i x ≡ written (tab (i + 1) f) old
  tab_store f i x e h =
      written_store (tab i f) i x (tab-length i f) h
      ∙ ap (λ (l : List ℕ). written l old) (ap (λ (y : ℕ). tab i f ++ y ∷ []) e ∙ sym (tab-more i f))

  pub list_store : (all : List ℕ) (i x : ℕ) → x ≡ get_or all i 0 → i < length all → i < length old
      → set (written (take i all) old) i x ≡ written (take (i + 1) all) old
  list_store all i x e l h =
      let next : take i all ++ x ∷ [] ≡ take (i + 1) all = rw (add-one i, take-suc all i 0 l, e) refl in
      written_store (take i all) i x (length-take-le i all (omega arith)) h ∙ ap (λ (l : List ℕ). written l old) next

  -- what was written to the part from there on
  pub written_part : (new more whole part : List ℕ) (at : ℕ) → length new ≡ at → whole ≡ written new old
      → part ≡ written more (take (length whole - at) (drop at whole))
      → take at whole ++ (part ++ drop (length whole - at) (drop at whole)) ≡ written (new ++ more) old
  written_part new more whole part at e w p =
      let left = drop at whole in
      let front : take at whole ≡ new = ap (take at) w ∙ take_at new (drop (length new) old) at e in
      let rest : left ≡ drop (length new) old = ap (drop at) w ∙ drop_at new (drop (length new) old) at e in
      let all : take (length whole - at) left ≡ left = take_all (length whole - at) left (omega (arith, length-drop at whole)) in
      let none : drop (length whole - at) left ≡ [] =
      drop_of_length-le left {i = length whole - at} (omega (arith, length-drop at whole)) in
      rw (none, front, p, all, rest, append-nil, length-append, append_assoc, drop-drop)
