-- The order of the states, block by block: the start first, then the others, each one place up until the start's own number. By induction
-- on the number of states and on the start. Assumes nothing.
use mathlib.Core.Path.{◌≡◌, refl, sym, ap, ◌∙◌}
use mathlib.Core.Bool.{true, cond, not}
use mathlib.Core.List.{List, ◌∷◌, Memᴰ}
use Prim.Native.Nat.{ℕ, zero, suc, ◌<◌}
use native.Mathlib.Nat.{le_of_suc-le-suc, not-suc-le-zero}
use native.Mathlib.Omega.{arith}
use lib.Dec.{eqb, leb, leb-suc-suc}
use borrow.Author.Tests.{eq-eqb, ne_eqb, le-leb, lt-leb}
use Rattle.meaning.specs.Lists.{tab, keep}
use Rattle.meaning.specs.Written.{state_order}
use Rattle.meaning.proofs.Lists.{member-tab, tab-same, keep_all}
use Rattle.writing.specs.Playable.{state_at}

-- all but one of n + 1 different numbers: those before it stand in their places, those after it one down
others : (n : ℕ) (f : ℕ → ℕ) (a : ℕ) → ((i j : ℕ) → f i ≡ f j → i ≡ j) → a < suc n
    → keep (λ (s : ℕ). not (eqb s (f a))) (tab (suc n) f) ≡ tab n (λ b. cond (leb (suc b) a) (f b) (f (suc b)))
others n f zero different h =
    rw (eq-eqb (f zero) (f zero) refl)
    (keep_all (λ (s : ℕ). not (eqb s (f zero))) (tab n (λ i. f (suc i))) rest
    ∙ tab-same n (λ i. f (suc i)) (λ b. cond (leb (suc b) zero) (f b) (f (suc b))) (λ b _. rw (lt-leb (suc b) zero (omega arith))))
  where
    rest : (s : ℕ) → Memᴰ s (tab n (λ i. f (suc i))) → not (eqb s (f zero)) ≡ true
    rest s m =
        let r = member-tab n (λ i. f (suc i)) s m in
        ap not (ne_eqb s (f zero) (λ e. omega (arith, different (suc r.0) zero (sym r.2 ∙ e))))
others zero f (suc a) different h = absurd (omega arith)
others (suc n) f (suc a) different h =
    rw (ne_eqb (f zero) (f (suc a)) (λ e. omega (arith, different zero (suc a) e)), le-leb (suc zero) (suc a) (omega arith))
    (ap (λ (l : List ℕ). f zero ∷ l)
    (others n (λ i. f (suc i)) a (λ i j e. omega (arith, different (suc i) (suc j) e)) (le_of_suc-le-suc h)
    ∙ tab-same n (λ b. cond (leb (suc b) a) (f (suc b)) (f (suc (suc b))))
    (λ b. cond (leb (suc (suc b)) (suc a)) (f (suc b)) (f (suc (suc b))))
    (λ b _. rw (leb-suc-suc (suc b) a))))

pub order_tab : (start number : ℕ) → start < number → state_order start number ≡ tab number (state_at start)
unfolding state_order state_at
order_tab start zero h = absurd (not-suc-le-zero h)
order_tab start (suc n) h =
    ap (λ (l : List ℕ). start ∷ l)
    (others n (λ s. s) start (λ i j e. e) h
    ∙ tab-same n (λ b. cond (leb (suc b) start) b (suc b)) (λ b. state_at start (suc b))
    (λ b _. rw (ne_eqb (suc b) 0 (λ e. omega arith)) (ap (λ (p : ℕ). cond (leb (suc b) start) p (suc b)) (omega arith))))
