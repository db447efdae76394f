-- A state's counts led on input by input: each input raises the counts of one state, and what held of the inputs before it still does,
-- since counts only rise and a state that is not flagged is as it was. Assumes nothing.
use mathlib.Core.Path.{◌≡◌, refl, sym, ap, ◌∙◌, subst}
use mathlib.Core.Logic.{◌⊎◌, inl, inr, ⊎_elim}
use mathlib.Core.Bool.{Bool, true}
use mathlib.Core.List.{List}
use Prim.Native.Nat.{ℕ, ◌+◌, ◌≤◌, ◌<◌, max}
use native.Mathlib.Nat.{le_refl}
use native.Mathlib.Decide.{dec_le}
use native.Mathlib.Omega.{arith}
use borrow.Author.Count.{below_none, below_more}
use Rattle.meaning.specs.Counting.{Position, count, safe}
use Rattle.meaning.proofs.Searches.{at_each}
use Rattle.checker.specs.Raised.{counts_at, flag_at, room_of_all, Rises, Raised, Led}

module _ (K : ℕ) (next : ℕ → ℕ) (after : ℕ → Position) (most : List ℕ) (risen : List Bool) where
  pub led_none : Led K 0 next after most risen most risen
  led_none =
      record {
        safely = below_none _;
        covers = below_none _;
        over = λ s q. le_refl _;
        came = λ s q. inl refl;
        flagged = λ s. inr (refl, refl);
        named = λ s p. inl p;
        rises = inr (refl, refl);
      }

  module _ (n : ℕ) {most₁ most₂ : List ℕ} {risen₁ risen₂ : List Bool} (led : Led K n next after most risen most₁ risen₁)
      (safely : safe K (after n) ≡ true) (raised : Raised K (next n) (after n) most₁ risen₁ most₂ risen₂) where
    -- one state's counts rise, all others stay
    rose : (s q : ℕ) → count (counts_at most₁ s) q ≤ count (counts_at most₂ s) q
    rose s q =
        at_each (λ s. count (counts_at most₁ s) q ≤ count (counts_at most₂ s) q) (next n) (omega (arith, raised.greatest q))
        (λ s d. let same = ap (λ (F : Position). count F q) (raised.others s d).0 in omega (arith, same)) s

    -- where a count is from
    from : (s q : ℕ) → (count (counts_at most₂ s) q ≡ count (counts_at most₁ s) q)
        ⊎ ((next n ≡ s) × (count (counts_at most₂ s) q ≡ count (after n) q))
    from s q =
        at_each
        (λ s. (count (counts_at most₂ s) q ≡ count (counts_at most₁ s) q)
        ⊎ ((next n ≡ s) × (count (counts_at most₂ s) q ≡ count (after n) q)))
        (next n) (⊎_elim (λ a. inl a) (λ b. inr (refl, b)) (either _ _ _ (raised.greatest q)))
        (λ s d. inl (ap (λ (F : Position). count F q) (raised.others s d).0)) s
      where
        either : (a b c : ℕ) → c ≡ max a b → (c ≡ a) ⊎ (c ≡ b)
        either a b c e = pick (dec_le b a)
          where
            pick : Dec (b ≤ a) → (c ≡ a) ⊎ (c ≡ b)
            pick (yes l) = inl (omega arith)
            pick (no l) = inr (omega arith)

    -- a state is flagged, or it is as it was before this input
    told : (s : ℕ) → (flag_at risen₂ s ≡ true) ⊎ ((counts_at most₂ s ≡ counts_at most₁ s) × (flag_at risen₂ s ≡ flag_at risen₁ s))
    told =
        at_each
        (λ s. (flag_at risen₂ s ≡ true) ⊎ ((counts_at most₂ s ≡ counts_at most₁ s) × (flag_at risen₂ s ≡ flag_at risen₁ s))) (next n)
        (⊎_elim (λ f. inl f) (λ same. inr (ap (λ m. counts_at m (next n)) same.0, ap (λ f. flag_at f (next n)) same.1))
        raised.flagged)
        (λ s d. inr (raised.others s d))

    marked : (s : ℕ) → flag_at risen₂ s ≡ true → (flag_at risen₁ s ≡ true) ⊎ (next n ≡ s)
    marked =
        at_each (λ s. flag_at risen₂ s ≡ true → (flag_at risen₁ s ≡ true) ⊎ (next n ≡ s)) (next n) (λ _. inr refl)
        (λ s d p. inl (sym (raised.others s d).1 ∙ p))

    rises : Rises K most risen most₂ risen₂
    rises =
        ⊎_elim
        (λ (more : room_of_all K most₂ < room_of_all K most₁).
        ⊎_elim (λ (less : room_of_all K most₁ < room_of_all K most). inl (omega arith))
        (λ same. inl (subst (λ m. room_of_all K most₂ < room_of_all K m) same.0 more)) led.rises)
        (λ same. ⊎_elim (λ less. inl (subst (λ m. room_of_all K m < room_of_all K most) (sym same.0) less))
        (λ before. inr (same.0 ∙ before.0, same.1 ∙ before.1)) led.rises)
        raised.rises

    pub led_more : Led K (n + 1) next after most risen most₂ risen₂
    led_more =
        record {
          safely = below_more _ n led.safely safely;
          covers =
              below_more _ n (λ i l q. omega (arith, led.covers i l q, rose (next i) q)) (λ q. omega (arith, raised.greatest q));
          over = λ s q. omega (arith, led.over s q, rose s q);
          came = λ s q.
              ⊎_elim
              (λ stays. ⊎_elim (λ same. inl (stays ∙ same)) (λ w. inr (w.0, omega (arith, w.1), w.2, stays ∙ w.3)) (led.came s q))
              (λ new. inr (n, omega arith, new.0, new.1)) (from s q);
          flagged = λ s.
              ⊎_elim (λ f. inl f)
              (λ stays. ⊎_elim (λ f. inl (stays.1 ∙ f)) (λ same. inr (stays.0 ∙ same.0, stays.1 ∙ same.1)) (led.flagged s))
              (told s);
          named = λ s p.
              ⊎_elim (λ f. ⊎_elim (λ g. inl g) (λ w. inr (w.0, omega (arith, w.1), w.2)) (led.named s f))
              (λ e. inr (n, omega arith, e)) (marked s p);
          rises = rises;
        }
