-- Document 02, R-3, as laws of two positions of one length. Each case is given exactly where it holds (`compared-exactly`), so that exactly
-- one of the four holds (`compared_says`, `one_case`); turned round, above and below change places (`compared-turned`); and two of the four
-- together are `below` (`at-most-below`). All of them follow from one: the comparison is told by the two tests of below (`compared_tests`),
-- since positions that are below one another both ways are equal. Assumes nothing.
use mathlib.Core.Path.{◌≡◌, refl, sym, ap, ◌∙◌}
use mathlib.Core.Logic.{◌↔◌}
use mathlib.Core.Bool.{Bool, true, false, cond, ◌&&◌}
use borrow.Author.Tests.{eqb-true, eq-eqb}
use lib.ListN.{length}
use Rattle.meaning.specs.declared.Comparison.{Comparison}
use Rattle.meaning.specs.declared.Comparison.TheVariants.{Same, Below, Above, Neither}
use Rattle.meaning.specs.Counting.{Position, count, below}
use Rattle.meaning.specs.Compared.{same_counts, compared, Says, turned, at_most}
use Rattle.meaning.proofs.Tests.{both, both_left, both_right, clash, refuted, same_test, each_at, each_of}
use Rattle.meaning.proofs.Steps.{same-counts, below_refl, below_antisym}

-- what the two tests of below tell
abbrev pub told : Bool → Bool → Comparison
told under over = cond under (cond over Same Below) (cond over Above Neither)

module _ (F G : Position) (long : length F ≡ length G) where
  -- equal counts are counts at most one another both ways
  same-both : same_counts F G ≡ (below F G && below G F)
  unfolding same_counts
  same-both =
      same_test (same_counts F G) (below F G && below G F)
      (λ t. let e : F ≡ G = same-counts F G long (λ q l. eqb-true (count F q) (count G q) (each_at (length F) _ t q l)) in
      both (below F G) (below G F) (equal-below F G e) (equal-below G F (sym e)))
      (λ t. let e : F ≡ G = below_antisym F G long (both_left (below F G) (below G F) t) (both_right (below F G) (below G F) t) in
      each_of (length F) _ (λ q _. eq-eqb (count F q) (count G q) (ap (λ (H : Position). count H q) e)))
    where
      equal-below : (H I : Position) → H ≡ I → below H I ≡ true
      equal-below H I e = rw (← e) (below_refl H)

  pub compared_tests : compared F G ≡ told (below F G) (below G F)
  unfolding compared
  compared_tests =
      ap (λ same. cond same Same (cond (below F G) Below (cond (below G F) Above Neither))) same-both ∙ go (below F G) (below G F)
    where
      go : (under over : Bool) → cond (under && over) Same (cond under Below (cond over Above Neither)) ≡ told under over
      go true true = refl
      go true false = refl
      go false true = refl
      go false false = refl

  pub at-most-below : at_most (compared F G) ≡ below F G
  at-most-below = ap at_most compared_tests ∙ go (below F G) (below G F)
    where
      go : (under over : Bool) → at_most (told under over) ≡ under
      go true true = refl
      go true false = refl
      go false true = refl
      go false false = refl

  -- the case that is given holds
  pub compared_says : Says (compared F G) F G
  compared_says = rw compared_tests (go (below F G) (below G F) refl refl)
    where
      apart : (H I : Position) → below I H ≡ false → H ≡ I → ⊥
      apart H I not-over e = clash (below I H) (rw e (below_refl I)) not-over

      go : (under over : Bool) → below F G ≡ under → below G F ≡ over → Says (told under over) F G
      go true true u o = below_antisym F G long u o
      go true false u o = (u, apart F G o)
      go false true u o = (o, λ e. apart G F u (sym e))
      go false false u o = (u, o)

  -- and is the one that holds
  says_given : (c : Comparison) → Says c F G → compared F G ≡ c
  says_given Same e = rw (compared_tests, e, below_refl G)
  says_given Below s =
      let over : below G F ≡ false = refuted (below G F) (λ o. s.1 (below_antisym F G long s.0 o)) in
      rw (compared_tests, s.0, over)
  says_given Above s =
      let under : below F G ≡ false = refuted (below F G) (λ u. s.1 (below_antisym F G long u s.0)) in
      rw (compared_tests, under, s.0)
  says_given Neither s = rw (compared_tests, s.0, s.1)

  pub compared-exactly : (c : Comparison) → (compared F G ≡ c) ↔ Says c F G
  compared-exactly c = (λ e. rw e at compared_says, says_given c)

  pub one_case : (c d : Comparison) → Says c F G → Says d F G → c ≡ d
  one_case c d s t = sym (says_given c s) ∙ says_given d t

pub compared-turned : (F G : Position) → length F ≡ length G → compared G F ≡ turned (compared F G)
compared-turned F G long =
    compared_tests G F (sym long) ∙ go (below F G) (below G F) ∙ ap turned (sym (compared_tests F G long))
  where
    go : (under over : Bool) → told over under ≡ turned (told under over)
    go true true = refl
    go true false = refl
    go false true = refl
    go false false = refl
