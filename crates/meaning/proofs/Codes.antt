-- The codes tell verdicts apart, but for a controller's start: so what is proved of a verdict is proved of its code. What
-- holds of every refusal's number is tested on the list of refusals, in which each is found again by its number; numbers may be left out.
use mathlib.Core.Path.{◌≡◌, refl, sym, ap, ◌∙◌, subst}
use mathlib.Core.Logic.{◌↔◌}
use mathlib.Core.Bool.{Bool, true}
use mathlib.Core.List.{List, [], ◌∷◌}
use Prim.Native.Nat.{ℕ, ◌≤◌, ◌<◌}
use native.Mathlib.Omega.{arith}
use lib.ListN.{get_or}
use lib.Dec.{eqb, leb, ltb}
use borrow.Author.Tests.{leb-true, ltb-true}
use Rattle.meaning.specs.declared.Verdict.{Verdict}
use Rattle.meaning.specs.declared.Verdict.TheVariants.{Realizable, Unrealizable, Refused}
use Rattle.meaning.specs.declared.Refusal.{Refusal}
use Rattle.meaning.specs.declared.Refusal.TheVariants.{Bound, Room, Length, Record as Recorded, Order, States, Start, Edge, Gap}
use Rattle.meaning.specs.declared.Refusal.TheVariants.{Full, Nothing}
use Rattle.meaning.specs.declared.Refusal.TheVariants.{Letters, Size, Rows}
use Rattle.meaning.specs.Lists.{every, place}
use Rattle.meaning.specs.Answers.{number_of, code_of}
use Rattle.meaning.proofs.Lists.{every_default}

-- the refusals
refusals : List Refusal
refusals =
    Bound ∷ Room ∷ Length ∷ Recorded ∷ Order ∷ States ∷ Start ∷ Edge ∷ Gap ∷ Full ∷ Nothing ∷ Letters ∷ Size ∷ Rows ∷ []

-- the one with a number
numbered : ℕ → Refusal
numbered n = get_or refusals (place (λ (r : Refusal). eqb (number_of r) n) refusals) Bound

-- each is the one with its number
again : (r : Refusal) → numbered (number_of r) ≡ r
unfolding numbered refusals
again Bound = refl
again Room = refl
again Length = refl
again Recorded = refl
again Order = refl
again States = refl
again Start = refl
again Edge = refl
again Gap = refl
again Full = refl
again Nothing = refl
again Letters = refl
again Size = refl
again Rows = refl

-- so no two have the same number,
pub number_injective : (r s : Refusal) → number_of r ≡ number_of s → r ≡ s
number_injective r s e = sym (again r) ∙ ap numbered e ∙ again s

-- and a test that holds of the list holds of each
each_number : (test : ℕ → Bool) → test (number_of Bound) ≡ true → every (λ (r : Refusal). test (number_of r)) refusals ≡ true
    → (r : Refusal) → test (number_of r) ≡ true
unfolding numbered
each_number test first all r =
    subst (λ (s : Refusal). test (number_of s) ≡ true) (again r)
    (every_default (λ (s : Refusal). test (number_of s)) refusals (place (λ (s : Refusal). eqb (number_of s) (number_of r)) refusals) Bound
    first all)

-- the smallest is 2, and all are below 256
pub number-least : (r : Refusal) → 2 ≤ number_of r
unfolding refusals
number-least r = leb-true 2 (number_of r) (each_number (leb 2) refl refl r)

pub number-below : (r : Refusal) → number_of r < 256
unfolding refusals
number-below r = ltb-true (number_of r) 256 (each_number (λ n. ltb n 256) refl refl r)

pub code_below : (v : Verdict) → code_of v < 256
code_below (Realizable s) = omega arith
code_below Unrealizable = omega arith
code_below (Refused r) = number-below r

pub code-refused : (v : Verdict) (r : Refusal) → (code_of v ≡ number_of r) ↔ (v ≡ Refused r)
code-refused v r = (told v, λ e. ap code_of e)
  where
    told : (v : Verdict) → code_of v ≡ number_of r → v ≡ Refused r
    told (Realizable s) e = absurd (omega (arith, number-least r))
    told Unrealizable e = absurd (omega (arith, number-least r))
    told (Refused s) e = ap Refused (number_injective s r e)

pub code_realizable : (v : Verdict) → (code_of v ≡ 0) ↔ ((s : ℕ) × (v ≡ Realizable s))
code_realizable v = (told v, λ e. ap code_of e.1)
  where
    told : (v : Verdict) → code_of v ≡ 0 → (s : ℕ) × (v ≡ Realizable s)
    told (Realizable s) e = (s, refl)
    told Unrealizable e = absurd (omega arith)
    told (Refused r) e = absurd (omega (arith, number-least r))

pub code_unrealizable : (v : Verdict) → (code_of v ≡ 1) ↔ (v ≡ Unrealizable)
code_unrealizable v = (told v, λ e. ap code_of e)
  where
    told : (v : Verdict) → code_of v ≡ 1 → v ≡ Unrealizable
    told (Realizable s) e = absurd (omega arith)
    told Unrealizable e = refl
    told (Refused r) e = absurd (omega (arith, number-least r))
