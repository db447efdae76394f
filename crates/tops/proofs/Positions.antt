-- Words cover what they cover turned round, since a test holds of a member of a list turned round if it does of one of the list; and a test
-- keeps no more of a list than there is, and fewer of its first than there are in all. Assumes nothing.
use mathlib.Core.Path.{◌≡◌, sym, ap, ◌∙◌}
use mathlib.Core.Logic.{⊎_elim}
use mathlib.Core.Bool.{Bool}
use mathlib.Core.List.{List, [], ◌∷◌, reverse}
use Prim.Native.Nat.{ℕ, suc, ◌≤◌, ◌<◌}
use native.Mathlib.Nat.{le_refl}
use native.Mathlib.Omega.{arith}
use lib.ListN.{length, take}
use lib.Seq.{length-take-le}
use Rattle.meaning.specs.Lists.{any, keep}
use Rattle.meaning.specs.Counting.{Position, below, covered}
use Rattle.meaning.proofs.Tests.{clash, decided, refuted}
use Rattle.meaning.proofs.Lists.{any_at, any_of, keep_one_lem}
use Rattle.lists.specs.Members.{positions}
use Rattle.lists.proofs.Members.{positions-reverse, positions-length}
use Rattle.lists.proofs.Sorted.{reverse-member, member-reverse}

-- whether a test holds of a member
pub any-reverse : {A : Type 0} (f : A → Bool) (xs : List A) → any f (reverse xs) ≡ any f xs
any-reverse f xs =
    ⊎_elim
    (λ t. let r = any_at f xs t in any_of f (reverse xs) r.0 (reverse-member xs r.0 r.1) r.2 ∙ sym t)
    (λ n. refuted (any f (reverse xs))
    (λ t. let r = any_at f (reverse xs) t in clash (any f xs) (any_of f xs r.0 (member-reverse xs r.0 r.1) r.2) n) ∙ sym n)
    (decided (any f xs))

-- so words cover what they cover turned round
pub covered_reverse : (ws : List ℕ) (F : Position) → covered (positions (reverse ws)) F ≡ covered (positions ws) F
covered_reverse ws F = rw (positions-reverse ws) (any-reverse (below F) (positions ws))

-- those of a list that a test keeps are no more than the list
pub keep-length : {A : Type 0} (f : A → Bool) (xs : List A) → length (keep f xs) ≤ length xs
keep-length f [] = le_refl 0
keep-length f (x ∷ xs) =
    keep_one_lem (f x) x (keep f xs) (λ l. length l ≤ suc (length xs)) (λ _. omega (arith, keep-length f xs))
    (λ _. omega (arith, keep-length f xs))

-- those kept of the words before a place are fewer than the words
pub fewer : (set out : List ℕ) (f : Position → Bool) (i : ℕ) → i < length set → positions out ≡ keep f (positions (take i set))
    → length out < length set
fewer set out f i h e =
    omega (
      arith,
      positions-length out,
      ap length e,
      keep-length f (positions (take i set)),
      positions-length (take i set),
      length-take-le i set (omega (arith, h)),
    )
