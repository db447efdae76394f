-- `joined` answers how many bytes the join wrote: its place, if it is not refused. They stand at the buffer's start, so they are no more
-- than it has. Assumes what std assumes of writing.
use mathlib.Core.Path.{◌≡◌, sym, ap, ◌∙◌}
use mathlib.Core.List.{List}
use Prim.Native.Nat.{ℕ, ◌≤◌}
use native.Mathlib.Omega.{arith}
use lib.ListN.{length, take, drop, length-append}
use Rattle.std.proofs.lemmas.List.{length-take-le}
use Rattle.meaning.specs.declared.Verdict.TheVariants.{Realizable}
use Rattle.meaning.specs.Answers.{join, Joined}
use Rattle.meaning.specs.Join.{joined_bytes}
use Rattle.meaning.proofs.Answers.{join-judged}
use Rattle.cases.proofs.calls.joined.Goals as goal

-- what a join writes ends within its buffer
ends-within : (one two out : List ℕ) (s : ℕ) → (join one two out).answer.verdict ≡ Realizable s
    → (join one two out).answer.place ≤ length (join one two out).out_after
ends-within one two out s granted =
    let new = joined_bytes one two in
    let passes = (((join-judged one two out).granted-exactly (Realizable s) (λ r f. let z : ◌≡◌ {A = ℕ} 0 1 = cc in omega arith)).0
    granted).0 in
    rw ((join-judged one two out).grants passes) (omega (arith, length-append new (drop (length new) out)))

-- and so do the bytes before its place
prefix_of : (n : ℕ) (bytes : List ℕ) → n ≤ length bytes → (n ≤ length bytes) × (n ≡ length (take n bytes))
prefix_of n bytes l = (l, sym (length-take-le n bytes l))

pub returns-in-Realizable-clause-within : goal.returns-in-Realizable-clause-within
returns-in-Realizable-clause-within g c =
    let e = c.join-answer.ensures in
    let granted = ap (λ (j : Joined). j.answer.verdict) (sym e) ∙ c.in-Realizable.is in
    let place = ap (λ (j : Joined). j.answer.place) e in
    let bytes = ap (λ (j : Joined). j.out_after) e in
    rw (place, bytes) (prefix_of _ _ (ends-within _ _ _ _ granted))
