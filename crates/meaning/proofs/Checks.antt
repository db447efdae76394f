-- Lists of checks, whatever the call: the outcome is that of the first check that fails, or what follows if none does. So each reason is
-- given exactly under its "when" and after those before it, and what no refusal changes is left by every refusal. By induction on the
-- list.
use mathlib.Core.Path.{◌≡◌, refl, sym, ap, ◌∙◌}
use mathlib.Core.Logic.{◌↔◌, ◌⊎◌, inl, inr, ⊎_elim}
use mathlib.Core.Bool.{Bool, true, false, cond, not}
use mathlib.Core.List.Memᴰ
use mathlib.Core.List.{List, [], ◌∷◌, ◌++◌, Memᴰ}
use Prim.Native.Nat.{ℕ, zero, suc, ◌<◌, zero-le, suc-le-suc}
use native.Mathlib.Nat.{le_of_suc-le-suc, not-suc-le-zero}
use lib.ListN.{length, get_or}
use borrow.Author.Tests.{not-true}
use Rattle.meaning.specs.declared.Verdict.{Verdict}
use Rattle.meaning.specs.declared.Verdict.TheVariants.{Refused}
use Rattle.meaning.specs.declared.Refusal.{Refusal}
use Rattle.meaning.specs.Lists.{every}
use Rattle.meaning.specs.Checks.{Check, judge, Fails, Passes, FailsWith}
use Rattle.meaning.proofs.Tests.{both, both_left, both_right, decided}
use Rattle.meaning.proofs.Lists.{member-at, every-at, every_of}

-- each of them passes
pub passes-member : (cs : List Check) → Passes cs → (c : Check) → Memᴰ c cs → c.failed ≡ false
passes-member cs p c m = not-true c.failed (every-at (λ (d : Check). not d.failed) cs c p m)

pub passes_of : (cs : List Check) → ((c : Check) → Memᴰ c cs → c.failed ≡ false) → Passes cs
passes_of cs p = every_of (λ (c : Check). not c.failed) cs (λ c m. ap not (p c m))

pub passes_at : (cs : List Check) → Passes cs → (i : ℕ) (d : Check) → i < length cs → (get_or cs i d).failed ≡ false
passes_at cs p i d h = passes-member cs p (get_or cs i d) (member-at cs i d h)

-- two lists one after the other
pub passes_append : (cs ds : List Check) → Passes cs → Passes ds → Passes (cs ++ ds)
passes_append cs ds p q =
    passes_of (cs ++ ds) (λ c m. ⊎_elim (passes-member cs p c) (passes-member ds q c) (Memᴰ.append_cases cs m))

pub passes-left : (cs ds : List Check) → Passes (cs ++ ds) → Passes cs
passes-left cs ds p = passes_of cs (λ c m. passes-member (cs ++ ds) p c (Memᴰ.append_left ds m))

pub passes-right : (cs ds : List Check) → Passes (cs ++ ds) → Passes ds
passes-right cs ds p = passes_of ds (λ c m. passes-member (cs ++ ds) p c (Memᴰ.append_right cs m))

-- one of a list is the first that fails
abbrev pub Failure : List Check → Type 0
Failure cs = (i : ℕ) × (c : Check) × Fails cs i c

pub fails-member : (cs : List Check) (i : ℕ) (c : Check) → Fails cs i c → Memᴰ c cs
fails-member cs i c f = Memᴰ.cast (sym f.there.1) (member-at cs i c f.there.0)

-- a check that passes, before a list with a failure
fails-later : (d : Check) (cs : List Check) (i : ℕ) (c : Check) → d.failed ≡ false → Fails cs i c → Fails (d ∷ cs) (suc i) c
fails-later d cs i c p f =
    record { there = (suc-le-suc f.there.0, f.there.1); fails = f.fails; earlier = before }
  where
    before : (j : ℕ) → j < suc i → (get_or (d ∷ cs) j c).failed ≡ false
    before zero h = p
    before (suc j) h = f.earlier j (le_of_suc-le-suc h)

-- either no check fails, or one is the first that does
pub first_failure : (cs : List Check) → Passes cs ⊎ Failure cs
first_failure [] = inl refl
first_failure (d ∷ cs) = go (decided d.failed) (first_failure cs)
  where
    go : (d.failed ≡ true) ⊎ (d.failed ≡ false) → Passes cs ⊎ Failure cs → Passes (d ∷ cs) ⊎ Failure (d ∷ cs)
    go (inl p) rest =
        inr (zero, d, record { there = (suc-le-suc zero-le, refl); fails = p; earlier = λ j h. absurd (not-suc-le-zero h) })
    go (inr p) (inl q) = inl (both (not d.failed) (every (λ (c : Check). not c.failed) cs) (ap not p) q)
    go (inr p) (inr q) = inr (suc q.0, q.1, fails-later d cs q.0 q.1 p q.2)

-- the outcome where none fails, and where one is the first to fail
pub judge-passes : {A : Type 0} (cs : List Check) (refuse : Check → A) (grant : A) → Passes cs → judge cs refuse grant ≡ grant
judge-passes [] refuse grant p = refl
judge-passes (c ∷ cs) refuse grant p =
    let rest = every (λ (d : Check). not d.failed) cs in
    rw (not-true c.failed (both_left (not c.failed) rest p)) (judge-passes cs refuse grant (both_right (not c.failed) rest p))

pub judge-fails : {A : Type 0} (cs : List Check) (refuse : Check → A) (grant : A) (i : ℕ) (c : Check) → Fails cs i c
    → judge cs refuse grant ≡ refuse c
judge-fails [] refuse grant i c f = absurd (not-suc-le-zero f.there.0)
judge-fails (d ∷ cs) refuse grant zero c f =
    let e : d ≡ c = f.there.1 in rw (e, f.fails)
judge-fails (d ∷ cs) refuse grant (suc i) c f =
    rw (f.earlier zero (suc-le-suc zero-le))
    (judge-fails cs refuse grant i c
    (record {
      there = (le_of_suc-le-suc f.there.0, f.there.1);
      fails = f.fails;
      earlier =
          λ j h. f.earlier (suc j) (suc-le-suc h);
    }))

-- two lists one after the other
pub judge-append : {A : Type 0} (cs ds : List Check) (refuse : Check → A) (grant : A)
    → judge (cs ++ ds) refuse grant ≡ judge cs refuse (judge ds refuse grant)
judge-append [] ds refuse grant = refl
judge-append {A} (c ∷ cs) ds refuse grant = ap (λ (r : A). cond c.failed (refuse c) r) (judge-append cs ds refuse grant)

-- two outcomes that agree in a part, and whose refusals do, still agree in it after the same checks
pub judge_alike : {A B : Type 0} (part : A → B) (cs : List Check) (refuse other-refuse : Check → A) (grant other : A)
    → ((c : Check) → part (refuse c) ≡ part (other-refuse c)) → part grant ≡ part other
    → part (judge cs refuse grant) ≡ part (judge cs other-refuse other)
judge_alike part [] refuse other-refuse grant other refusals e = e
judge_alike part (c ∷ cs) refuse other-refuse grant other refusals e =
    go c.failed (judge_alike part cs refuse other-refuse grant other refusals e)
  where
    go : (b : Bool) → part (judge cs refuse grant) ≡ part (judge cs other-refuse other)
        → part (cond b (refuse c) (judge cs refuse grant)) ≡ part (cond b (other-refuse c) (judge cs other-refuse other))
    go true rest = refusals c
    go false rest = rest

-- Demand 1 of any call, of its checks, what it comes to where one fails and where none does, and its outcome
pub record Judged {A : Type 0} (verdict : A → Verdict) (cs : List Check) (refuse : Check → A) (grant out : A) : Type 0 where
  -- the outcome is that of the first check that fails, or what is granted if none does
  pub refuses : (i : ℕ) (c : Check) → Fails cs i c → out ≡ refuse c
  pub grants : Passes cs → out ≡ grant
  -- each refusal is given exactly where a check that has it is the first to fail, and any other verdict exactly where none fails
  pub refused-exactly : (r : Refusal) → (verdict out ≡ Refused r) ↔ FailsWith cs r
  pub granted-exactly : (v : Verdict) → ((r : Refusal) → v ≡ Refused r → ⊥) → (verdict out ≡ v) ↔ (Passes cs × (verdict grant ≡ v))

pub judged : {A : Type 0} (verdict : A → Verdict) (cs : List Check) (refuse : Check → A) (grant : A)
    → ((c : Check) → verdict (refuse c) ≡ Refused c.refusal) → ((r : Refusal) → verdict grant ≡ Refused r → ⊥)
    → Judged verdict cs refuse grant (judge cs refuse grant)
judged verdict cs refuse grant refusing granting =
    record {
      refuses = judge-fails cs refuse grant;
      grants = judge-passes cs refuse grant;
      refused-exactly = λ r. (
        refusal r (first_failure cs),
        λ f. ap verdict (judge-fails cs refuse grant f.0 f.1 f.2) ∙ refusing f.1 ∙ ap Refused f.3,
      );
      granted-exactly = λ v other. (grant-of v other (first_failure cs), λ p. ap verdict (judge-passes cs refuse grant p.0) ∙ p.1);
    }
  where
    refusal : (r : Refusal) → Passes cs ⊎ Failure cs → verdict (judge cs refuse grant) ≡ Refused r → FailsWith cs r
    refusal r (inl p) e = absurd (granting r (ap verdict (sym (judge-passes cs refuse grant p)) ∙ e))
    refusal r (inr f) e =
        let out = ap verdict (judge-fails cs refuse grant f.0 f.1 f.2) in
        let q : Refused f.1.refusal ≡ Refused r = sym (refusing f.1) ∙ sym out ∙ e in
        (f.0, f.1, f.2, cc)

    grant-of : (v : Verdict) → ((r : Refusal) → v ≡ Refused r → ⊥) → Passes cs ⊎ Failure cs
        → verdict (judge cs refuse grant) ≡ v → Passes cs × (verdict grant ≡ v)
    grant-of v other (inl p) e = (p, ap verdict (sym (judge-passes cs refuse grant p)) ∙ e)
    grant-of v other (inr f) e =
        absurd (other f.1.refusal (sym e ∙ ap verdict (judge-fails cs refuse grant f.0 f.1 f.2) ∙ refusing f.1))

-- a refusal leaves what every refusing outcome leaves
pub refusal-leaves : {A B : Type 0} {verdict : A → Verdict} {cs : List Check} {refuse : Check → A} {grant out : A}
    → Judged verdict cs refuse grant out → (part : A → B) (old : B) → ((c : Check) → part (refuse c) ≡ old)
    → (r : Refusal) → verdict out ≡ Refused r → part out ≡ old
refusal-leaves j part old leaves r e = let f = (j.refused-exactly r).0 e in ap part (j.refuses f.0 f.1 f.2) ∙ leaves f.1
