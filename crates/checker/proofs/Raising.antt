-- Raising one state's counts: either they cover the position already, and nothing changes; or the greater ones are set and the state is
-- flagged, and there is less room. Assumes nothing.
use mathlib.Core.Path.{◌≡◌, refl, sym, ap, ◌∙◌}
use mathlib.Core.Logic.{inl, inr}
use mathlib.Core.Bool.{Bool, true, false}
use mathlib.Core.List.{List}
use Prim.Native.Nat.{ℕ, ◌+◌, ◌≤◌, ◌<◌, max}
use native.Mathlib.Omega.{arith}
use lib.ListN.{length, set}
use lib.Seq.{get_or-set_same, get_or-set_other}
use Rattle.meaning.specs.Counting.{Position, count, safe, below}
use Rattle.meaning.specs.Written.{position_bytes}
use Rattle.meaning.proofs.Steps.{below_at, safe_at}
use Rattle.counts.specs.Words.{counts_in}
use Rattle.counts.proofs.Wide.{wide_count}
use Rattle.counts.proofs.Bytes.{counts_in-length}
use Rattle.checker.specs.Raised.{counts_at, GreaterOf, Raised}
use Rattle.checker.proofs.Counts.{counts-here, counts-elsewhere, counts-length}
use Rattle.checker.proofs.Room.{room_less, room-set, not_below}

module _ (K s : ℕ) (F : Position) (most : List ℕ) (risen : List Bool) where
  pub covered_already : below F (counts_at most s) ≡ true → Raised K s F most risen most risen
  covered_already b =
      record {
        greatest = λ q. omega (arith, below_at F (counts_at most s) b q);
        flagged = inr (refl, refl);
        others = λ r _. (refl, refl);
        rises = inr (refl, refl);
      }

  pub raised_over : (m : ℕ) → s < length most → s < length risen → length F ≡ 8 → safe K F ≡ true
      → below F (counts_at most s) ≡ false → GreaterOf (counts_at most s) F (counts_in m)
      → Raised K s F most risen (set most s m) (set risen s true)
  unfolding counts_at
  raised_over m inside flags long safely over greater =
      let held = counts_at most s in
      let q = not_below F held over in
      let less : count held q.0 < count (counts_in m) q.0 = omega (arith, greater q.0, q.1) in
      let top : count (counts_in m) q.0 ≤ K + 2 = omega (arith, greater q.0, q.1, safe_at K F safely q.0) in
      record {
        greatest = λ q. ap (λ (G : Position). count G q) (counts-here most s m inside) ∙ greater q;
        flagged = inl (get_or-set_same risen s true false flags);
        others = λ r d. (counts-elsewhere most s m r d, get_or-set_other risen s r true false d);
        rises = inl (room-set K most s m inside
            (room_less K held (counts_in m) (counts-length most s ∙ sym (counts_in-length m)) (λ q. omega (arith, greater q))
            q.0 less top));
      }

-- for a position in eight counts is for the position
pub raised_wide : {K s : ℕ} {most most' : List ℕ} {risen risen' : List Bool} (F : Position) → length F ≤ 8
    → Raised K s (position_bytes F) most risen most' risen' → Raised K s F most risen most' risen'
raised_wide {s = s} {most = most} F few r =
    record {
      greatest = λ q. r.greatest q ∙ ap (max (count (counts_at most s) q)) (wide_count F few q);
      flagged = r.flagged;
      others = r.others;
      rises = r.rises;
    }

pub raised_as : {K s r : ℕ} {F G : Position} {most most' : List ℕ} {risen risen' : List Bool} → s ≡ r → F ≡ G
    → Raised K s F most risen most' risen' → Raised K r G most risen most' risen'
raised_as e f raised = rw (← e, ← f) raised
