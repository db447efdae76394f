-- A loop that goes over candidates and keeps what they climb to: the words hold what the definition has collected from the candidates so
-- far (`Collects`). One that a kept one covers is passed over; what any other climbs to is added at the end; and if there is no room for
-- it, there never will be, since what is collected, from a list or from the rows of pairs, grows. Assumes nothing.
use mathlib.Core.Path.{◌≡◌, refl, sym, ap, ◌∙◌}
use mathlib.Core.Logic.{⊎_elim}
use mathlib.Core.Bool.{true, false}
use mathlib.Core.List.{List, [], ◌∷◌, ◌++◌, map, reverse}
use Prim.Native.Nat.{ℕ, ◌≤◌, ◌<◌}
use native.Mathlib.Nat.{le_refl}
use native.Mathlib.Omega.{arith}
use lib.ListN.{length, length-append}
use Rattle.std.specs.Prelude.{Ok, Err}
use Rattle.meaning.specs.Counting.{Position, covered}
use Rattle.meaning.proofs.Tests.{decided}
use Rattle.counts.specs.Halves.{lesser_counts}
use Rattle.counts.specs.Words.{counts_in}
use Rattle.lists.specs.Members.{positions}
use Rattle.lists.proofs.Members.{positions-length, positions-more}
use Rattle.tops.specs.Tops.{meets, thinned}
use Rattle.tops.specs.Held.{Holds}
use Rattle.tops.specs.Candidates.{climbed, keep_one, collected, rows_of}
use Rattle.tops.proofs.Held.{holds_fits, holds-full}

-- a run over two lists goes over one and then the other
collected-append : (Fs l xs ys : List Position) → collected Fs l (xs ++ ys) ≡ collected Fs (collected Fs l xs) ys
unfolding collected
collected-append Fs l [] ys = refl
collected-append Fs l (F ∷ xs) ys = collected-append Fs (keep_one Fs l F) xs ys

-- one more that a kept one covers, and one more that none covers
module _ (Fs l : List Position) (F : Position) where
  keep-covered : covered l F ≡ true → keep_one Fs l F ≡ l
  unfolding keep_one
  keep-covered e = rw e

  keep-new : covered l F ≡ false → keep_one Fs l F ≡ l ++ climbed Fs F ∷ []
  unfolding keep_one
  keep-new e = rw e

  -- the list grows
  keep_grows : length l ≤ length (keep_one Fs l F)
  keep_grows =
      ⊎_elim (λ e. rw (keep-covered e) (le_refl (length l))) (λ e. rw (keep-new e, length-append l (climbed Fs F ∷ [])) (omega arith))
      (decided (covered l F))

pub collected_grows : (Fs l rest : List Position) → length l ≤ length (collected Fs l rest)
unfolding collected
collected_grows Fs l [] = le_refl (length l)
collected_grows Fs l (F ∷ rest) = omega (arith, keep_grows Fs l F, collected_grows Fs (keep_one Fs l F) rest)

pub rows_grow : (xs ys l : List Position) → length l ≤ length (rows_of xs ys l)
unfolding rows_of
rows_grow [] ys l = le_refl (length l)
rows_grow (x ∷ xs) ys l =
    let row = thinned (reverse (map (lesser_counts x) ys)) in
    omega (arith, collected_grows (meets xs ys) l row, rows_grow xs ys (collected (meets xs ys) l row))

-- the words, within the room, hold what was collected
pub record Collects (Fs l seen : List Position) (room : ℕ) (out : List ℕ) : Type 0 where
  pub within : length out ≤ room
  pub holds : positions out ≡ collected Fs l seen

-- nothing seen yet
pub collects_none : {Fs : List Position} {room : ℕ} (out : List ℕ) → length out ≤ room → Collects Fs (positions out) [] room out
unfolding collected
collects_none out h = record { within = h; holds = refl }

module _ {Fs l seen : List Position} {room : ℕ} {out : List ℕ} (so_far : Collects Fs l seen room out) where
  -- all seen
  pub collects_whole : Holds room (collected Fs l seen) out (Ok tt)
  collects_whole = holds_fits out so_far.within so_far.holds

  -- from those kept on
  onward : (rest : List Position) → collected Fs l (seen ++ rest) ≡ collected Fs (positions out) rest
  onward rest = collected-append Fs l seen rest ∙ ap (λ (k : List Position). collected Fs k rest) (sym so_far.holds)

  -- one more candidate: a kept one covers it, or it is new
  module _ (F : Position) where
    pub collects_pass : covered (positions out) F ≡ true → Collects Fs l (seen ++ F ∷ []) room out
    unfolding collected
    collects_pass c = record { within = so_far.within; holds = sym (onward (F ∷ []) ∙ keep-covered Fs (positions out) F c) }

    module _ (new : covered (positions out) F ≡ false) where
      pub collects_put : (top : ℕ) → counts_in top ≡ climbed Fs F → (length out ≡ room → ⊥)
          → Collects Fs l (seen ++ F ∷ []) room (out ++ top ∷ [])
      unfolding collected
      collects_put top climb k =
          record {
            within = omega (arith, length-append out (top ∷ []), so_far.within, apart);
            holds =
                positions-more out top ∙ ap (λ (T : Position). positions out ++ T ∷ []) climb
                ∙ sym (onward (F ∷ []) ∙ keep-new Fs (positions out) F new);
          }
        where
          apart : length out < room
          apart = omega (arith, k, so_far.within)

      pub collects_full : (rest : List Position) → length out ≡ room → Holds room (collected Fs l (seen ++ F ∷ rest)) out (Err (record {}))
      unfolding collected
      collects_full rest e =
          holds-full out refl
          (omega (
            arith,
            ap length (onward (F ∷ rest)),
            collected_grows Fs (keep_one Fs (positions out) F) rest,
            ap length (keep-new Fs (positions out) F new),
            length-append (positions out) (climbed Fs F ∷ []),
            positions-length out,
          ))
