-- The maximal ones of a list: an ascending list that holds only maximal ones and covers the whole list is that list and no other. So a loop
-- that keeps such a list keeps the tops. Assumes nothing.
use mathlib.Core.Path.{◌≡◌, sym, ap, ◌∙◌}
use mathlib.Core.Logic.{⊎_elim}
use mathlib.Core.Bool.{true, not}
use mathlib.Core.List.Memᴰ
use mathlib.Core.List.{List, [], ◌∷◌, ◌++◌, Memᴰ}
use Prim.Native.Nat.{ℕ}
use borrow.Author.Tests.{not-true}
use Rattle.meaning.specs.Lists.{keep, Ascending}
use Rattle.meaning.specs.Counting.{Position, below}
use Rattle.meaning.proofs.Tests.{clash, decided, either_left, either-right, either_cases}
use Rattle.meaning.proofs.Lists.{every-at, every_of, keep-member, keep-holds, keep-of}
use Rattle.meaning.proofs.Steps.{below_refl, below_antisym}
use Rattle.meaning.proofs.Ascending.{ascending-equal}
use Rattle.lists.proofs.Members.{Sized}
use Rattle.lists.specs.Sorted.{put}
use Rattle.lists.proofs.Put.{member-put, put-ascends, gathered-member, member-gathered, gathered-ascends}
use Rattle.tops.specs.Tops.{top, tops}

-- a list keeps maximal ones of Fs, ascending
pub record Kept (Fs l : List Position) : Type 0 where
  pub ascends : Ascending l
  pub among : (F : Position) → Memᴰ F l → Memᴰ F Fs
  pub maximal : (F G : Position) → Memᴰ F l → Memᴰ G Fs → below F G ≡ true → F ≡ G

-- a list covers a position
abbrev pub Covered : List Position → Position → Type 0
Covered l F = (G : Position) × Memᴰ G l × (below F G ≡ true)

-- a maximal one may be put to those kept
pub kept_put : (Fs l : List Position) (F : Position) → Kept Fs l → Memᴰ F Fs
    → ((G : Position) → Memᴰ G Fs → below F G ≡ true → F ≡ G) → Kept Fs (put F l)
kept_put Fs l F k m top =
    record {
      ascends = put-ascends F l k.ascends;
      among = λ G j. ⊎_elim (λ (e : G ≡ F). rw e m) (λ i. k.among G i) (member-put F G l j);
      maximal = λ G H j i b. ⊎_elim (λ (e : G ≡ F). e ∙ top H i (rw e at b)) (λ o. k.maximal G H o i b) (member-put F G l j);
    }

-- a top has nothing over it in the list
pub top-at : (Fs : List Position) (F G : Position) → top Fs F ≡ true → Memᴰ G Fs → below F G ≡ true → below G F ≡ true
unfolding top
top-at Fs F G t m b =
    ⊎_elim (λ n. absurd (clash (below F G) b (not-true (below F G) n))) (λ (c : below G F ≡ true). c)
    (either_cases (not (below F G)) (below G F) (every-at _ Fs G t m))

pub top_of : (Fs : List Position) (F : Position) → ((G : Position) → Memᴰ G Fs → below F G ≡ true → below G F ≡ true) → top Fs F ≡ true
unfolding top
top_of Fs F p =
    every_of _ Fs
    (λ G m. ⊎_elim (λ b. either-right (not (below F G)) (below G F) (p G m b)) (λ b. either_left (not (below F G)) (below G F) (ap not b))
    (decided (below F G)))

-- among positions of one size only itself is above it
pub top-alone : (n : ℕ) (Fs : List Position) → Sized n Fs → (F : Position) → Memᴰ F Fs → top Fs F ≡ true
    → (G : Position) → Memᴰ G Fs → below F G ≡ true → F ≡ G
top-alone n Fs s F m t G k b = below_antisym F G (s F m ∙ sym (s G k)) b (top-at Fs F G t k b)

-- the members of the tops: the list's positions with nothing over them
pub tops-member : (Fs : List Position) (F : Position) → Memᴰ F Fs → top Fs F ≡ true → Memᴰ F (tops Fs)
unfolding tops
tops-member Fs F m t = gathered-member (keep (top Fs) Fs) F (keep-of (top Fs) Fs F m t)

pub member-tops : (Fs : List Position) (F : Position) → Memᴰ F (tops Fs) → Memᴰ F Fs
unfolding tops
member-tops Fs F m = keep-member (top Fs) Fs F (member-gathered (keep (top Fs) Fs) F m)

pub tops-top : (Fs : List Position) (F : Position) → Memᴰ F (tops Fs) → top Fs F ≡ true
unfolding tops
tops-top Fs F m = keep-holds (top Fs) Fs F (member-gathered (keep (top Fs) Fs) F m)

-- those kept are tops
pub kept-tops : (Fs l : List Position) → Kept Fs l → (F : Position) → Memᴰ F l → Memᴰ F (tops Fs)
kept-tops Fs l k F m = tops-member Fs F (k.among F m) (top_of Fs F (λ G j b. rw (k.maximal F G m j b) (below_refl G)))

-- the tops are kept, and cover
pub tops-kept : (n : ℕ) (Fs : List Position) → Sized n Fs → Kept Fs (tops Fs)
unfolding tops
tops-kept n Fs s =
    record {
      ascends = gathered-ascends (keep (top Fs) Fs);
      among = member-tops Fs;
      maximal = λ F G m k b. top-alone n Fs s F (member-tops Fs F m) (tops-top Fs F m) G k b;
    }

-- and are the only list that does both
pub tops-only : (n : ℕ) (Fs l : List Position) → Sized n Fs → Kept Fs l → ((F : Position) → Memᴰ F Fs → Covered l F) → l ≡ tops Fs
tops-only n Fs l s k c =
    ascending-equal l (tops Fs) k.ascends (tops-kept n Fs s).ascends (kept-tops Fs l k) only
  where
    only : (F : Position) → Memᴰ F (tops Fs) → Memᴰ F l
    only F m =
        let r = c F (member-tops Fs F m) in
        Memᴰ.cast ((tops-kept n Fs s).maximal F r.0 m (k.among r.0 r.1) r.2) r.1

-- the top of one position alone
pub tops-one : (F : Position) → tops (F ∷ []) ≡ F ∷ []
unfolding tops top put
tops-one F = rw (below_refl F)

-- the sizes of two lists one after the other, and of the tops
pub append-sized : (n : ℕ) (Fs Gs : List Position) → Sized n Fs → Sized n Gs → Sized n (Fs ++ Gs)
append-sized n Fs Gs s r F m = ⊎_elim (λ k. s F k) (λ k. r F k) (Memᴰ.append_cases Fs m)

pub tops-sized : (n : ℕ) (Fs : List Position) → Sized n Fs → Sized n (tops Fs)
tops-sized n Fs s F m = s F (member-tops Fs F m)
