-- Which lists have the same tops: two that cover each other, since a top of one is below a position of the other and that below a top of
-- the first again, so that all three are one; in particular some of a list's positions that cover it, and the tops themselves. A list that
-- is its own tops ascends and is alone. Assumes nothing.
use mathlib.Core.Path.{◌≡◌, sym, ◌∙◌}
use mathlib.Core.Bool.{true}
use mathlib.Core.List.Memᴰ
use mathlib.Core.List.{List, Memᴰ}
use Prim.Native.Nat.{ℕ}
use Rattle.meaning.specs.Counting.{Position, below}
use Rattle.meaning.proofs.Steps.{below_refl, below_trans, below_antisym}
use Rattle.lists.proofs.Members.{Sized}
use Rattle.tops.specs.Tops.{tops}
use Rattle.tops.proofs.Kept.{Covered, Kept, member-tops, tops-kept, tops-only}
use Rattle.tops.proofs.Climb.{tops_cover}

-- no position of a list is above another
abbrev pub Alone : List Position → Type 0
Alone l = (F G : Position) → Memᴰ F l → Memᴰ G l → below F G ≡ true → F ≡ G

-- two lists that cover each other have the same tops
pub tops-same : (n : ℕ) (Fs Gs : List Position) → Sized n Fs → Sized n Gs → ((F : Position) → Memᴰ F Fs → Covered Gs F)
    → ((G : Position) → Memᴰ G Gs → Covered Fs G) → tops Fs ≡ tops Gs
tops-same n Fs Gs s r c d =
    tops-only n Gs (tops Fs) r
    (record {
      ascends = (tops-kept n Fs s).ascends;
      among = λ F m. let g = c F (member-tops Fs F m) in Memᴰ.cast (alone F g.0 m g.1 g.2) g.1;
      maximal = alone;
    })
    covered
  where
    alone : (F G : Position) → Memᴰ F (tops Fs) → Memᴰ G Gs → below F G ≡ true → F ≡ G
    alone F G m k b =
        let f = d G k in
        let e : F ≡ f.0 = (tops-kept n Fs s).maximal F f.0 m f.1 (below_trans F G f.0 b f.2) in
        below_antisym F G (s F (member-tops Fs F m) ∙ sym (r G k)) b (rw e f.2)

    covered : (G : Position) → Memᴰ G Gs → Covered (tops Fs) G
    covered G k = let f = d G k in let h = tops_cover Fs f.0 f.1 in (h.0, h.1, below_trans G f.0 h.0 f.2 h.2)

-- some of a list's positions that cover it have the same tops
pub tops-thin : (n : ℕ) (Fs Gs : List Position) → Sized n Gs → ((F : Position) → Memᴰ F Fs → Memᴰ F Gs)
    → ((G : Position) → Memᴰ G Gs → Covered Fs G) → tops Fs ≡ tops Gs
tops-thin n Fs Gs s within covers = tops-same n Fs Gs (λ F m. s F (within F m)) s (λ F m. (F, within F m, below_refl F)) covers

-- the tops of tops are themselves
pub tops-again : (n : ℕ) (Fs : List Position) → Sized n Fs → tops (tops Fs) ≡ tops Fs
tops-again n Fs s = tops-thin n (tops Fs) Fs s (member-tops Fs) (tops_cover Fs)

-- a list that is its own tops ascends, and is alone
module _ (n : ℕ) (Fs : List Position) (s : Sized n Fs) (own : tops Fs ≡ Fs) where
  pub own-kept : Kept Fs Fs
  own-kept = rw own at (tops-kept n Fs s)

  pub own_alone : Alone Fs
  own_alone = own-kept.maximal
