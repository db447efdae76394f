-- The largest counts for each controller state, and a flag for each state whose counts have risen since they were last led on.
use Rattle.std.specs.Prelude.{◌≡◌, ◌⊎◌, Bool, true, false, List, [], ◌∷◌, ℕ, ◌+◌, ◌-◌, ◌≤◌, ◌<◌, max, length, get_or}
use Rattle.meaning.specs.Counting.{Position, count, safe}
use Rattle.counts.specs.Words.{counts_in}

-- a state's counts, and its flag; past the array there is no run, and no flag
unfoldable pub counts_at : List ℕ → ℕ → Position
counts_at most s = counts_in (get_or most s 0)

abbrev pub flag_at : List Bool → ℕ → Bool
flag_at risen s = get_or risen s false

-- no state before this one is flagged
pub record NoneBefore (from : ℕ) (risen : List Bool) : Type 0 where
  pub within : from ≤ length risen
  pub none : (r : ℕ) → r < from → flag_at risen r ≡ false

-- how far a list's counts may still rise, up to K + 2; and those of all states
unfoldable pub room : ℕ → List ℕ → ℕ
room K [] = 0
room K (c ∷ cs) = (K + 2 - c) + room K cs

unfoldable pub room_of_all : ℕ → List ℕ → ℕ
room_of_all K [] = 0
room_of_all K (m ∷ ms) = room K (counts_in m) + room_of_all K ms

-- counts and flags afterwards: there is less room, or they are as they were
abbrev pub Rises : ℕ → List ℕ → List Bool → List ℕ → List Bool → Type 0
Rises K most risen most' risen' = (room_of_all K most' < room_of_all K most) ⊎ ((most' ≡ most) × (risen' ≡ risen))

-- each count is the greater of two
abbrev pub GreaterOf : Position → Position → Position → Type 0
GreaterOf F G H = (q : ℕ) → count H q ≡ max (count F q) (count G q)

-- Raised for a position F of state s: each count of s is the greater of its own and F's; if one rose s is flagged; all else stays
pub record Raised (K s : ℕ) (F : Position) (most : List ℕ) (risen : List Bool) (most' : List ℕ) (risen' : List Bool)
    : Type 0 where
  pub greatest : GreaterOf (counts_at most s) F (counts_at most' s)
  pub flagged : (flag_at risen' s ≡ true) ⊎ ((most' ≡ most) × (risen' ≡ risen))
  pub others : (r : ℕ) → (r ≡ s → ⊥) → (counts_at most' r ≡ counts_at most r) × (flag_at risen' r ≡ flag_at risen r)
  pub rises : Rises K most risen most' risen'

-- for every K that F is safe for
abbrev pub RaisedSafely : ℕ → Position → List ℕ → List Bool → List ℕ → List Bool → Type 0
RaisedSafely s F most risen most' risen' = (K : ℕ) → safe K F ≡ true → Raised K s F most risen most' risen'

-- Led on for the first n inputs, where input i leads to the state `next i` with the position `after i`
pub record Led (K n : ℕ) (next : ℕ → ℕ) (after : ℕ → Position) (most : List ℕ) (risen : List Bool) (most' : List ℕ)
    (risen' : List Bool) : Type 0 where
  -- each of these positions is safe, and the next state's counts are over it
  pub safely : (i : ℕ) → i < n → safe K (after i) ≡ true
  pub covers : (i : ℕ) → i < n → (q : ℕ) → count (after i) q ≤ count (counts_at most' (next i)) q
  -- counts only rise, and what rose came from one of these positions
  pub over : (s q : ℕ) → count (counts_at most s) q ≤ count (counts_at most' s) q
  pub came : (s q : ℕ) → (count (counts_at most' s) q ≡ count (counts_at most s) q)
      ⊎ ((i : ℕ) × (i < n) × (next i ≡ s) × (count (counts_at most' s) q ≡ count (after i) q))
  -- a state is flagged, or it is as it was; and only one that was led to is newly flagged
  pub flagged : (s : ℕ) → (flag_at risen' s ≡ true) ⊎ ((counts_at most' s ≡ counts_at most s) × (flag_at risen' s ≡ flag_at risen s))
  pub named : (s : ℕ) → flag_at risen' s ≡ true → (flag_at risen s ≡ true) ⊎ ((i : ℕ) × (i < n) × (next i ≡ s))
  pub rises : Rises K most risen most' risen'
