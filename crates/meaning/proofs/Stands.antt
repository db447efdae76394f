-- Where a record stands: among n controllers and m worlds its ends are of the sides that its kind says. Every record of a table that passes
-- 4 to 10 stands among the table's own states, and renumbering moves it up by as many states on each side.
use mathlib.Core.Path.{◌≡◌, refl, sym, ap, ◌∙◌, subst⁻¹}
use mathlib.Core.Bool.{Bool, true, false, cond, ◌||◌}
use mathlib.Core.List.{List, Memᴰ}
use Prim.Native.Nat.{ℕ, suc, ◌+◌, ◌-◌, ◌≤◌, ◌<◌}
use native.Mathlib.Omega.{arith}
use lib.ListN.{length}
use lib.Dec.{eqb, leb}
use borrow.Author.Tests.{lt-leb}
use Rattle.meaning.specs.Records.{Record, blank, at, controller, world, output, limits, limit, of_kind}
use Rattle.meaning.specs.Table.{Table, table_of}
use Rattle.meaning.specs.Join.{upward, renumber, away, home}
use Rattle.meaning.specs.Checks.{dangling}
use Rattle.meaning.proofs.Tests.{neither_left}
use Rattle.meaning.proofs.Lists.{at-member}
use Rattle.meaning.proofs.Records.{Kind, of-controller, of-world, of_output, of-input, kind-of, kind_bounds, record_same, of_kind-of}
use Rattle.meaning.proofs.Records.{edge_record, Inside}
use Rattle.meaning.proofs.Sound.{Numbered, Sound, ends-declared}

-- the states that records declare
abbrev pub controllers_of : List Record → ℕ
controllers_of rs = length (of_kind controller rs)

abbrev pub worlds_of : List Record → ℕ
worlds_of rs = length (of_kind world rs)

abbrev pub home_in : List Record → ℕ → ℕ
home_in rs = home (controllers_of rs) (worlds_of rs)

abbrev pub away_in : List Record → ℕ → ℕ
away_in rs = away (controllers_of rs) (worlds_of rs)

-- a record renumbered upward by them
abbrev pub move_up : List Record → Record → Record
move_up rs = renumber (controllers_of rs) (worlds_of rs)

-- a record stands among n controllers and m worlds
pub record Stands (n m : ℕ) (r : Record) : Type 0 where
  pub known_kind : Kind r.kind
  pub from_in : r.from < home n m r.kind
  pub letter_in : r.letter ≤ limit r.kind 2
  pub to_in : r.to ≤ away n m r.kind - 1

-- every record stands among the states that they declare
abbrev pub Standing : List Record → Type 0
Standing rs = (r : Record) → Memᴰ r rs → Stands (controllers_of rs) (worlds_of rs) r

pub home-few : (b n m kind : ℕ) → Kind kind → n ≤ b → m ≤ b → home n m kind ≤ b
home-few b n m _ of-controller few-n few-m = few-n
home-few b n m _ of-world few-n few-m = few-m
home-few b n m _ of_output few-n few-m = few-n
home-few b n m _ of-input few-n few-m = few-m

-- among at most 8 states on each side it is within the limits
pub stands-inside : (n m : ℕ) (r : Record) → n ≤ 8 → m ≤ 8 → Stands n m r → Inside r
unfolding limit limits
stands-inside n m r few-n few-m s =
    let room = limits_hold r.kind s.known_kind in
    record {
      kind-low = (kind_bounds r.kind s.known_kind).0;
      kind_high = (kind_bounds r.kind s.known_kind).1;
      from_high = omega (arith, room.0, s.from_in);
      letter_high = s.letter_in;
      to_high = omega (arith, room.1, s.to_in);
    }
  where
    limits_hold : (kind : ℕ) → Kind kind → (home n m kind ≤ suc (limit kind 1)) × (away n m kind - 1 ≤ limit kind 3)
    limits_hold _ of-controller = omega arith
    limits_hold _ of-world = omega arith
    limits_hold _ of_output = omega arith
    limits_hold _ of-input = omega arith

-- and its ends are declared
pub stands-declared : (t : Table) (r : Record) → 0 < t.controllers → 0 < t.worlds → Stands t.controllers t.worlds r
    → dangling t r ≡ false
unfolding dangling
stands-declared t r some-n some-m s = go r.kind r.from r.letter r.to s.known_kind s.from_in s.to_in
  where
    go : (kind p l q : ℕ) → Kind kind → p < home t.controllers t.worlds kind → q ≤ away t.controllers t.worlds kind - 1
        → dangling t (edge_record kind l p q) ≡ false
    go _ p l q of-controller hp hq = refl
    go _ p l q of-world hp hq = refl
    go _ p l q of_output hp hq = rw (lt-leb t.controllers p hp, lt-leb t.worlds q (omega arith)) refl
    go _ p l q of-input hp hq = rw (lt-leb t.worlds p hp, lt-leb t.controllers q (omega arith)) refl

-- a state's number is below their count
state-below : (states : List Record) (r : Record) → Numbered states → Memᴰ r states → r.from < length states
state-below states r n m =
    let found = at-member states r blank m in
    let i : found.0 < length states = found.1 in
    let e : (at states found.0).from ≡ r.from = ap {B = ℕ} (λ (s : Record). s.from) found.2 in
    omega (arith, n.number found.0 i)

ends-below : (n m p q : ℕ) → (leb n p || leb m q) ≡ false → (p < n) × (q ≤ m - 1)
ends-below n m p q d = let ends = ends-declared n m p q d in omega (arith, ends.0, ends.1)

pub sound_stands : (rs : List Record) → Sound rs → Standing rs
unfolding limit limits dangling table_of
sound_stands rs s r m =
    let w = s.within r m in
    let kind = kind-of r.kind w.kind-low w.kind_high in
    let ends = go r.kind r.from r.letter r.to kind m w.to_high (s.declared r m) in
    record { known_kind = kind; from_in = ends.0; letter_in = w.letter_high; to_in = ends.1 }
  where
    go : (kind p l q : ℕ) → Kind kind → Memᴰ (edge_record kind l p q) rs → q ≤ limit kind 3
        → dangling (table_of rs) (edge_record kind l p q) ≡ false
        → (p < home_in rs kind) × (q ≤ away_in rs kind - 1)
    go _ p l q of-controller m hq d = (state-below (of_kind controller rs) _ s.controllers (of_kind-of controller rs _ m refl), hq)
    go _ p l q of-world m hq d = (state-below (of_kind world rs) _ s.worlds (of_kind-of world rs _ m refl), hq)
    go _ p l q of_output m hq d = ends-below (controllers_of rs) (worlds_of rs) p q
        (neither_left (leb (controllers_of rs) p || leb (worlds_of rs) q) false d)
    go _ p l q of-input m hq d = ends-below (worlds_of rs) (controllers_of rs) p q d

-- renumbering moves the ends up by the states that stand below
pub renumber-upward : (n m : ℕ) (r : Record) → renumber n m r ≡ upward (home n m r.kind) (away n m r.kind) r
unfolding renumber
renumber-upward n m r = go (eqb r.kind controller) (eqb r.kind world) (eqb r.kind output)
  where
    go : (a b c : Bool) → cond a (upward n 0 r) (cond b (upward m 0 r) (cond c (upward n m r) (upward m n r)))
        ≡ upward (cond a n (cond b m (cond c n m))) (cond a 0 (cond b 0 (cond c m n))) r
    go true b c = refl
    go false true c = refl
    go false false true = refl
    go false false false = refl

pub renumber-kind : (n m : ℕ) (r : Record) → (renumber n m r).kind ≡ r.kind
unfolding upward
renumber-kind n m r = ap {B = ℕ} (λ (s : Record). s.kind) (renumber-upward n m r)

pub renumber-from : (n m : ℕ) (r : Record) → (renumber n m r).from ≡ home n m r.kind + r.from
unfolding upward
renumber-from n m r = ap {B = ℕ} (λ (s : Record). s.from) (renumber-upward n m r)

pub renumber-letter : (n m : ℕ) (r : Record) → (renumber n m r).letter ≡ r.letter
unfolding upward
renumber-letter n m r = ap {B = ℕ} (λ (s : Record). s.letter) (renumber-upward n m r)

pub renumber-to : (n m : ℕ) (r : Record) → (renumber n m r).to ≡ away n m r.kind + r.to
unfolding upward
renumber-to n m r = ap {B = ℕ} (λ (s : Record). s.to) (renumber-upward n m r)

-- the sides of two tables add up
pub home_sum : (n m n' m' kind : ℕ) → home (n + n') (m + m') kind ≡ home n m kind + home n' m' kind
home_sum n m n' m' kind = go (eqb kind controller) (eqb kind world) (eqb kind output)
  where
    go : (a b c : Bool) → cond a (n + n') (cond b (m + m') (cond c (n + n') (m + m')))
        ≡ cond a n (cond b m (cond c n m)) + cond a n' (cond b m' (cond c n' m'))
    go true b c = refl
    go false true c = refl
    go false false true = refl
    go false false false = refl

pub away_sum : (n m n' m' kind : ℕ) → away (n + n') (m + m') kind ≡ away n m kind + away n' m' kind
away_sum n m n' m' kind = go (eqb kind controller) (eqb kind world) (eqb kind output)
  where
    go : (a b c : Bool) → cond a 0 (cond b 0 (cond c (m + m') (n + n')))
        ≡ cond a 0 (cond b 0 (cond c m n)) + cond a 0 (cond b 0 (cond c m' n'))
    go true b c = refl
    go false true c = refl
    go false false true = refl
    go false false false = refl

-- twice is once by the sums
pub renumber_twice : (n m n' m' : ℕ) (r : Record) → renumber n m (renumber n' m' r) ≡ renumber (n + n') (m + m') r
renumber_twice n m n' m' r =
    let s = renumber n' m' r in
    record_same (renumber n m s) (renumber (n + n') (m + m') r)
    (renumber-kind n m s ∙ renumber-kind n' m' r ∙ sym (renumber-kind (n + n') (m + m') r))
    (omega (
      arith,
      renumber-from n m s,
      renumber-from n' m' r,
      renumber-from (n + n') (m + m') r,
      home_sum n m n' m' r.kind,
      ap (home n m) (renumber-kind n' m' r),
    ))
    (renumber-letter n m s ∙ renumber-letter n' m' r ∙ sym (renumber-letter (n + n') (m + m') r))
    (omega (
      arith,
      renumber-to n m s,
      renumber-to n' m' r,
      renumber-to (n + n') (m + m') r,
      away_sum n m n' m' r.kind,
      ap (away n m) (renumber-kind n' m' r),
    ))

-- beside another table's states a record stands as it is, or renumbered
pub stands-first : (n m n' m' : ℕ) (r : Record) → Stands n m r → Stands (n + n') (m + m') r
stands-first n m n' m' r s =
    record {
      known_kind = s.known_kind;
      from_in = omega (arith, s.from_in, home_sum n m n' m' r.kind);
      letter_in = s.letter_in;
      to_in = omega (arith, s.to_in, away_sum n m n' m' r.kind);
    }

pub stands-second : (n m n' m' : ℕ) (r : Record) → 0 < n' → 0 < m' → Stands n' m' r → Stands (n + n') (m + m') (renumber n m r)
unfolding upward
stands-second n m n' m' r some-n some-m s =
    subst⁻¹ (Stands (n + n') (m + m')) (renumber-upward n m r)
    (record {
      known_kind = s.known_kind;
      from_in = omega (arith, s.from_in, home_sum n m n' m' r.kind);
      letter_in = s.letter_in;
      to_in = go r.kind r.to s.known_kind s.to_in;
    })
  where
    go : (kind q : ℕ) → Kind kind → q ≤ away n' m' kind - 1 → away n m kind + q ≤ away (n + n') (m + m') kind - 1
    go _ q of-controller h = omega arith
    go _ q of-world h = omega arith
    go _ q of_output h = omega arith
    go _ q of-input h = omega arith
