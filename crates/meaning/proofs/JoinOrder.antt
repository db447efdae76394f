-- The order of a join: its records are the same however it is grouped, and swapped they differ only in the states' numbers. Of each kind
-- the records are the first table's and then the second's renumbered; so grouping is associativity, and swapping moves the first table's
-- states up past the second's and the second's down.
use mathlib.Core.Path.{◌≡◌, refl, sym, ap, ◌∙◌, fun_ext}
use mathlib.Core.Logic.{◌↔◌, ⊎_elim}
use mathlib.Core.List.Memᴰ
use mathlib.Core.List.{List, ◌++◌, map, append_assoc, map-append, map-map, Memᴰ}
use Prim.Native.Nat.{ℕ, ◌+◌, ◌-◌, ◌≤◌, ◌<◌}
use native.Mathlib.Nat.{zero-add}
use native.Mathlib.Omega.{arith}
use borrow.Author.Tests.{lt-ltb, le-ltb}
use Rattle.meaning.specs.Records.{Record, controller, world, of_kind}
use Rattle.meaning.specs.Join.{upward, renumber, joined, home, away, across, across_record}
use Rattle.meaning.proofs.Tests.{below_sum}
use Rattle.meaning.proofs.Records.{Kind, of-controller, of-world, of_output, of-input, record_same}
use Rattle.meaning.proofs.Sound.{Sound, Paired, paired-swapped}
use Rattle.meaning.proofs.Stands.{controllers_of, worlds_of, move_up, Stands, sound_stands, renumber-upward, renumber-kind}
use Rattle.meaning.proofs.Stands.{renumber-from, renumber-letter, renumber-to, renumber_twice}
use Rattle.meaning.proofs.JoinKinds.{by_kind-same, beside-kind, joined-kind, joined-count, joined_cases, joined-first, joined-second}

-- three tables' records of one kind
regrouped : (n m n' m' : ℕ) (rs ss ts : List Record)
    → rs ++ map (renumber n m) ss ++ map (renumber (n + n') (m + m')) ts ≡ rs ++ map (renumber n m) (ss ++ map (renumber n' m') ts)
regrouped n m n' m' rs ss ts =
    append_assoc rs (map (renumber n m) ss) (map (renumber (n + n') (m + m')) ts)
    ∙ ap (λ (l : List Record). rs ++ l)
    (ap (λ (l : List Record). map (renumber n m) ss ++ l)
    (sym (map-map (renumber n m) (renumber n' m') ts ∙ ap (λ (f : Record → Record). map f ts) (fun_ext (renumber_twice n m n' m'))))
    ∙ sym (map-append (renumber n m) ss (map (renumber n' m') ts)))

kind_grouped : (rs ss ts : List Record) (kind : ℕ) → Kind kind
    → of_kind kind (joined rs ss ++ map (move_up (joined rs ss)) ts) ≡ of_kind kind (rs ++ map (move_up rs) (joined ss ts))
kind_grouped rs ss ts kind k =
    beside-kind kind (controllers_of (joined rs ss)) (worlds_of (joined rs ss)) (joined rs ss) ts
    ∙ rw (joined-kind rs ss kind k, joined-count rs ss controller of-controller, joined-count rs ss world of-world)
    (regrouped (controllers_of rs) (worlds_of rs) (controllers_of ss) (worlds_of ss) (of_kind kind rs) (of_kind kind ss) (of_kind kind ts))
    ∙ ap (λ (l : List Record). of_kind kind rs ++ map (move_up rs) l) (sym (joined-kind ss ts kind k))
    ∙ sym (beside-kind kind (controllers_of rs) (worlds_of rs) rs (joined ss ts))

-- grouped anyhow
pub joined_grouped : (rs ss ts : List Record) → joined (joined rs ss) ts ≡ joined rs (joined ss ts)
unfolding joined
joined_grouped rs ss ts = by_kind-same (joined rs ss ++ map (move_up (joined rs ss)) ts) (rs ++ map (move_up rs) (joined ss ts))
    (kind_grouped rs ss ts)

across-first : (n m p : ℕ) → p < n → across n m p ≡ m + p
unfolding across
across-first n m p h = rw (lt-ltb p n h) refl

across-second : (n m p : ℕ) → across n m (n + p) ≡ p
unfolding across
across-second n m p = rw (le-ltb (n + p) n (omega arith)) (omega arith)

-- there and back a state is itself
pub across_twice : (n m p : ℕ) → p < n + m → across m n (across n m p) ≡ p
across_twice n m =
    below_sum (λ p. across m n (across n m p) ≡ p) n m
    (λ p l. ap (across m n) (across-first n m p l) ∙ across-second m n p)
    (λ p l. ap (across m n) (across-second n m p) ∙ across-first m n p l)

-- the first table's records move up
record_across-first : (n m n' m' : ℕ) (r : Record) → 0 < n → 0 < m → Stands n m r → across_record n m n' m' r ≡ renumber n' m' r
unfolding across_record
record_across-first n m n' m' r some-n some-m s =
    record_same (across_record n m n' m' r) (renumber n' m' r) (sym (renumber-kind n' m' r))
    (across-first (home n m r.kind) (home n' m' r.kind) r.from s.from_in ∙ sym (renumber-from n' m' r))
    (sym (renumber-letter n' m' r))
    (go r.kind r.to s.known_kind s.to_in ∙ sym (renumber-to n' m' r))
  where
    nowhere : (q : ℕ) → across 0 0 q ≡ 0 + q
    nowhere q = ap (across 0 0) (sym (zero-add q)) ∙ across-second 0 0 q ∙ sym (zero-add q)

    go : (kind q : ℕ) → Kind kind → q ≤ away n m kind - 1 → across (away n m kind) (away n' m' kind) q ≡ away n' m' kind + q
    go _ q of-controller h = nowhere q
    go _ q of-world h = nowhere q
    go _ q of_output h = across-first m m' q (omega arith)
    go _ q of-input h = across-first n n' q (omega arith)

-- the second table's come back
record_across-second : (n m n' m' : ℕ) (r : Record) → across_record n m n' m' (renumber n m r) ≡ r
unfolding across_record upward
record_across-second n m n' m' r =
    ap (across_record n m n' m') (renumber-upward n m r)
    ∙ record_same (across_record n m n' m' (upward (home n m r.kind) (away n m r.kind) r)) r refl
    (across-second (home n m r.kind) (home n' m' r.kind) r.from) refl
    (across-second (away n m r.kind) (away n' m' r.kind) r.to)

-- a record of a join as the swapped join has it
abbrev pub swapped_record : List Record → List Record → Record → Record
swapped_record rs ss = across_record (controllers_of rs) (worlds_of rs) (controllers_of ss) (worlds_of ss)

swapped-second : (rs ss : List Record) (s : Record) → swapped_record rs ss (move_up rs s) ≡ s
swapped-second rs ss s = record_across-second (controllers_of rs) (worlds_of rs) (controllers_of ss) (worlds_of ss) s

swapped-first : (rs ss : List Record) → Sound rs → (r : Record) → Memᴰ r rs → swapped_record rs ss r ≡ move_up ss r
swapped-first rs ss sound r m =
    record_across-first (controllers_of rs) (worlds_of rs) (controllers_of ss) (worlds_of ss) r
    sound.controllers.some-state sound.worlds.some-state (sound_stands rs sound r m)

-- each record of the join, swapped, is one of the swapped join,
record_swapped : (rs ss : List Record) → Paired rs ss → (r : Record) → Memᴰ r (joined rs ss)
    → Memᴰ (swapped_record rs ss r) (joined ss rs)
record_swapped rs ss pair r m =
    ⊎_elim (λ m.
    Memᴰ.cast (swapped-first rs ss pair.first r m) (joined-second ss rs r (sound_stands rs pair.first r m).known_kind m))
    (λ found.
    Memᴰ.cast (ap (swapped_record rs ss) (sym found.2) ∙ swapped-second rs ss found.0)
    (joined-first ss rs found.0 (sound_stands ss pair.second found.0 found.1).known_kind found.1))
    (joined_cases rs ss r m)

-- and swapped back it is itself
record_swapped-back : (rs ss : List Record) → Paired rs ss → (r : Record) → Memᴰ r (joined rs ss)
    → swapped_record ss rs (swapped_record rs ss r) ≡ r
record_swapped-back rs ss pair r m =
    ⊎_elim (λ m. ap (swapped_record ss rs) (swapped-first rs ss pair.first r m) ∙ swapped-second ss rs r)
    (λ found.
    ap (λ (s : Record). swapped_record ss rs (swapped_record rs ss s)) (sym found.2)
    ∙ ap (swapped_record ss rs) (swapped-second rs ss found.0) ∙ swapped-first ss rs pair.second found.0 found.1 ∙ found.2)
    (joined_cases rs ss r m)

-- so the swapped join has exactly the other's records with their states renumbered
pub joined-swapped : (rs ss : List Record) → Paired rs ss → (s : Record)
    → Memᴰ s (joined ss rs) ↔ Memᴰ s (map (swapped_record rs ss) (joined rs ss))
joined-swapped rs ss pair s =
    let other = paired-swapped rs ss pair in (
      λ m. Memᴰ.cast (sym (record_swapped-back ss rs other s m)) (Memᴰ.map (swapped_record rs ss) (record_swapped ss rs other s m)),
      λ m.
          let found = Memᴰ.of_map (swapped_record rs ss) (joined rs ss) m in
          Memᴰ.cast (sym found.2) (record_swapped rs ss pair found.0 found.1),
    )
