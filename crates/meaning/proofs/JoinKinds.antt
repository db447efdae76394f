-- The records of a join, kind by kind and one by one: of each kind they are the first table's and then the second's renumbered, and so the
-- members of the join are the first's records and the second's renumbered.
use mathlib.Core.Path.{◌≡◌, refl, ap, ap₂, ◌∙◌, subst⁻¹}
use mathlib.Core.Logic.{◌⊎◌, inl, inr, ⊎_elim}
use mathlib.Core.Bool.{Bool, false}
use mathlib.Core.List.Memᴰ
use mathlib.Core.List.{List, [], ◌++◌, map, append-nil, Memᴰ}
use Prim.Native.Nat.{ℕ, ◌+◌}
use lib.ListN.{length, length-append, length-map}
use lib.Dec.{eqb}
use borrow.Author.Tests.{eq-eqb}
use Rattle.meaning.specs.Records.{Record, controller, world, output, input, of_kind}
use Rattle.meaning.specs.Join.{by_kind, renumber, joined}
use Rattle.meaning.proofs.Lists.{keep_same, keep_append, keep-map, keep_all, keep-none}
use Rattle.meaning.proofs.Records.{Kind, of-controller, of-world, of_output, of-input, of_kind-member, of_kind-kind, of_kind-of}
use Rattle.meaning.proofs.Stands.{controllers_of, worlds_of, move_up, renumber-kind}

pub of_kind-append : (kind : ℕ) (rs ss : List Record) → of_kind kind (rs ++ ss) ≡ of_kind kind rs ++ of_kind kind ss
unfolding of_kind
of_kind-append kind rs ss = keep_append (λ (r : Record). eqb r.kind kind) rs ss

pub of_kind-renumber : (kind n m : ℕ) (rs : List Record) → of_kind kind (map (renumber n m) rs) ≡ map (renumber n m) (of_kind kind rs)
unfolding of_kind
of_kind-renumber kind n m rs =
    let f : Record → Bool = λ r. eqb r.kind kind in
    keep-map f (renumber n m) rs
    ∙ ap (map (renumber n m)) (keep_same (λ r. f (renumber n m r)) f rs (λ r _. ap (λ (k : ℕ). eqb k kind) (renumber-kind n m r)))

-- the records of one kind among those of a kind: all of them, or none
of_kind-same : (kind : ℕ) (rs : List Record) → of_kind kind (of_kind kind rs) ≡ of_kind kind rs
unfolding of_kind
of_kind-same kind rs =
    keep_all (λ (r : Record). eqb r.kind kind) (of_kind kind rs) (λ r m. eq-eqb r.kind kind (of_kind-kind kind rs r m))

of_kind_other : (kind : ℕ) (rs : List Record) (other : ℕ) → eqb other kind ≡ false → of_kind kind (of_kind other rs) ≡ []
unfolding of_kind
of_kind_other kind rs other d =
    keep-none (λ (r : Record). eqb r.kind kind) (of_kind other rs) (λ r m. ap (λ (k : ℕ). eqb k kind) (of_kind-kind other rs r m) ∙ d)

pub by_kind-kind : (kind : ℕ) → Kind kind → (rs : List Record) → of_kind kind (by_kind rs) ≡ of_kind kind rs
unfolding by_kind
by_kind-kind _ of-controller rs =
    let none = of_kind_other controller rs in
    simp (of_kind-append, of_kind-same, none world refl, none output refl, none input refl, append-nil)
by_kind-kind _ of-world rs =
    let none = of_kind_other world rs in
    simp (of_kind-append, of_kind-same, none controller refl, none output refl, none input refl, append-nil)
by_kind-kind _ of_output rs =
    let none = of_kind_other output rs in
    simp (of_kind-append, of_kind-same, none controller refl, none world refl, none input refl, append-nil)
by_kind-kind _ of-input rs =
    let none = of_kind_other input rs in
    simp (of_kind-append, of_kind-same, none controller refl, none world refl, none output refl)

-- records with the same of each kind
pub by_kind-same : (rs ss : List Record) → ((kind : ℕ) → Kind kind → of_kind kind rs ≡ of_kind kind ss) → by_kind rs ≡ by_kind ss
unfolding by_kind
by_kind-same rs ss e =
    ap₂ ◌++◌ (ap₂ ◌++◌ (ap₂ ◌++◌ (e controller of-controller) (e world of-world)) (e output of_output)) (e input of-input)

pub by_kind-member : (rs : List Record) (r : Record) → Memᴰ r (by_kind rs) → Memᴰ r rs
unfolding by_kind
by_kind-member rs r m =
    let cs = of_kind controller rs in
    let ws = of_kind world rs in
    let os = of_kind output rs in
    ⊎_elim (λ m. ⊎_elim (λ m. ⊎_elim (of_kind-member controller rs r) (of_kind-member world rs r) (Memᴰ.append_cases cs m))
    (of_kind-member output rs r) (Memᴰ.append_cases (cs ++ ws) m))
    (of_kind-member input rs r) (Memᴰ.append_cases (cs ++ ws ++ os) m)

pub by_kind-of : (rs : List Record) (r : Record) → Kind r.kind → Memᴰ r rs → Memᴰ r (by_kind rs)
by_kind-of rs r k m =
    of_kind-member r.kind (by_kind rs) r (subst⁻¹ (Memᴰ r) (by_kind-kind r.kind k rs) (of_kind-of r.kind rs r m refl))

-- of each kind: the first's and then the second's
pub beside-kind : (kind n m : ℕ) (rs ss : List Record)
    → of_kind kind (rs ++ map (renumber n m) ss) ≡ of_kind kind rs ++ map (renumber n m) (of_kind kind ss)
beside-kind kind n m rs ss = of_kind-append kind rs (map (renumber n m) ss)
    ∙ ap (λ (l : List Record). of_kind kind rs ++ l) (of_kind-renumber kind n m ss)

module _ (rs ss : List Record) where
  pub joined-kind : (kind : ℕ) → Kind kind → of_kind kind (joined rs ss) ≡ of_kind kind rs ++ map (move_up rs) (of_kind kind ss)
  unfolding joined
  joined-kind kind k = by_kind-kind kind k (rs ++ map (move_up rs) ss) ∙ beside-kind kind (controllers_of rs) (worlds_of rs) rs ss

  pub joined-count : (kind : ℕ) → Kind kind → length (of_kind kind (joined rs ss)) ≡ length (of_kind kind rs) + length (of_kind kind ss)
  joined-count kind k = rw (joined-kind kind k, length-append, length-map) refl

  -- a record of the join is of the first table, or one of the second's renumbered
  pub joined_cases : (r : Record) → Memᴰ r (joined rs ss)
      → Memᴰ r rs ⊎ ((s : Record) × Memᴰ s ss × (move_up rs s ≡ r))
  unfolding joined
  joined_cases r m =
      ⊎_elim (λ m. inl m) (λ m. inr (Memᴰ.of_map (move_up rs) ss m))
      (Memᴰ.append_cases rs (by_kind-member (rs ++ map (move_up rs) ss) r m))

  pub joined-first : (r : Record) → Kind r.kind → Memᴰ r rs → Memᴰ r (joined rs ss)
  unfolding joined
  joined-first r k m = by_kind-of (rs ++ map (move_up rs) ss) r k (Memᴰ.append_left (map (move_up rs) ss) m)

  pub joined-second : (s : Record) → Kind s.kind → Memᴰ s ss → Memᴰ (move_up rs s) (joined rs ss)
  unfolding joined
  joined-second s k m =
      by_kind-of (rs ++ map (move_up rs) ss) (move_up rs s) (subst⁻¹ Kind (renumber-kind (controllers_of rs) (worlds_of rs) s) k)
      (Memᴰ.append_right rs (Memᴰ.map (move_up rs) m))
