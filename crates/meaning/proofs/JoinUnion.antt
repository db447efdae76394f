-- The joined records state the two tables side by side: each side has the first's states and then the second's with their marks, an edge of
-- the join is one of the first or one of the second moved up, and its letters are those of both.
use mathlib.Core.Path.{◌≡◌, refl, sym, ap, ◌∙◌, subst, subst⁻¹}
use mathlib.Core.Logic.{⊎_elim}
use mathlib.Core.Bool.{false}
use mathlib.Core.List.Memᴰ
use mathlib.Core.List.{List, ◌++◌, map, Memᴰ}
use Prim.Native.Nat.{ℕ, ◌+◌, ◌<◌, max}
use native.Mathlib.Omega.{arith}
use lib.ListN.{length, get_or-append}
use lib.Seq.{get_or-append-add}
use Rattle.meaning.specs.Records.{Record, blank, at, controller, world, output, input, of_kind}
use Rattle.meaning.specs.Table.{Half, letters, mark_in, start_in, mark_of, starts_of, edge_of, table_of}
use Rattle.meaning.specs.Join.{upward, renumber, joined, home, away}
use Rattle.meaning.proofs.Tests.{refuted, same_test}
use Rattle.meaning.proofs.Lists.{map_at, member-at}
use Rattle.meaning.proofs.Records.{Kind, of-controller, of-world, of_output, of-input, record_same, edge_record, edge-member}
use Rattle.meaning.proofs.Records.{member-edge}
use Rattle.meaning.proofs.Records.{letters_above, letters-least, of_kind-kind}
use Rattle.meaning.proofs.Sound.{Paired}
use Rattle.meaning.proofs.Union.{HalfUnion, Union}
use Rattle.meaning.proofs.Stands.{controllers_of, worlds_of, home_in, away_in, move_up, Standing, sound_stands, renumber-upward}
use Rattle.meaning.proofs.Stands.{renumber-kind, renumber-from, renumber-letter, renumber-to}
use Rattle.meaning.proofs.JoinKinds.{joined-kind, joined-count, joined_cases, joined-first, joined-second}

-- what a renumbered record was
renumbered_was : (n m kind p l q : ℕ) (s : Record) → renumber n m s ≡ edge_record kind l p q
    → (s.kind ≡ kind) × (home n m kind + s.from ≡ p) × (s.letter ≡ l) × (away n m kind + s.to ≡ q)
renumbered_was n m kind p l q s e =
    let k : s.kind ≡ kind = sym (renumber-kind n m s) ∙ ap {B = ℕ} (λ (r : Record). r.kind) e in (
      k,
      ap (λ (j : ℕ). home n m j + s.from) (sym k) ∙ sym (renumber-from n m s) ∙ ap {B = ℕ} (λ (r : Record). r.from) e,
      sym (renumber-letter n m s) ∙ ap {B = ℕ} (λ (r : Record). r.letter) e,
      ap (λ (j : ℕ). away n m j + s.to) (sym k) ∙ sym (renumber-to n m s) ∙ ap {B = ℕ} (λ (r : Record). r.to) e,
    )

module _ (rs ss : List Record) where
  -- record number i of a kind
  pub joined-at-first : (kind : ℕ) → Kind kind → (i : ℕ) → i < length (of_kind kind rs)
      → at (of_kind kind (joined rs ss)) i ≡ at (of_kind kind rs) i
  joined-at-first kind k i h = rw (joined-kind rs ss kind k)
      (get_or-append (of_kind kind rs) (map (move_up rs) (of_kind kind ss)) blank i h)

  pub joined-at-second : (kind : ℕ) → Kind kind → (i : ℕ) → i < length (of_kind kind ss)
      → at (of_kind kind (joined rs ss)) (length (of_kind kind rs) + i) ≡ move_up rs (at (of_kind kind ss) i)
  joined-at-second kind k i h =
      rw (joined-kind rs ss kind k)
      (get_or-append-add (of_kind kind rs) (map (move_up rs) (of_kind kind ss)) i blank
      ∙ map_at (move_up rs) (of_kind kind ss) i blank blank h)

  -- what a join keeps of a state's record: all but its number, and so whatever is read from the rest of it
  joined_keeps : {A : Type 0} (read : Record → A)
      → ((p : ℕ) (r : Record) → read (record { kind = r.kind; from = p; letter = r.letter; to = r.to }) ≡ read r)
      → (kind : ℕ) → Kind kind → ((n m : ℕ) → away n m kind ≡ 0) → (i : ℕ) → i < length (of_kind kind ss)
      → read (at (of_kind kind (joined rs ss)) (length (of_kind kind rs) + i)) ≡ read (at (of_kind kind ss) i)
  joined_keeps read unnumbered kind k leads-nowhere i h =
      let r = at (of_kind kind ss) i in
      let of-kind = of_kind-kind kind ss r (member-at (of_kind kind ss) i blank h) in
      let still : away_in rs r.kind ≡ 0 = ap (away_in rs) of-kind ∙ leads-nowhere (controllers_of rs) (worlds_of rs) in
      let moved : Record = record { kind = r.kind; from = (move_up rs r).from; letter = r.letter; to = r.to } in
      ap read
      (joined-at-second kind k i h
      ∙ record_same (move_up rs r) moved (renumber-kind (controllers_of rs) (worlds_of rs) r) refl
      (renumber-letter (controllers_of rs) (worlds_of rs) r) (omega (arith, renumber-to (controllers_of rs) (worlds_of rs) r, still)))
      ∙ unnumbered (move_up rs r).from r

  pub joined-letters : (kind : ℕ) → Kind kind → letters kind (joined rs ss) ≡ max (letters kind rs) (letters kind ss)
  joined-letters kind k =
      let up = letters-least kind (joined rs ss) (max (letters kind rs) (letters kind ss)) bounded in
      let first = letters-least kind rs (letters kind (joined rs ss)) (λ r m.
      letters_above kind (joined rs ss) r (member (Memᴰ.append_left (map (move_up rs) (of_kind kind ss)) m))) in
      let second = letters-least kind ss (letters kind (joined rs ss)) (λ s m.
      let l = renumber-letter (controllers_of rs) (worlds_of rs) s in
      omega (
        arith,
        letters_above kind (joined rs ss) (move_up rs s)
            (member (Memᴰ.append_right (of_kind kind rs) (Memᴰ.map (move_up rs) m))),
      )) in
      omega (arith, up, first, second)
    where
      member : {r : Record} → Memᴰ r (of_kind kind rs ++ map (move_up rs) (of_kind kind ss)) → Memᴰ r (of_kind kind (joined rs ss))
      member {r} m = subst⁻¹ (Memᴰ r) (joined-kind rs ss kind k) m

      bounded : (r : Record) → Memᴰ r (of_kind kind (joined rs ss)) → r.letter < max (letters kind rs) (letters kind ss)
      bounded r m =
          ⊎_elim (λ m. omega (arith, letters_above kind rs r m))
          (λ m.
          let found = Memᴰ.of_map (move_up rs) (of_kind kind ss) m in
          let l : (move_up rs found.0).letter ≡ r.letter = ap {B = ℕ} (λ (r : Record). r.letter) found.2 in
          omega (arith, letters_above kind ss found.0 found.1, renumber-letter (controllers_of rs) (worlds_of rs) found.0))
          (Memᴰ.append_cases (of_kind kind rs) (subst (Memᴰ r) (joined-kind rs ss kind k) m))

-- edges of a kind, where the first table's records stand among its states
module _ (rs ss : List Record) (stands : Standing rs) (kind : ℕ) (k : Kind kind) (l : ℕ) where
  edge-first : (p q : ℕ) → p < home_in rs kind → edge_of kind (joined rs ss) l p q ≡ edge_of kind rs l p q
  edge-first p q h =
      same_test (edge_of kind (joined rs ss) l p q) (edge_of kind rs l p q)
      (λ e. ⊎_elim (λ m. member-edge kind rs l p q m)
      (λ found. absurd (omega (arith, renumbered_was (controllers_of rs) (worlds_of rs) kind p l q found.0 found.2)))
      (joined_cases rs ss (edge_record kind l p q) (edge-member kind (joined rs ss) l p q e)))
      (λ e. member-edge kind (joined rs ss) l p q
      (joined-first rs ss (edge_record kind l p q) k (edge-member kind rs l p q e)))

  edge-second : (p q : ℕ) → edge_of kind (joined rs ss) l (home_in rs kind + p) (away_in rs kind + q)
      ≡ edge_of kind ss l p q
  unfolding upward
  edge-second p q =
      let r = edge_record kind l p q in
      let p' = home_in rs kind + p in
      let q' = away_in rs kind + q in
      same_test (edge_of kind (joined rs ss) l p' q') (edge_of kind ss l p q)
      (λ e. ⊎_elim (λ m. absurd (omega (arith, (stands (edge_record kind l p' q') m).from_in)))
      (λ found.
      let was = renumbered_was (controllers_of rs) (worlds_of rs) kind p' l q' found.0 found.2 in
      member-edge kind ss l p q
      (Memᴰ.cast (record_same r found.0 (sym was.0) (omega (arith, was.1)) (sym was.2) (omega (arith, was.3))) found.1))
      (joined_cases rs ss (edge_record kind l p' q') (edge-member kind (joined rs ss) l p' q' e)))
      (λ e. member-edge kind (joined rs ss) l p' q'
      (Memᴰ.cast (sym (renumber-upward (controllers_of rs) (worlds_of rs) r)) (joined-second rs ss r k (edge-member kind ss l p q e))))

  edge-down : (p q : ℕ) → 0 < away_in rs kind → p < home_in rs kind
      → edge_of kind (joined rs ss) l p (away_in rs kind + q) ≡ false
  edge-down p q some h =
      let q' = away_in rs kind + q in
      edge-first p q' h
      ∙ refuted (edge_of kind rs l p q') (λ e.
      let s = stands (edge_record kind l p q') (edge-member kind rs l p q' e) in
      omega (arith, s.to_in))

  edge_up : (p q : ℕ) → q < away_in rs kind → edge_of kind (joined rs ss) l (home_in rs kind + p) q ≡ false
  edge_up p q h =
      let p' = home_in rs kind + p in
      let r = edge_record kind l p' q in
      refuted (edge_of kind (joined rs ss) l p' q) (λ e. ⊎_elim (λ m. omega (arith, (stands r m).from_in))
      (λ found. omega (arith, renumbered_was (controllers_of rs) (worlds_of rs) kind p' l q found.0 found.2))
      (joined_cases rs ss r (edge-member kind (joined rs ss) l p' q e)))

-- one letter's half of a round, by the kinds of its states and edges
abbrev half : ℕ → ℕ → ℕ → ℕ → List Record → Half
half source target kind letter rs =
    record {
      sources = length (of_kind source rs);
      targets = length (of_kind target rs);
      edge = edge_of kind rs letter;
      mark =
          mark_of target rs;
    }

half_union : (rs ss : List Record) → Standing rs → (source target kind : ℕ) → Kind source → Kind target → Kind kind
    → ((n m : ℕ) → away n m target ≡ 0) → home_in rs kind ≡ length (of_kind source rs) → away_in rs kind ≡ length (of_kind target rs)
    → 0 < length (of_kind target rs)
    → (letter : ℕ) → HalfUnion (half source target kind letter rs) (half source target kind letter ss)
    (half source target kind letter (joined rs ss))
unfolding mark_of mark_in
half_union rs ss stands source target kind s t k still from to some letter =
    record {
      sources = joined-count rs ss source s;
      targets = joined-count rs ss target t;
      mark-first = λ q h. ap mark_in (joined-at-first rs ss target t q h);
      mark-second = λ q h. joined_keeps rs ss mark_in (λ p r. refl) target t still q h;
      edge-first = λ p q hp hq. edge-first rs ss stands kind k letter p q (omega arith);
      edge-second = λ p q hp hq. rw (← from, ← to) (edge-second rs ss stands kind k letter p q);
      edge-down = λ p q hp hq. rw (← to) (edge-down rs ss stands kind k letter p q (omega arith) (omega arith));
      edge_up = λ p q hp hq. rw (← from) (edge_up rs ss stands kind k letter p q (omega arith));
    }

-- the joined table is the two side by side
pub paired_union : (rs ss : List Record) → Paired rs ss → Union (table_of rs) (table_of ss) (table_of (joined rs ss))
unfolding table_of starts_of start_in
paired_union rs ss pair =
    let stands = sound_stands rs pair.first in
    let outputs = pair.outputs-same in
    let inputs = pair.inputs-same in
    record {
      outputs = omega (arith, joined-letters rs ss output of_output);
      inputs = omega (arith, joined-letters rs ss input of-input);
      outputs-same = sym outputs;
      inputs-same = sym inputs;
      starts_first = λ p h. ap start_in (joined-at-first rs ss controller of-controller p h);
      starts-second = λ p h. joined_keeps rs ss start_in (λ q r. refl) controller of-controller (λ n m. refl) p h;
      on-output = half_union rs ss stands controller world output of-controller of-world of_output (λ n m. refl) refl refl
          pair.first.worlds.some-state;
      on-input = half_union rs ss stands world controller input of-world of-controller of-input (λ n m. refl) refl refl
          pair.first.controllers.some-state;
    }
