-- A join of two tables that pass passes 4 to 10 too. Its records stand among the states of both, so they are within the limits and
-- declared; kind by kind the first's grow below the second's, so they ascend, and there are at most 8 states on a side and 512 edges of a
-- kind; its states are numbered on; and side by side the two tables keep a start state and leave no gap.
use mathlib.Core.Path.{◌≡◌, refl, ap, ◌∙◌, subst, subst⁻¹}
use mathlib.Core.Logic.{⊎_elim}
use mathlib.Core.Bool.{true, false}
use mathlib.Core.List.Memᴰ
use mathlib.Core.List.{List, ◌++◌, map, Memᴰ}
use Prim.Native.Nat.{ℕ, suc, ◌+◌, ◌*◌, ◌%◌, ◌≤◌, ◌<◌}
use native.Mathlib.Omega.{arith}
use lib.ListN.{length, length-append}
use borrow.Author.Tests.{eq-eqb, ne_eqb, le-ltb, not-false}
use Rattle.meaning.specs.Lists.{some}
use Rattle.meaning.specs.Records.{Record, bytes_of, blank, at, controller, world, output, input, of_kind}
use Rattle.meaning.specs.Table.{Half, Table, on_output, on_input, table_of}
use Rattle.meaning.specs.Join.{by_kind, renumber, joined, home, away}
use Rattle.meaning.specs.Checks.{wrong_size, no_start, total, gap}
use Rattle.meaning.proofs.Tests.{each_of, some_at, some_of, below_sum}
use Rattle.meaning.proofs.Lists.{member-at}
use Rattle.meaning.proofs.Good.{total-leads, leads-at, leads-of}
use Rattle.meaning.proofs.Records.{Kind, of-controller, of-world, of_output, of-input, bytes-length, of_kind-member, of_kind-kind}
use Rattle.meaning.proofs.Records.{Inside}
use Rattle.meaning.proofs.Records.{inside-bytes}
use Rattle.meaning.proofs.Sound.{Numbered, Sound, Paired}
use Rattle.meaning.proofs.Union.{HalfUnion, Union, controllers_sum}
use Rattle.meaning.proofs.Stands.{controllers_of, worlds_of, home_in, away_in, move_up, Stands, home-few, stands-inside}
use Rattle.meaning.proofs.Stands.{stands-declared, sound_stands, renumber-kind, renumber-from, renumber-letter, renumber-to}
use Rattle.meaning.proofs.Stands.{stands-first}
use Rattle.meaning.proofs.Stands.{stands-second}
use Rattle.meaning.proofs.Growing.{value, value_range, below-ascends, Growing, growing_append, growing_length, growing_of_kind}
use Rattle.meaning.proofs.Growing.{growing_map}
use Rattle.meaning.proofs.Growing.{growing_within, growing_at, sound_growing}
use Rattle.meaning.proofs.JoinKinds.{by_kind-kind, beside-kind, joined-count, joined_cases, joined-second}
use Rattle.meaning.proofs.JoinUnion.{joined-at-first, joined-at-second, paired_union}

-- moved up, a record's value grows by the same for all of its kind
value-moved : (n m : ℕ) (r : Record) → value (renumber n m r) ≡ 64 * home n m r.kind + away n m r.kind + value r
unfolding value
value-moved n m r = omega (arith, renumber-kind n m r, renumber-from n m r, renumber-letter n m r, renumber-to n m r)

-- a letter that leads on from every state of both tables leads on from every state of the whole
total_union : (h g whole : Half) → HalfUnion h g whole → total h ≡ true → total g ≡ true → total whole ≡ true
unfolding total
total_union h g whole un p q =
    each_of whole.sources (λ i. some whole.targets (λ j. whole.edge i j)) (λ i l.
    below_sum (λ i. some whole.targets (λ j. whole.edge i j) ≡ true) h.sources g.sources
    (λ i l.
    let to = total-leads h p i l in
    some_of whole.targets (λ j. whole.edge i j) to.0 (omega (arith, to.1)) (un.edge-first i to.0 l to.1 ∙ to.2))
    (λ i l.
    let to = total-leads g q i l in
    some_of whole.targets (λ j. whole.edge (h.sources + i) j) (h.targets + to.0) (omega (arith, to.1))
    (un.edge-second i to.0 l to.1 ∙ to.2))
    i (omega arith))

module _ (t u whole : Table) (un : Union t u whole) where
  -- 10 GAP
  union_gap : gap t ≡ false → gap u ≡ false → gap whole ≡ false
  union_gap p q =
      let first = leads-at t p in
      let second = leads-at u q in
      leads-of whole
      (record {
        some-output = omega (arith, first.some-output);
        some-input = omega (arith, first.some-input);
        on-output = λ o l.
            total_union (on_output t o) (on_output u o) (on_output whole o) (un.on-output o) (first.on-output o (omega arith))
            (second.on-output o (omega arith));
        on-input = λ i l.
            total_union (on_input t i) (on_input u i) (on_input whole i) (un.on-input i) (first.on-input i (omega arith))
            (second.on-input i (omega arith));
      })

  -- 8 START
  union_start : no_start t ≡ false → no_start whole ≡ false
  unfolding no_start
  union_start p =
      let start = some_at t.controllers t.starts (not-false (some t.controllers t.starts) p) in
      let below : start.0 < t.controllers = start.1 in
      let inside : start.0 < whole.controllers = omega (arith, controllers_sum t u whole un) in
      rw (some_of whole.controllers whole.starts start.0 inside (un.starts_first start.0 below ∙ start.2)) refl

module _ (rs ss : List Record) (pair : Paired rs ss) where
  joined-stands : (r : Record) → Memᴰ r (joined rs ss) → Stands (controllers_of rs + controllers_of ss) (worlds_of rs + worlds_of ss) r
  joined-stands r m =
      ⊎_elim (λ m. stands-first (controllers_of rs) (worlds_of rs) (controllers_of ss) (worlds_of ss) r (sound_stands rs pair.first r m))
      (λ found.
      subst (Stands (controllers_of rs + controllers_of ss) (worlds_of rs + worlds_of ss)) found.2
      (stands-second (controllers_of rs) (worlds_of rs) (controllers_of ss) (worlds_of ss) found.0
      pair.second.controllers.some-state pair.second.worlds.some-state (sound_stands ss pair.second found.0 found.1)))
      (joined_cases rs ss r m)

  -- 5 RECORD
  joined-inside : (r : Record) → Memᴰ r (joined rs ss) → Inside r
  unfolding table_of
  joined-inside r m =
      stands-inside (controllers_of rs + controllers_of ss) (worlds_of rs + worlds_of ss) r pair.controllers-few pair.worlds-few
      (joined-stands r m)

  -- 7 STATES
  joined-numbered : (kind : ℕ) → Kind kind → home_in rs kind ≡ length (of_kind kind rs) → Numbered (of_kind kind rs)
      → Numbered (of_kind kind ss)
      → Numbered (of_kind kind (joined rs ss))
  joined-numbered kind k e first second =
      record {
        some-state = omega (arith, joined-count rs ss kind k);
        number = λ i h.
            below_sum (λ i. (at (of_kind kind (joined rs ss)) i).from ≡ i) (length (of_kind kind rs)) (length (of_kind kind ss))
            (λ i l. ap {B = ℕ} (λ (r : Record). r.from) (joined-at-first rs ss kind k i l) ∙ first.number i l)
            (λ i l.
            let s = at (of_kind kind ss) i in
            let of-kind = of_kind-kind kind ss s (member-at (of_kind kind ss) i blank l) in
            ap {B = ℕ} (λ (r : Record). r.from) (joined-at-second rs ss kind k i l)
            ∙ omega (arith, renumber-from (controllers_of rs) (worlds_of rs) s, ap (home_in rs) of-kind, second.number i l))
            i (omega (arith, joined-count rs ss kind k));
      }

  -- of a kind the first's records grow as far as their states go, and the second's from there
  first_growing : (kind : ℕ) → Growing (512 * kind) (of_kind kind rs) (512 * kind + 64 * home_in rs kind)
  first_growing kind =
      growing_within 0 2560 (512 * kind) (512 * kind + 64 * home_in rs kind) (of_kind kind rs)
      (growing_of_kind kind 0 2560 rs (sound_growing rs pair.first)) (omega arith) (λ r m.
      let in-rs = of_kind-member kind rs r m in
      let of-kind = of_kind-kind kind rs r m in
      omega (arith, value_range r (pair.first.within r in-rs), (sound_stands rs pair.first r in-rs).from_in, ap (home_in rs) of-kind))

  second_growing : (kind : ℕ) → Kind kind → Growing (512 * kind + 64 * home_in rs kind) (map (move_up rs) (of_kind kind ss))
      (512 * suc kind)
  unfolding table_of
  second_growing kind k =
      let up = 64 * home_in rs kind + away_in rs kind in
      let few = home-few 8 (controllers_of rs) (worlds_of rs) kind k (omega (arith, pair.controllers-few))
      (omega (arith, pair.worlds-few)) in
      growing_within (up + 0) (up + 2560) (512 * kind + 64 * home_in rs kind) (512 * suc kind) (map (move_up rs) (of_kind kind ss))
      (growing_map (move_up rs) up 0 2560 (of_kind kind ss) (λ s m.
      let of-kind = of_kind-kind kind ss s m in
      omega (arith, value-moved (controllers_of rs) (worlds_of rs) s, ap (home_in rs) of-kind, ap (away_in rs) of-kind))
      (growing_of_kind kind 0 2560 ss (sound_growing ss pair.second))) (omega arith) (λ r m.
      let found = Memᴰ.of_map (move_up rs) (of_kind kind ss) m in
      let s = found.0 in
      let of-kind = of_kind-kind kind ss s found.1 in
      let within = joined-inside (move_up rs s) (joined-second rs ss s (subst⁻¹ Kind of-kind k) (of_kind-member kind ss s found.1)) in
      omega (
        arith,
        ap value found.2,
        value_range (move_up rs s) within,
        inside-bytes (move_up rs s) within,
        renumber-kind (controllers_of rs) (worlds_of rs) s,
        renumber-from (controllers_of rs) (worlds_of rs) s,
        ap (home_in rs) of-kind,
      ))

  kind_growing : (kind : ℕ) → Kind kind → Growing (512 * kind) (of_kind kind (rs ++ map (move_up rs) ss)) (512 * suc kind)
  kind_growing kind k =
      subst⁻¹ (λ (l : List Record). Growing (512 * kind) l (512 * suc kind)) (beside-kind kind (controllers_of rs) (worlds_of rs) rs ss)
      (growing_append (512 * kind) (512 * kind + 64 * home_in rs kind) (512 * suc kind) (of_kind kind rs)
      (map (move_up rs) (of_kind kind ss))
      (first_growing kind) (second_growing kind k))

  joined_growing : Growing 512 (joined rs ss) 2560
  unfolding joined by_kind
  joined_growing =
      let kind : ℕ → List Record = λ kind. of_kind kind (rs ++ map (move_up rs) ss) in
      growing_append 512 2048 2560 (kind controller ++ kind world ++ kind output) (kind input)
      (growing_append 512 1536 2048 (kind controller ++ kind world) (kind output)
      (growing_append 512 1024 1536 (kind controller) (kind world) (kind_growing controller of-controller) (kind_growing world of-world))
      (kind_growing output of_output)) (kind_growing input of-input)

  joined-size : (0 < length (joined rs ss)) × (length (joined rs ss) ≤ 1040)
  unfolding joined by_kind table_of
  joined-size =
      let zs = rs ++ map (move_up rs) ss in
      let cs = of_kind controller zs in
      let ws = of_kind world zs in
      let os = of_kind output zs in
      let is = of_kind input zs in
      omega (
        arith,
        length-append (cs ++ ws ++ os) is,
        length-append (cs ++ ws) os,
        length-append cs ws,
        joined-count rs ss controller of-controller,
        ap length (by_kind-kind controller of-controller zs),
        pair.controllers-few,
        pair.first.controllers.some-state,
        joined-count rs ss world of-world,
        ap length (by_kind-kind world of-world zs),
        pair.worlds-few,
        growing_length 1536 2048 os (kind_growing output of_output),
        growing_length 2048 2560 is (kind_growing input of-input),
      )

  -- 4 LENGTH
  pub joined_length : wrong_size 4160 (bytes_of (joined rs ss)) ≡ false
  unfolding wrong_size
  joined_length =
      let size = joined-size in
      rw (
        bytes-length (joined rs ss),
        ne_eqb (4 * length (joined rs ss)) 0 (omega arith),
        eq-eqb (4 * length (joined rs ss) % 4) 0 (omega arith),
        le-ltb 4160 (4 * length (joined rs ss)) (omega arith),
      ) refl

  pub joined_sound : Sound (joined rs ss)
  unfolding table_of
  joined_sound =
      let js = joined rs ss in
      let controllers = joined-count rs ss controller of-controller in
      let worlds = joined-count rs ss world of-world in
      let un = paired_union rs ss pair in
      record {
        within = joined-inside;
        ascending = λ i h.
            below-ascends (at js i) (at js (suc i)) (joined-inside (at js i) (member-at js i blank (omega arith)))
            (joined-inside (at js (suc i)) (member-at js (suc i) blank h)) (growing_at 512 2560 js joined_growing i h);
        controllers = joined-numbered controller of-controller refl pair.first.controllers pair.second.controllers;
        worlds = joined-numbered world of-world refl pair.first.worlds pair.second.worlds;
        start = union_start (table_of rs) (table_of ss) (table_of js) un pair.first.start;
        declared = λ r m.
            stands-declared (table_of js) r (omega (arith, controllers, pair.first.controllers.some-state))
            (omega (arith, worlds, pair.first.worlds.some-state)) (rw (controllers, worlds) (joined-stands r m));
        leads = union_gap (table_of rs) (table_of ss) (table_of js) un pair.first.leads pair.second.leads;
      }
