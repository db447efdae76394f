-- What passing checks 4 to 10 says of a table's records, check by check, and the other way round; and that the game may be played on the
-- table that such records state (Good.antt). Then the same of two tables that may be joined: both pass, their letters are the same, and
-- together they have at most 8 states on a side.
use mathlib.Core.Path.{◌≡◌, refl, sym, ap}
use mathlib.Core.Bool.{Bool, true, false, not, ◌||◌}
use mathlib.Core.List.{List, [], ◌∷◌, ◌++◌, Memᴰ}
use Prim.Native.Nat.{ℕ, suc, ◌+◌, ◌-◌, ◌≤◌, ◌<◌}
use native.Mathlib.Decide.{dec_lt}
use native.Mathlib.Omega.{arith}
use lib.ListN.{length}
use lib.Dec.{eqb, leb, ltb, lit<}
use borrow.Author.Tests.{eqb-true, eqb-false, eq-eqb, ne_eqb, leb-false, ltb-true, ltb-false, le-ltb, not-false}
use Rattle.meaning.specs.Lists.{each, first}
use Rattle.meaning.specs.Records.{Record, records_of, blank, at, controller, world, output, input, outside, ascends, of_kind}
use Rattle.meaning.specs.Table.{on_output, on_input, letters, edge_of, table_of, Good, Small}
use Rattle.meaning.specs.Checks.{bound, wrong_size, descent, misnumbered, no_start, dangling, gap, table_checks, other_letters}
use Rattle.meaning.specs.Checks.{too_large, pair_checks, Passes}
use Rattle.meaning.proofs.Tests.{neither_left, neither_right, clash, refuted, each_at, each_of, first_holds, first-before}
use Rattle.meaning.proofs.Lists.{member-at, no_place, placeless}
use Rattle.meaning.proofs.Good.{total-leads, leads-at}
use Rattle.meaning.proofs.Records.{of_kind-member, of_kind-of, edge_record, edge-member, letters_above, Inside, inside-at, inside_of}
use Rattle.meaning.proofs.Records.{inside-bytes}
use Rattle.meaning.proofs.Checks.{passes_at, passes_append, passes-left, passes-right}

-- each record ascends to the next exactly if there is no descent
pub ascents_at : (rs : List Record) → ltb (descent rs) (length rs) ≡ false
    → (i : ℕ) → suc i < length rs → ascends (at rs i) (at rs (suc i)) ≡ true
unfolding descent
ascents_at rs p i h =
    let late : ℕ → Bool = λ i. not (ascends (at rs i) (at rs (suc i))) in
    let l : length rs ≤ suc (first (length rs - 1) late) = ltb-false (suc (first (length rs - 1) late)) (length rs) p in
    not-false (ascends (at rs i) (at rs (suc i))) (first-before (length rs - 1) late i (omega arith))

pub ascents_of : (rs : List Record) → ((i : ℕ) → suc i < length rs → ascends (at rs i) (at rs (suc i)) ≡ true)
    → ltb (descent rs) (length rs) ≡ false
unfolding descent
ascents_of rs p =
    let late : ℕ → Bool = λ i. not (ascends (at rs i) (at rs (suc i))) in
    let i = first (length rs - 1) late in
    refuted (ltb (suc i) (length rs)) (λ t.
    let h : suc i < length rs = ltb-true (suc i) (length rs) t in
    clash (late i) (first_holds (length rs - 1) late (omega arith)) (ap not (p i h)))

-- states are numbered 0, 1, 2 and so on, and there is one
pub record Numbered (states : List Record) : Type 0 where
  pub some-state : 0 < length states
  pub number : (i : ℕ) → i < length states → (at states i).from ≡ i

pub numbered-at : (states : List Record) → misnumbered states ≡ false → Numbered states
unfolding misnumbered
numbered-at states p =
    let none = eqb (length states) 0 in
    let right : ℕ → Bool = λ i. eqb (at states i).from i in
    let all = each (length states) right in
    record {
      some-state = omega (arith, eqb-false (length states) 0 (neither_left none (not all) p));
      number = λ i h. eqb-true (at states i).from i (each_at (length states) right (not-false all (neither_right none (not all) p)) i h);
    }

pub numbered_of : (states : List Record) → Numbered states → misnumbered states ≡ false
unfolding misnumbered
numbered_of states n =
    rw (
      ne_eqb (length states) 0 (omega arith),
      each_of (length states) (λ i. eqb (at states i).from i) (λ i h. eq-eqb (at states i).from i (n.number i h)),
    ) refl

-- so a side has at most 8 of them, since a state's number is at most 7
pub states-top : (kind : ℕ) (rs : List Record) → ((r : Record) → Memᴰ r rs → Inside r) → Numbered (of_kind kind rs)
    → length (of_kind kind rs) ≤ 8
states-top kind rs within numbered = go (dec_lt 8 (length (of_kind kind rs)))
  where
    go : Dec (8 < length (of_kind kind rs)) → length (of_kind kind rs) ≤ 8
    go (no h) = omega arith
    go (yes h) =
        let r = at (of_kind kind rs) 8 in
        let m = of_kind-member kind rs r (member-at (of_kind kind rs) 8 blank h) in
        omega (arith, numbered.number 8 h, (inside-bytes r (within r m)).0)

-- what checks 5 to 10 say of a table's records
pub record Sound (rs : List Record) : Type 0 where
  pub within : (r : Record) → Memᴰ r rs → Inside r
  pub ascending : (i : ℕ) → suc i < length rs → ascends (at rs i) (at rs (suc i)) ≡ true
  pub controllers : Numbered (of_kind controller rs)
  pub worlds : Numbered (of_kind world rs)
  pub start : no_start (table_of rs) ≡ false
  pub declared : (r : Record) → Memᴰ r rs → dangling (table_of rs) r ≡ false
  pub leads : gap (table_of rs) ≡ false

pub passes-length : (which : ℕ) (bytes : List ℕ) → Passes (table_checks which bytes) → wrong_size 4160 bytes ≡ false
unfolding table_checks
passes-length which bytes p = passes_at (table_checks which bytes) p 0 (bound 0) (lit< tt)

pub passes_sound : (which : ℕ) (bytes : List ℕ) → Passes (table_checks which bytes) → Sound (records_of bytes)
unfolding table_checks
passes_sound which bytes p =
    let rs = records_of bytes in
    let check = passes_at (table_checks which bytes) p in
    let states = check 3 (bound 0) (lit< tt) in
    record {
      within = λ r m. inside-at r (no_place outside rs (check 1 (bound 0) (lit< tt)) r m);
      ascending = ascents_at rs (check 2 (bound 0) (lit< tt));
      controllers =
          numbered-at (of_kind controller rs) (neither_left (misnumbered (of_kind controller rs)) (misnumbered (of_kind world rs)) states);
      worlds = numbered-at (of_kind world rs) (neither_right (misnumbered (of_kind controller rs)) (misnumbered (of_kind world rs)) states);
      start = check 4 (bound 0) (lit< tt);
      declared = no_place (dangling (table_of rs)) rs (check 5 (bound 0) (lit< tt));
      leads = check 6 (bound 0) (lit< tt);
    }

pub sound_passes : (which : ℕ) (bytes : List ℕ) → wrong_size 4160 bytes ≡ false → Sound (records_of bytes)
    → Passes (table_checks which bytes)
unfolding table_checks
sound_passes which bytes size s =
    let rs = records_of bytes in
    rw (
      size,
      placeless outside rs (λ r m. inside_of r (s.within r m)),
      ascents_of rs s.ascending,
      numbered_of (of_kind controller rs) s.controllers,
      numbered_of (of_kind world rs) s.worlds,
      s.start,
      placeless (dangling (table_of rs)) rs s.declared,
      s.leads,
    ) refl

-- ends that are not past the last state are states
pub ends-declared : (n m p q : ℕ) → (leb n p || leb m q) ≡ false → (p < n) × (q < m)
ends-declared n m p q d = (leb-false n p (neither_left (leb n p) (leb m q) d), leb-false m q (neither_right (leb n p) (leb m q) d))

-- so a table that passes 4 to 10 is good
pub sound_good : (rs : List Record) → Sound rs → Good (table_of rs)
unfolding table_of dangling
sound_good rs s =
    let t = table_of rs in
    let lead = leads-at t s.leads in
    let ends : (kind l p q : ℕ) → edge_of kind rs l p q ≡ true → (l < letters kind rs) × (dangling t (edge_record kind l p q) ≡ false) =
    λ kind l p q e.
    let m = edge-member kind rs l p q e in (
      letters_above kind rs (edge_record kind l p q) (of_kind-of kind rs (edge_record kind l p q) m refl),
      s.declared (edge_record kind l p q) m,
    ) in
    record {
      some-output = lead.some-output;
      some-input = lead.some-input;
      output-ends = λ o p q e.
          let r = ends output o p q e in
          let b = ends-declared t.controllers t.worlds p q
          (neither_left (leb t.controllers p || leb t.worlds q) false r.1) in
          (r.0, b.0, b.1);
      input-ends = λ i p q e.
          let r = ends input i p q e in
          let b = ends-declared t.worlds t.controllers p q r.1 in
          (r.0, b.0, b.1);
      output-leads = λ o p l h. let r = total-leads (on_output t o) (lead.on-output o l) p h in (r.0, r.2);
      input-leads = λ i p l h. let r = total-leads (on_input t i) (lead.on-input i l) p h in (r.0, r.2);
    }

pub passes-good : (which : ℕ) (bytes : List ℕ) → Passes (table_checks which bytes) → Good (table_of (records_of bytes))
passes-good which bytes p = sound_good (records_of bytes) (passes_sound which bytes p)

pub sound_small : (rs : List Record) → Sound rs → Small (table_of rs)
unfolding table_of
sound_small rs s =
    record { controllers = states-top controller rs s.within s.controllers; worlds = states-top world rs s.within s.worlds }

pub passes-small : (which : ℕ) (bytes : List ℕ) → Passes (table_checks which bytes) → Small (table_of (records_of bytes))
passes-small which bytes p = sound_small (records_of bytes) (passes_sound which bytes p)

-- what the checks of two tables that are to be joined say of their records
pub record Paired (rs ss : List Record) : Type 0 where
  pub first : Sound rs
  pub second : Sound ss
  pub outputs-same : (table_of rs).outputs ≡ (table_of ss).outputs
  pub inputs-same : (table_of rs).inputs ≡ (table_of ss).inputs
  pub controllers-few : (table_of rs).controllers + (table_of ss).controllers ≤ 8
  pub worlds-few : (table_of rs).worlds + (table_of ss).worlds ≤ 8

pub paired-swapped : (rs ss : List Record) → Paired rs ss → Paired ss rs
paired-swapped rs ss pair =
    record {
      first = pair.second;
      second = pair.first;
      outputs-same = sym pair.outputs-same;
      inputs-same = sym pair.inputs-same;
      controllers-few = omega (arith, pair.controllers-few);
      worlds-few = omega (arith, pair.worlds-few);
    }

-- each of the two passes 4 to 10, whichever table of a call it is said to be
pub other_which : (which other : ℕ) (bytes : List ℕ) → Passes (table_checks which bytes) → Passes (table_checks other bytes)
other_which which other bytes p = sound_passes other bytes (passes-length which bytes p) (passes_sound which bytes p)

pub passes-first : (one two : List ℕ) → Passes (pair_checks one two) → (which : ℕ) → Passes (table_checks which one)
unfolding pair_checks
passes-first one two p which =
    other_which 1 which one (passes-left (table_checks 1 one) (table_checks 2 two)
    (passes-left (table_checks 1 one ++ table_checks 2 two) _ p))

pub passes-second : (one two : List ℕ) → Passes (pair_checks one two) → (which : ℕ) → Passes (table_checks which two)
unfolding pair_checks
passes-second one two p which =
    other_which 2 which two (passes-right (table_checks 1 one) (table_checks 2 two)
    (passes-left (table_checks 1 one ++ table_checks 2 two) _ p))

pub passes-paired : (one two : List ℕ) → Passes (pair_checks one two) → Paired (records_of one) (records_of two)
unfolding pair_checks other_letters too_large
passes-paired one two p =
    let t = table_of (records_of one) in
    let u = table_of (records_of two) in
    let joint = other_letters t u ∷ too_large t u ∷ [] in
    let check = passes_at joint (passes-right (table_checks 1 one ++ table_checks 2 two) joint p) in
    let letters = check 0 (bound 0) (lit< tt) in
    let sizes = check 1 (bound 0) (lit< tt) in
    let outputs = eqb t.outputs u.outputs in
    let inputs = eqb t.inputs u.inputs in
    let controllers = ltb 8 (t.controllers + u.controllers) in
    let worlds = ltb 8 (t.worlds + u.worlds) in
    record {
      first = passes_sound 1 one (passes-first one two p 1);
      second = passes_sound 2 two (passes-second one two p 2);
      outputs-same = eqb-true t.outputs u.outputs (not-false outputs (neither_left (not outputs) (not inputs) letters));
      inputs-same = eqb-true t.inputs u.inputs (not-false inputs (neither_right (not outputs) (not inputs) letters));
      controllers-few = ltb-false 8 (t.controllers + u.controllers) (neither_left controllers worlds sizes);
      worlds-few = ltb-false 8 (t.worlds + u.worlds) (neither_right controllers worlds sizes);
    }

pub paired-passes : (one two : List ℕ) → Passes (table_checks 1 one) → Passes (table_checks 2 two)
    → Paired (records_of one) (records_of two)
    → Passes (pair_checks one two)
unfolding pair_checks other_letters too_large
paired-passes one two p q pair =
    let t = table_of (records_of one) in
    let u = table_of (records_of two) in
    passes_append (table_checks 1 one ++ table_checks 2 two) (other_letters t u ∷ too_large t u ∷ [])
    (passes_append (table_checks 1 one) (table_checks 2 two) p q)
    (rw (
      eq-eqb t.outputs u.outputs pair.outputs-same,
      eq-eqb t.inputs u.inputs pair.inputs-same,
      le-ltb 8 (t.controllers + u.controllers) pair.controllers-few,
      le-ltb 8 (t.worlds + u.worlds) pair.worlds-few,
    ))
