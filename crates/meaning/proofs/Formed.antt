-- What well-formed rows say. A row is the record of its four bytes. Where rows are well formed, a state that has rows has one for each
-- input, and it stands so many rows after the state's first: there the input is 0, since the row before is of another state; and from row
-- to row the input rises by one, with the state, until it is the last. So a look-up finds that row, and its next state has rows again.
use mathlib.Core.Path.{◌≡◌, refl, sym, ap, ◌∙◌}
use mathlib.Core.Bool.{Bool, true, false, not, cond, ◌&&◌, ◌||◌}
use mathlib.Core.List.{List, Memᴰ}
use Prim.Native.Nat.{ℕ, zero, suc, ◌+◌, ◌-◌, ◌/◌, ◌%◌, ◌≤◌, ◌<◌}
use native.Mathlib.Decide.{dec_lt}
use native.Mathlib.Nat.{add-zero, add-suc}
use native.Mathlib.Omega.{arith}
use lib.ListN.{length, length-map, get_or-map}
use lib.Dec.{eqb, leb, ltb}
use borrow.Author.Tests.{eqb-true, eq-eqb, ne_eqb, leb-true, le-leb, ltb-false, le-ltb, not-true, not-false}
use Rattle.meaning.specs.Lists.{each, every, place}
use Rattle.meaning.specs.Records.{Record, records_of, at, blank}
use Rattle.meaning.specs.Written.{Row}
use Rattle.meaning.specs.Checks.{wrong_size}
use Rattle.meaning.specs.Play.{rows_in, row, row_next}
use Rattle.meaning.specs.Controller.{first_state, last_input, in_order, input_goes_on, output_stays, goes_on, has_rows, leads_on}
use Rattle.meaning.specs.Controller.{well_formed}
use Rattle.meaning.proofs.Tests.{both_left, both_right, neither_left, neither_right, clash, each_at, each_of}
use Rattle.meaning.proofs.Lists.{member-at, at-member, every-at, every_of, any_at, any_of, place-before, place-holds, place_found}
use Rattle.meaning.proofs.Searches.{place_is}
use Rattle.meaning.proofs.Records.{records_count}
use Rattle.meaning.proofs.Lookups.{no_row}

-- the row that a record's bytes state
abbrev pub row_from : Record → Row
row_from r = record { state = r.kind; output = r.from; input = r.letter; next = r.to }

pub rows-count : (bytes : List ℕ) → length (rows_in bytes) ≡ length bytes / 4
unfolding rows_in
rows-count bytes = length-map (records_of bytes) row_from ∙ records_count bytes

pub row_from_lem : (bytes : List ℕ) (i : ℕ) → row (rows_in bytes) i ≡ row_from (at (records_of bytes) i)
unfolding rows_in
row_from_lem bytes i = get_or-map row_from (records_of bytes) i blank

-- the clauses, as facts
pub record Formed (rows : List Row) : Type 0 where
  pub some-row : 0 < length rows
  pub few : length rows ≤ 2048
  pub begins : (row rows 0).input ≡ 0
  pub low : last_input rows ≤ 7
  pub on : (i : ℕ) → suc i < length rows → goes_on (first_state rows) (last_input rows) (row rows i) (row rows (suc i)) ≡ true
  pub leads : (r : Row) → Memᴰ r rows → leads_on rows r ≡ true

pub size-right : (most : ℕ) (bytes : List ℕ) → wrong_size most bytes ≡ false
    → (0 < length bytes) × (length bytes % 4 ≡ 0) × (length bytes ≤ most)
unfolding wrong_size
size-right most bytes w =
    let n = length bytes in
    let empty = eqb n 0 in
    let ragged = not (eqb (n % 4) 0) in
    let short = neither_left (empty || ragged) (ltb most n) w in
    let some : n ≡ 0 → ⊥ = λ e. clash empty (eq-eqb n 0 e) (neither_left empty ragged short) in (
      go n some,
      eqb-true (n % 4) 0 (not-false _ (neither_right empty ragged short)),
      ltb-false most n (neither_right (empty || ragged) (ltb most n) w),
    )
  where
    go : (n : ℕ) → (n ≡ 0 → ⊥) → 0 < n
    go zero d = absurd (d refl)
    go (suc n) d = omega arith

pub formed : (bytes : List ℕ) → well_formed bytes ≡ true → Formed (rows_in bytes)
unfolding well_formed
formed bytes w =
    let rows = rows_in bytes in
    let follows : ℕ → Bool = λ i. goes_on (first_state rows) (last_input rows) (row rows i) (row rows (suc i)) in
    let sized = not (wrong_size 8192 bytes) in
    let zeroth = eqb (row rows 0).input 0 in
    let low = leb (last_input rows) 7 in
    let on = each (length rows - 1) follows in
    let leads = every (leads_on rows) rows in
    let linked = both_left (sized && zeroth && low && on) leads w in
    let ended = both_left (sized && zeroth && low) on linked in
    let begun = both_left (sized && zeroth) low ended in
    let size = size-right 8192 bytes (not-true _ (both_left sized zeroth begun)) in
    let count = rows-count bytes in
    record {
      some-row = omega (arith, size.0, size.1);
      few = omega (arith, size.2);
      begins = eqb-true (row rows 0).input 0 (both_right sized zeroth begun);
      low = leb-true (last_input rows) 7 (both_right (sized && zeroth) low ended);
      on = λ i l. each_at (length rows - 1) follows (both_right (sized && zeroth && low) on linked) i (omega arith);
      leads = λ r m. every-at (leads_on rows) rows r (both_right (sized && zeroth && low && on) leads w) m;
    }

-- and back from the facts
pub size_of : (most : ℕ) (bytes : List ℕ) → 0 < length bytes → length bytes % 4 ≡ 0 → length bytes ≤ most → wrong_size most bytes ≡ false
unfolding wrong_size
size_of most bytes some whole few =
    rw (ne_eqb (length bytes) 0 (λ e. omega (arith, some)), eq-eqb (length bytes % 4) 0 whole, le-ltb most (length bytes) few) refl

pub formed-of : (bytes : List ℕ) → wrong_size 8192 bytes ≡ false → Formed (rows_in bytes) → well_formed bytes ≡ true
unfolding well_formed
formed-of bytes sized f =
    let rows = rows_in bytes in
    let follows : ℕ → Bool = λ i. goes_on (first_state rows) (last_input rows) (row rows i) (row rows (suc i)) in
    rw (
      sized,
      eq-eqb (row rows 0).input 0 f.begins,
      le-leb (last_input rows) 7 f.low,
      each_of (length rows - 1) follows (λ i l. f.on i (omega arith)),
      every_of (leads_on rows) rows f.leads,
    ) refl

before_last : (p n : ℕ) → p < n → (p ≡ n - 1 → ⊥) → suc p < n
before_last p n l d = go (dec_lt (suc p) n)
  where
    go : Dec (suc p < n) → suc p < n
    go (yes l) = l
    go (no m) = absurd (d (omega arith))

-- a state's rows begin at its place
abbrev pub is_of : ℕ → Row → Bool
is_of s r = eqb r.state s

abbrev pub rows_of : List Row → ℕ → ℕ
rows_of rows s = place (is_of s) rows

pub has-place : (rows : List Row) (s : ℕ) → has_rows rows s ≡ true → rows_of rows s < length rows
unfolding has_rows
has-place rows s h =
    let m = any_at (is_of s) rows h in
    let i = at-member rows m.0 no_row m.1 in
    let l : i.0 < length rows = i.1 in
    omega (arith, place_found (is_of s) rows no_row i.0 l (ap (is_of s) i.2 ∙ m.2))

module _ (rows : List Row) (f : Formed rows) where
  pub first-has : has_rows rows (first_state rows) ≡ true
  unfolding has_rows
  first-has = any_of (is_of (first_state rows)) rows (row rows 0) (member-at rows 0 no_row f.some-row)
      (eq-eqb (first_state rows) (first_state rows) refl)

  -- from one row to the next: the next input of the state; or, with another state, input 0 after the last
  pub inputs_on : (i : ℕ) → suc i < length rows → input_goes_on (last_input rows) (row rows i) (row rows (suc i)) ≡ true
  unfolding goes_on
  inputs_on i l =
      let r = row rows i in
      let s = row rows (suc i) in
      let order = in_order (first_state rows) r s in
      let goes = input_goes_on (last_input rows) r s in
      both_right order goes (both_left (order && goes) (output_stays r s) (f.on i l))

  next-input : (i : ℕ) → suc i < length rows → (row rows i).input < last_input rows
      → ((row rows (suc i)).state ≡ (row rows i).state) × ((row rows (suc i)).input ≡ suc (row rows i).input)
  unfolding input_goes_on
  next-input i l below = go (eqb s.state r.state) refl (inputs_on i l)
    where
      r : Row
      r = row rows i

      s : Row
      s = row rows (suc i)

      go : (b : Bool) → eqb s.state r.state ≡ b
          → cond b (eqb s.input (suc r.input)) (eqb r.input (last_input rows) && eqb s.input 0) ≡ true
          → (s.state ≡ r.state) × (s.input ≡ suc r.input)
      go true e p = (eqb-true s.state r.state e, eqb-true s.input (suc r.input) p)
      go false e p =
          let last : r.input ≡ last_input rows = eqb-true _ _ (both_left (eqb r.input (last_input rows)) (eqb s.input 0) p) in
          absurd (omega arith)

  other_state : (i : ℕ) → suc i < length rows → ((row rows (suc i)).state ≡ (row rows i).state → ⊥) → (row rows (suc i)).input ≡ 0
  unfolding input_goes_on
  other_state i l other =
      let r = row rows i in
      let s = row rows (suc i) in
      let p = rw (ne_eqb s.state r.state other) at (inputs_on i l) in
      eqb-true s.input 0 (both_right (eqb r.input (last_input rows)) (eqb s.input 0) p)

  module _ (s : ℕ) (has : has_rows rows s ≡ true) where
    of-state : (row rows (rows_of rows s)).state ≡ s
    of-state = eqb-true _ s (place-holds (is_of s) rows no_row (has-place rows s has))

    first-input : (row rows (rows_of rows s)).input ≡ 0
    first-input = go (rows_of rows s) (has-place rows s has) of-state (place-before (is_of s) rows no_row)
      where
        go : (p : ℕ) → p < length rows → (row rows p).state ≡ s → ((j : ℕ) → j < p → is_of s (row rows j) ≡ false) → (row rows p).input ≡ 0
        go zero l e none = f.begins
        go (suc j) l e none =
            other_state j l (λ same. clash (is_of s (row rows j)) (eq-eqb _ s (sym same ∙ e)) (none j (omega arith)))

    -- the row of the state for an input
    pub row-there : (i : ℕ) → i ≤ last_input rows
        → (rows_of rows s + i < length rows) × ((row rows (rows_of rows s + i)).state ≡ s) × ((row rows (rows_of rows s + i)).input ≡ i)
    row-there zero l = rw (add-zero (rows_of rows s)) (has-place rows s has, of-state, first-input)
    row-there (suc i) l = go (row-there i (omega arith))
      where
        p : ℕ
        p = rows_of rows s + i

        go : (p < length rows) × ((row rows p).state ≡ s) × ((row rows p).input ≡ i)
            → (rows_of rows s + suc i < length rows) × ((row rows (rows_of rows s + suc i)).state ≡ s)
            × ((row rows (rows_of rows s + suc i)).input ≡ suc i)
        go (within, of, input) =
            let ends : p ≡ length rows - 1 → ⊥ = λ e. let same = ap (λ (j : ℕ). (row rows j).input) e in omega (arith, same) in
            let more : suc p < length rows = before_last p (length rows) within ends in
            let next = next-input p more (omega arith) in
            rw (add-suc (rows_of rows s) i) (more, next.0 ∙ of, next.1 ∙ ap suc input)

    -- it is the one that a look-up finds
    pub row-place : (i : ℕ) → i ≤ last_input rows
        → place (λ (r : Row). eqb r.state s && eqb r.input i) rows ≡ rows_of rows s + i
    row-place i l =
        let at = row-there i l in
        place_is (λ (r : Row). eqb r.state s && eqb r.input i) rows no_row (rows_of rows s + i) at.0
        (rw (eq-eqb (row rows (rows_of rows s + i)).state s at.1) (eq-eqb _ i at.2))
        (λ j h. earlier j h (dec_lt j (rows_of rows s)))
      where
        earlier : (j : ℕ) → j < rows_of rows s + i → Dec (j < rows_of rows s)
            → (eqb (row rows j).state s && eqb (row rows j).input i) ≡ false
        earlier j h (yes b) = rw (place-before (is_of s) rows no_row j b) refl
        earlier j h (no b) =
            let k : ℕ = j - rows_of rows s in
            let same : j ≡ rows_of rows s + k = omega arith in
            let at = row-there k (omega arith) in
            let input : (row rows j).input ≡ k = ap (λ (m : ℕ). (row rows m).input) same ∙ at.2 in
            let state : (row rows j).state ≡ s = ap (λ (m : ℕ). (row rows m).state) same ∙ at.1 in
            rw (eq-eqb _ s state) (ne_eqb _ i (λ e. omega arith))

    pub next-there : (i : ℕ) → i ≤ last_input rows → row_next rows s i ≡ (row rows (rows_of rows s + i)).next
    unfolding row_next
    next-there i l = ap (λ (p : ℕ). (row rows p).next) (row-place i l)

    -- "every next state has rows"
    pub next-has : (i : ℕ) → i ≤ last_input rows → has_rows rows (row_next rows s i) ≡ true
    unfolding leads_on
    next-has i l =
        let r = row rows (rows_of rows s + i) in
        rw (next-there i l)
        (both_right (leb r.output 7) (has_rows rows r.next) (f.leads r (member-at rows _ no_row (row-there i l).0)))
