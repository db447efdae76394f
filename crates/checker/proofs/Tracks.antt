-- The invariant of the whole check (`Tracks`): the counts of each controller state are attained by runs, safe, and over the start; and a
-- state that is not flagged leads, with each input, to counts that are not above the next state's. It holds at the start, leading a state
-- on keeps it, and where no state is flagged the counts are closed, so that the rows keep every run to K. An overrun from attained counts
-- shows that they don't. Assumes nothing.
use mathlib.Core.Path.{◌≡◌, refl, sym, ap, ◌∙◌}
use mathlib.Core.Logic.{◌⊎◌, inl, inr, ⊎_elim}
use mathlib.Core.Bool.{Bool, true, false}
use mathlib.Core.List.{List}
use Prim.Native.Nat.{ℕ, ◌+◌, ◌≤◌, ◌<◌}
use native.Mathlib.Nat.{le_trans, eq-zero-or-pos}
use native.Mathlib.Decide.{dec_lt, ℕ_discrete}
use native.Mathlib.Omega.{arith}
use lib.Dec.{leb}
use lib.ListN.{length, set, replicate, get_or-eq_default}
use lib.Seq.{get_or-set_same, get_or-set_other}
use borrow.Author.Tests.{leb-false}
use Rattle.meaning.specs.Lists.{place, smallest}
use Rattle.meaning.specs.Table.{Table, Good, StartsDeclared}
use Rattle.meaning.specs.Counting.{Position, count, safe, start_position}
use Rattle.meaning.specs.Written.{position_bytes, Row}
use Rattle.meaning.specs.Play.{Realizes, rows_in, row_output, row_next}
use Rattle.meaning.specs.Controller.{first_state, has_rows}
use Rattle.meaning.proofs.Tests.{clash, smallest-top, smallest-at}
use Rattle.meaning.proofs.Lists.{place-holds, place-before, get_or_alike}
use Rattle.meaning.proofs.Steps.{below_of, safe_at, safe-of}
use Rattle.meaning.proofs.Winning.{round-from}
use Rattle.meaning.proofs.Realizes.{start-length}
use Rattle.meaning.proofs.Formed.{formed, next-has}
use Rattle.meaning.proofs.Followed.{Fitting, following, closed_realizes, Attained, AllAttained, start-attained, round-attained}
use Rattle.meaning.proofs.Followed.{overrun_attained}
use Rattle.counts.specs.Words.{counts_in}
use Rattle.counts.proofs.Wide.{wide_count}
use Rattle.checker.specs.Followable.{Followable}
use Rattle.checker.specs.Raised.{counts_at, flag_at, NoneBefore}
use Rattle.checker.specs.LedByRound.{led_to, AllLed, Overruns}
use Rattle.checker.proofs.Counts.{counts-here, counts-elsewhere, counts-nowhere}
use Rattle.checker.proofs.Room.{each-refuted}

pub record Tracks (K : ℕ) (t : Table) (rows : List Row) (most : List ℕ) (risen : List Bool) : Type 0 where
  pub begins : (q : ℕ) → count (start_position K t) q ≤ count (counts_at most (first_state rows)) q
  pub safely : (s : ℕ) → safe K (counts_at most s) ≡ true
  pub attained : (s : ℕ) → AllAttained t rows s (counts_at most s)
  pub named : (s : ℕ) → flag_at risen s ≡ true → has_rows rows s ≡ true
  pub closed : (s i : ℕ) → has_rows rows s ≡ true → i < t.inputs → (flag_at risen s ≡ true)
      ⊎ ((q : ℕ) → count (led_to K t rows s (counts_at most s) i) q ≤ count (counts_at most (row_next rows s i)) q)

-- what holds before each turn: counts and flags that track the runs, and no flag before the state to look from
pub record Turning (K : ℕ) (t : Table) (rows : List Row) (from : ℕ) (most : List ℕ) (risen : List Bool) : Type 0 where
  pub tracks : Tracks K t rows most risen
  pub before : NoneBefore from risen

-- rows that can be followed fit the table
pub fitting : {K : ℕ} {t : Table} {bytes : List ℕ} → Followable K t bytes → Fitting t (rows_in bytes)
fitting {bytes = bytes} f = record { formed = formed bytes f.formed; outputs = f.outputs; inputs = f.inputs }

-- the flags: the first that is up, and none
pub flag_up : (risen : List Bool) (s : ℕ) → place (λ b. b) risen ≡ s → s < length risen → flag_at risen s ≡ true
flag_up risen s e low = rw (← e) (place-holds (λ b. b) risen false (omega arith))

pub no_flag : (risen : List Bool) → place (λ b. b) risen ≡ length risen → (r : ℕ) → flag_at risen r ≡ false
no_flag risen none r = go (dec_lt r (length risen))
  where
    go : Dec (r < length risen) → flag_at risen r ≡ false
    go (yes l) = place-before (λ b. b) risen false r (omega arith)
    go (no l) = get_or-eq_default risen false (omega arith)

module _ (K : ℕ) (t : Table) (rows : List Row) where
  -- an attained count may be put for an equal one
  attained_as : {s r q c d : ℕ} → s ≡ r → c ≡ d → Attained t rows s q c → Attained t rows r q d
  attained_as e f a = rw (← e, ← f) a

  -- a round from nowhere leads nowhere
  none_led : (s : ℕ) (F : Position) → ((q : ℕ) → count F q ≡ 0) → (i q : ℕ) → count (led_to K t rows s F i) q ≡ 0
  none_led s F none i q =
      ⊎_elim (λ (e : count (led_to K t rows s F i) q ≡ 0). e)
      (λ c. let a = round-from K t F (row_output rows s) i q c in absurd (omega (arith, a.4, none a.0)))
      (eq-zero-or-pos (count (led_to K t rows s F i) q))

  -- at the start: the start position in the first state, which alone is flagged, and nowhere in the others
  module _ (few : t.controllers ≤ 8) (first : ℕ) (is-first : first ≡ first_state rows) (low : first < 256) (m : ℕ)
      (e : counts_in m ≡ position_bytes (start_position K t)) (has : has_rows rows (first_state rows) ≡ true)
      (safely : safe K (counts_in m) ≡ true) where
    abbrev most₀ : List ℕ
    most₀ = set (replicate 256 0) first m

    abbrev risen₀ : List Bool
    risen₀ = set (replicate 256 false) first true

    started : (q : ℕ) → count (counts_at most₀ first) q ≡ count (start_position K t) q
    started q =
        ap (λ (F : Position). count F q) (counts-here (replicate 256 0) first m low ∙ e)
        ∙ wide_count (start_position K t) (rw (start-length K t) few) q

    elsewhere : (s : ℕ) → (s ≡ first → ⊥) → (q : ℕ) → count (counts_at most₀ s) q ≡ 0
    elsewhere s d q =
        ap (λ (F : Position). count F q) (counts-elsewhere (replicate 256 0) first m s d) ∙ counts-nowhere 256 s q

    pub tracks-start : Tracks K t rows most₀ risen₀
    tracks-start =
        record {
          begins = λ q. rw (← is-first) (omega (arith, started q));
          safely = λ s. go-safe s (ℕ_discrete s first);
          attained = λ s q c. go-attained s q c (ℕ_discrete s first);
          named = λ s f. go_named s f (ℕ_discrete s first);
          closed = λ s i h l. go_closed s i (ℕ_discrete s first);
        }
      where
        go-safe : (s : ℕ) → Dec (s ≡ first) → safe K (counts_at most₀ s) ≡ true
        go-safe s (yes f) = rw (f, counts-here (replicate 256 0) first m low) safely
        go-safe s (no d) = safe-of K (counts_at most₀ s) (λ q _. omega (arith, elsewhere s d q))

        go-attained : (s q : ℕ) → 0 < count (counts_at most₀ s) q → Dec (s ≡ first) → Attained t rows s q (count (counts_at most₀ s) q)
        go-attained s q c (yes f) =
            let same = ap (λ (r : ℕ). count (counts_at most₀ r) q) f ∙ started q in
            attained_as (sym is-first ∙ sym f) (sym same) (start-attained K t rows q (omega (arith, same)))
        go-attained s q c (no d) = absurd (omega (arith, elsewhere s d q))

        go_named : (s : ℕ) → flag_at risen₀ s ≡ true → Dec (s ≡ first) → has_rows rows s ≡ true
        go_named s f (yes g) = rw (g, is-first) has
        go_named s f (no d) =
            absurd (clash (flag_at risen₀ s) f (get_or-set_other (replicate 256 false) first s true false d ∙ get_or_alike 256 s false))

        go_closed : (s i : ℕ) → Dec (s ≡ first) → (flag_at risen₀ s ≡ true)
            ⊎ ((q : ℕ) → count (led_to K t rows s (counts_at most₀ s) i) q ≤ count (counts_at most₀ (row_next rows s i)) q)
        go_closed s i (yes f) = inl (rw f (get_or-set_same (replicate 256 false) first true false low))
        go_closed s i (no d) = inr (λ q. omega (arith, none_led s (counts_at most₀ s) (elsewhere s d) i q))

  module _ (most : List ℕ) (risen : List Bool) (tracks : Tracks K t rows most risen) where
    -- a flagged state led on, its flag taken down before
    module _ (fits : Fitting t rows) (s : ℕ) (low : s < length risen) (flag : flag_at risen s ≡ true) (most' : List ℕ)
        (risen' : List Bool) (led : AllLed K t rows s most (set risen s false) most' risen') where
      down : flag_at (set risen s false) s ≡ false
      down = get_or-set_same risen s false false low

      -- a flag that is still up then is another's, and was up before
      still_up : (r : ℕ) → flag_at (set risen s false) r ≡ true → (r ≡ s → ⊥) × (flag_at risen r ≡ true)
      still_up r g = go (ℕ_discrete r s)
        where
          go : Dec (r ≡ s) → (r ≡ s → ⊥) × (flag_at risen r ≡ true)
          go (yes e) = absurd (clash _ (ap (flag_at (set risen s false)) (sym e) ∙ g) down)
          go (no d) = (d, sym (get_or-set_other risen s r false false d) ∙ g)

      led_attained : (r q : ℕ) → 0 < count (counts_at most' r) q → (i : ℕ) → row_next rows s i ≡ r
          → count (counts_at most' r) q ≡ count (led_to K t rows s (counts_at most s) i) q
          → Attained t rows r q (count (counts_at most' r) q)
      led_attained r q c i e same =
          attained_as e (sym same) (round-attained K t rows s i (counts_at most s) (tracks.attained s) q (omega (arith, same)))

      pub tracks_led : Tracks K t rows most' risen'
      tracks_led =
          record {
            begins = λ q. le_trans (tracks.begins q) (led.over (first_state rows) q);
            safely = λ r.
                safe-of K (counts_at most' r)
                (λ q _. ⊎_elim (λ (same : count (counts_at most' r) q ≡ count (counts_at most r) q).
                omega (arith, safe_at K _ (tracks.safely r) q))
                (λ w. omega (arith, w.3, safe_at K _ (led.safely w.0 w.1) q)) (led.came r q));
            attained = λ r q c.
                ⊎_elim (λ same. attained_as refl (sym same) (tracks.attained r q (omega (arith, same))))
                (λ w. led_attained r q c w.0 w.2 w.3) (led.came r q);
            named = λ r f. ⊎_elim (λ g. tracks.named r (still_up r g).1)
                (λ w. rw (← w.2) (next-named w.0 w.1)) (led.named r f);
            closed = λ r i h l. ⊎_elim (λ f. inl f) (λ same. stays r i h l same (ℕ_discrete r s)) (led.flagged r);
          }
        where
          next-named : (i : ℕ) → i < t.inputs → has_rows rows (row_next rows s i) ≡ true
          next-named i l = next-has rows fits.formed s (tracks.named s flag) i (omega (arith, fits.inputs))

          stays : (r i : ℕ) → has_rows rows r ≡ true → i < t.inputs
              → (counts_at most' r ≡ counts_at most r) × (flag_at risen' r ≡ flag_at (set risen s false) r) → Dec (r ≡ s)
              → (flag_at risen' r ≡ true)
              ⊎ ((q : ℕ) → count (led_to K t rows r (counts_at most' r) i) q ≤ count (counts_at most' (row_next rows r i)) q)
          stays r i h l same (yes e) = inr (rw (same.0, e) (led.covers i l))
          stays r i h l same (no d) =
              ⊎_elim (λ f. inl (same.1 ∙ get_or-set_other risen s r false false d ∙ f))
              (λ under. inr (rw same.0 (λ q. le_trans (under q) (led.over (row_next rows r i) q))))
              (tracks.closed r i h l)

      -- the first flagged state led on: the next flag is not before the states it leads on to, nor before the one after it
      pub none_before : length risen' ≡ length risen → place (λ b. b) risen ≡ s
          → NoneBefore (smallest (s + 1) t.inputs (row_next rows s)) risen'
      none_before long is-first =
          record {
            within = omega (arith, smallest-top (s + 1) t.inputs (row_next rows s));
            none = λ r l. not_flagged r (flag_at risen' r) refl l;
          }
        where
          earlier : (r : ℕ) → r ≤ s → flag_at (set risen s false) r ≡ true → ⊥
          earlier r l f =
              let up = still_up r f in
              let other = up.0 in
              clash (flag_at risen r) up.1 (place-before (λ b. b) risen false r (omega arith))

          not_flagged : (r : ℕ) (b : Bool) → flag_at risen' r ≡ b → r < smallest (s + 1) t.inputs (row_next rows s) → b ≡ false
          not_flagged r false f l = refl
          not_flagged r true f l =
              let top = smallest-top (s + 1) t.inputs (row_next rows s) in
              ⊎_elim (λ g. absurd (earlier r (omega arith) g))
              (λ w. absurd (omega (arith, w.2, smallest-at (s + 1) t.inputs (row_next rows s) w.0 w.1))) (led.named r f)

    -- an overrun shows that following the rows does not keep every run to K
    pub tracks_overrun : (s : ℕ) → Overruns K t rows s (counts_at most s) → Realizes K t (following rows) → ⊥
    unfolding safe
    tracks_overrun s over realizes =
        let i = over.0 in
        let F = led_to K t rows s (counts_at most s) i in
        let q = each-refuted (length F) (λ q. leb (count F q) (K + 1)) over.1 in
        let above = leb-false (count F q.0) (K + 1) q.1 in
        overrun_attained K t rows (row_next rows s i) q.0 (count F q.0)
        (round-attained K t rows s i (counts_at most s) (tracks.attained s) q.0 (omega arith)) above realizes

    -- where no state is flagged, it does
    pub tracks_end : Good t → StartsDeclared t → Fitting t rows → ((s : ℕ) → flag_at risen s ≡ false) → Realizes K t (following rows)
    tracks_end good declared fits none =
        closed_realizes K t rows (counts_at most) good declared fits
        (record {
          begins = below_of (start_position K t) (counts_at most (first_state rows)) (λ q _. tracks.begins q);
          safely = λ s _. tracks.safely s;
          closed = λ s i h l.
              below_of _ _ (λ q _. ⊎_elim (λ f. absurd (clash (flag_at risen s) f (none s))) (λ under. under q) (tracks.closed s i h l));
        })
