-- The rows that a list of winners gives, one by one: their bytes, and that each next state is one of the winners, since each winner's
-- output leads back. By the laws of appending and of searching. Assumes nothing.
use mathlib.Core.Path.{◌≡◌, refl, sym, ap, ◌∙◌}
use mathlib.Core.Bool.{Bool, true}
use mathlib.Core.List.{List, [], ◌∷◌, ◌++◌, append_assoc}
use Prim.Native.Nat.{ℕ, ◌+◌, ◌-◌, ◌*◌, ◌<◌}
use native.Mathlib.Omega.{arith}
use lib.ListN.{length, get_or, take, drop, length-append}
use lib.Seq.{take_at, drop_at, drop-drop}
use Rattle.meaning.specs.Lists.{tab, any, place, written}
use Rattle.meaning.specs.Table.{Table}
use Rattle.meaning.specs.Counting.{Position, below, covered}
use Rattle.meaning.specs.Written.{Row, covering, after_round, output_of, row_bytes, rows_of_state, leads_back}
use Rattle.meaning.proofs.Tests.{each_at, first_holds}
use Rattle.meaning.proofs.Lists.{tab-length, any_at, at-member, place_found, flat_map-more}
use Rattle.meaning.proofs.Buffers.{rows-bytes}
use Rattle.meaning.proofs.Stores.{tab-more}
use Rattle.writing.specs.Playable.{Playable}

-- what is written in place of so many bytes from there on
written_at : (old new more whole : List ℕ) (at n : ℕ) → length new ≡ at → whole ≡ written new old → length more ≡ n
    → take at whole ++ (more ++ drop n (drop at whole)) ≡ written (new ++ more) old
written_at old new more whole at n e w m =
    let front : take at whole ≡ new = ap (take at) w ∙ take_at new (drop (length new) old) at e in
    let rest : drop at whole ≡ drop (length new) old = ap (drop at) w ∙ drop_at new (drop (length new) old) at e in
    rw (front, rest, ← m, length-append, append_assoc, drop-drop)

-- one row more
pub rows_more : (f : ℕ → Row) (i : ℕ) → row_bytes (tab (i + 1) f) ≡ row_bytes (tab i f)
    ++ (f i).state ∷ (f i).output ∷ (f i).input ∷ (f i).next ∷ []
unfolding row_bytes
rows_more f i =
    ap row_bytes (tab-more i f) ∙ flat_map-more (λ (r : Row). r.state ∷ r.output ∷ r.input ∷ r.next ∷ []) (tab i f) (f i)

pub rows-length : (f : ℕ → Row) (i : ℕ) → length (row_bytes (tab i f)) ≡ i * 4
rows-length f i = rows-bytes (tab i f) ∙ ap (λ (n : ℕ). n * 4) (tab-length i f)

-- a row written after those of the inputs before
pub row_written : (old : List ℕ) (f : ℕ → Row) (i : ℕ) (whole row : List ℕ) → whole ≡ written (row_bytes (tab i f)) old
    → row ≡ (f i).state ∷ (f i).output ∷ (f i).input ∷ (f i).next ∷ []
    → take (4 * i) whole ++ (row ++ drop (4 * i + 4 - 4 * i) (drop (4 * i) whole)) ≡ written (row_bytes (tab (i + 1) f)) old
row_written old f i whole row w e =
    let four : length row ≡ 4 = ap length e in
    written_at old (row_bytes (tab i f)) row whole (4 * i) (4 * i + 4 - 4 * i) (rows-length f i ∙ omega arith) w (omega arith)
    ∙ ap (λ (l : List ℕ). written l old) (ap (λ (l : List ℕ). row_bytes (tab i f) ++ l) e ∙ sym (rows_more f i))

-- a test that holds of some member has a place
pub place_inside : {A : Type 0} (f : A → Bool) (xs : List A) → any f xs ≡ true → place f xs < length xs
place_inside f xs p =
    let x = any_at f xs p in
    let i = at-member xs x.0 x.0 x.1 in
    let h : i.0 < length xs = i.1 in
    omega (arith, place_found f xs x.0 i.0 h (ap f i.2 ∙ x.2))

-- a state's output, its next state for an input, and the row that says so
abbrev pub output_on : ℕ → Table → List Position → ℕ → ℕ
output_on K t ws s = output_of K t (covered ws) (get_or ws s [])

abbrev pub next_on : ℕ → Table → List Position → ℕ → ℕ → ℕ
next_on K t ws s i = covering ws (after_round K t (output_on K t ws s) i (get_or ws s []))

abbrev pub row_on : ℕ → Table → List Position → ℕ → ℕ → Row
row_on K t ws s i = record { state = s; output = output_on K t ws s; input = i; next = next_on K t ws s i }

pub rows_on : (K : ℕ) (t : Table) (ws : List Position) (s : ℕ) → rows_of_state K t (covered ws) ws s ≡ tab t.inputs (row_on K t ws s)
unfolding rows_of_state
rows_on K t ws s = refl

pub next-inside : (K : ℕ) (t : Table) (ws : List Position) → Playable K t ws → (s i : ℕ) → s < length ws → i < t.inputs
    → next_on K t ws s i < length ws
unfolding output_of leads_back covering
next-inside K t ws playable s i h l =
    place_inside (below (after_round K t (output_on K t ws s) i (get_or ws s []))) ws
    (each_at t.inputs (λ j. covered ws (after_round K t (output_on K t ws s) j (get_or ws s [])))
    (first_holds t.outputs _ (playable.leads s h)) i l)
