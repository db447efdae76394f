-- The rows of bytes as fours of bytes: cut off one after the other, the whole fours are the records of the bytes, a row each. So what
-- stands at a place of the rows, a test of every row and a count of rows are those of the fours. By induction on the bytes, four at a time,
-- and on the list of fours. Assumes nothing.
use mathlib.Core.Path.{◌≡◌, refl, sym, ap, ap₂, ◌∙◌}
use mathlib.Core.Bool.{Bool, true, false, cond, ◌&&◌}
use mathlib.Core.List.{List, [], ◌∷◌, map}
use Prim.Native.Nat.{ℕ, zero, suc, ◌/◌, ◌<◌}
use native.Mathlib.Omega.{arith}
use lib.ListN.{length, get_or, length-map, get_or-map}
use Rattle.std.specs.List.{filter, list_all}
use Rattle.std.specs.Simd.{first_chunks}
use Rattle.meaning.specs.Lists.{every, keep}
use Rattle.meaning.specs.Records.{records_of}
use Rattle.meaning.specs.Written.{Row}
use Rattle.meaning.specs.Play.{rows_in, row}
use Rattle.rows.specs.Placed.{four}

pub fours-rows : (n : ℕ) (bytes : List ℕ) → n ≡ length bytes / 4 → map four (first_chunks 4 n bytes) ≡ rows_in bytes
unfolding rows_in records_of
fours-rows zero [] e = refl
fours-rows zero (a ∷ []) e = refl
fours-rows zero (a ∷ b ∷ []) e = refl
fours-rows zero (a ∷ b ∷ c ∷ []) e = refl
fours-rows zero (a ∷ b ∷ c ∷ d ∷ rest) e = absurd (omega arith)
fours-rows (suc n) [] e = absurd (omega arith)
fours-rows (suc n) (a ∷ []) e = absurd (omega arith)
fours-rows (suc n) (a ∷ b ∷ []) e = absurd (omega arith)
fours-rows (suc n) (a ∷ b ∷ c ∷ []) e = absurd (omega arith)
fours-rows (suc n) (a ∷ b ∷ c ∷ d ∷ rest) e =
    ap (λ (rows : List Row). record { state = a; output = b; input = c; next = d } ∷ rows) (fours-rows n rest (omega arith))

-- for whatever fours the rows are
module _ (bytes : List ℕ) (fours : List (List ℕ)) (told : map four fours ≡ rows_in bytes) where
  pub fours-count : length fours ≡ length (rows_in bytes)
  fours-count = sym (length-map fours four) ∙ ap (λ (rows : List Row). length rows) told

  pub four-at : (i : ℕ) → four (get_or fours i []) ≡ row (rows_in bytes) i
  four-at i = sym (get_or-map four fours i []) ∙ ap (λ (rows : List Row). row rows i) told

  -- a test of every row, as one of the fours, and how many rows it holds of
  module _ (f : Row → Bool) (test : List ℕ → Bool) where
    pub every-four : ((i : ℕ) → i < length fours → test (get_or fours i []) ≡ f (four (get_or fours i [])))
        → list_all test fours ≡ every f (rows_in bytes)
    every-four same = go fours same ∙ ap (every f) told
      where
        go : (xs : List (List ℕ)) → ((i : ℕ) → i < length xs → test (get_or xs i []) ≡ f (four (get_or xs i [])))
            → list_all test xs ≡ every f (map four xs)
        go [] same = refl
        go (x ∷ xs) same = ap₂ ◌&&◌ (same 0 (omega arith)) (go xs (λ i l. same (suc i) (omega arith)))

    pub kept-fours : ((x : List ℕ) → test x ≡ f (four x)) → length (filter test fours) ≡ length (keep f (rows_in bytes))
    kept-fours same = go fours ∙ ap (λ (rows : List Row). length (keep f rows)) told
      where
        go : (xs : List (List ℕ)) → length (filter test xs) ≡ length (keep f (map four xs))
        go [] = refl
        go (x ∷ xs) = rw same (one (f (four x)) (go xs))
          where
            one : (b : Bool) → length (filter test xs) ≡ length (keep f (map four xs))
                → length (cond b (x ∷ filter test xs) (filter test xs))
                ≡ length (cond b (four x ∷ keep f (map four xs)) (keep f (map four xs)))
            one true e = ap suc e
            one false e = e
