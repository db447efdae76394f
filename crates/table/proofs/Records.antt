-- The records of bytes are what their chunks of four bytes state: all of them, and the first i of them with the next. By induction on the
-- number of chunks, and by the laws of lists. Assumes nothing.
use mathlib.Core.Path.{◌≡◌, refl, sym, ap, ◌∙◌}
use mathlib.Core.List.{List, [], ◌∷◌, ◌++◌, map}
use Prim.Native.Nat.{ℕ, zero, suc, ◌+◌, ◌/◌, ◌≤◌, ◌<◌}
use native.Mathlib.Numerals.{add-one}
use native.Mathlib.Omega.{arith}
use lib.ListN.{length, take, get_or, length-map}
use lib.Seq.{take_all, take-suc}
use Rattle.std.specs.Simd.{first_chunks}
use Rattle.std.proofs.lemmas.List.{get_or-map}
use Rattle.meaning.specs.Records.{Record, records_of, at, blank}
use Rattle.table.specs.Packed.{of_bytes}

-- the records are the chunks of four bytes
pub chunked : (k : ℕ) (bytes : List ℕ) → length bytes / 4 ≡ k → map of_bytes (first_chunks 4 k bytes) ≡ records_of bytes
unfolding records_of
chunked zero [] e = refl
chunked zero (a ∷ []) e = refl
chunked zero (a ∷ b ∷ []) e = refl
chunked zero (a ∷ b ∷ c ∷ []) e = refl
chunked zero (a ∷ b ∷ c ∷ d ∷ rest) e = absurd (omega arith)
chunked (suc k) [] e = absurd (omega arith)
chunked (suc k) (a ∷ []) e = absurd (omega arith)
chunked (suc k) (a ∷ b ∷ []) e = absurd (omega arith)
chunked (suc k) (a ∷ b ∷ c ∷ []) e = absurd (omega arith)
chunked (suc k) (a ∷ b ∷ c ∷ d ∷ rest) e =
    ap (λ (l : List Record). record { kind = a; from = b; letter = c; to = d } ∷ l) (chunked k rest (omega arith))

module _ (chunks : List (List ℕ)) {rs : List Record} (stated : map of_bytes chunks ≡ rs) where
  pub as_many : length rs ≡ length chunks
  as_many = ap length (sym stated) ∙ length-map chunks of_bytes

  pub record-at : (i : ℕ) (r : Record) → i < length chunks → r ≡ of_bytes (get_or chunks i []) → r ≡ at rs i
  record-at i r h e = e ∙ sym (get_or-map of_bytes chunks i [] blank h) ∙ ap (λ (l : List Record). at l i) stated

  pub next_record : (i : ℕ) (r : Record) → i < length chunks → r ≡ of_bytes (get_or chunks i []) → take (i + 1) rs ≡ take i rs ++ (r ∷ [])
  next_record i r h e = rw (add-one i, record-at i r h e) (take-suc rs i blank (omega (arith, as_many)))

  pub all_records : (i : ℕ) → length chunks ≤ i → take i rs ≡ rs
  all_records i h = take_all i rs (omega (arith, as_many))
