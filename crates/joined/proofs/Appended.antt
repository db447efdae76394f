-- What a join writes, run after run: bytes stored one after the other are stored as one run; the bytes of one record more; and the joined
-- table kind by kind, the first table's records and then the second's. By induction on what is written, and by the laws of appending.
-- Assumes nothing.
use mathlib.Core.Path.{◌≡◌, refl, sym, ap, ap₂, ◌∙◌, fun_ext}
use mathlib.Core.Bool.{Bool, true, false, cond}
use mathlib.Core.List.{List, [], ◌∷◌, ◌++◌, map, flat_map, append_assoc, map-append, map-id}
use Prim.Native.Nat.{ℕ, zero, suc, ◌+◌, ◌*◌, ◌≤◌, ◌<◌, zero-le}
use native.Mathlib.Nat.{add-zero, zero-add}
use native.Mathlib.Omega.{arith}
use lib.ListN.{length, take, drop, set, length-append, length-map}
use lib.Seq.{sets, length-sets, sets-eq, split_at}
use lib.Dec.{eqb}
use Rattle.meaning.specs.Lists.{written}
use Rattle.meaning.specs.Records.{Record, records_of, bytes_of, at, blank, of_kind, controller, world, output}
use Rattle.meaning.specs.Table.{table_of}
use Rattle.meaning.specs.Join.{by_kind, upward, renumber, joined, joined_bytes}
use Rattle.meaning.proofs.Records.{Kind, of-controller, of-world, of_output, of-input, record_same, bytes-length}
use Rattle.meaning.proofs.JoinKinds.{beside-kind}
use Rattle.table.specs.declared.Table.{Table}
use Rattle.table.specs.Packed.{packed}
use Rattle.table.proofs.OneMore.{of_kind_around, of_kind_this, of_kind_other}
use Rattle.joined.specs.Joined.{moved_bytes, Stored}

-- one run of bytes and then another
pub sets_append : (old : List ℕ) (start : ℕ) (xs ys : List ℕ) → sets (sets old start xs) (start + length xs) ys ≡ sets old start (xs ++ ys)
sets_append old start [] ys = ap (λ (k : ℕ). sets old k ys) (add-zero start)
sets_append old start (x ∷ xs) ys =
    let further : start + suc (length xs) ≡ suc start + length xs = omega arith in
    rw further (sets_append (set old start x) (suc start) xs ys)

pub sets_written : (old new : List ℕ) → length new ≤ length old → sets old 0 new ≡ written new old
sets_written old new h = sets-eq new old 0 (omega arith) ∙ ap (λ (k : ℕ). new ++ drop k old) (zero-add (length new))

-- the bytes of records
pub bytes-append : (rs ss : List Record) → bytes_of (rs ++ ss) ≡ bytes_of rs ++ bytes_of ss
unfolding bytes_of flat_map
bytes-append [] ss = refl
bytes-append (r ∷ rs) ss = ap (λ (l : List ℕ). r.kind ∷ r.from ∷ r.letter ∷ r.to ∷ l) (bytes-append rs ss)

-- nothing stored, and one run after another
pub stored-none : (old : List ℕ) (start : ℕ) → Stored old start [] old start
stored-none old start = record { ends = sym (add-zero start); bytes = refl }

pub stored_more : {old middle after xs ys : List ℕ} {start between end : ℕ}
    → Stored old start xs middle between → Stored middle between ys after end → Stored old start (xs ++ ys) after end
stored_more {old} {xs = xs} {ys = ys} {start = start} p q =
    record {
      ends = omega (arith, p.ends, q.ends, length-append xs ys);
      bytes = q.bytes ∙ ap₂ (λ (l : List ℕ) (k : ℕ). sets l k ys) p.bytes p.ends ∙ sets_append old start xs ys;
    }

pub stored-length : {old after new : List ℕ} {start end : ℕ} → Stored old start new after end → length after ≡ length old
stored-length {old} {new = new} {start = start} p = ap length p.bytes ∙ length-sets old start new

-- the bytes of the records of one kind, renumbered: of one record more, and that they fit where all of them do
module _ (n m kind : ℕ) where
  pub moved_this : (rs : List Record) (r : Record) → r.kind ≡ kind
      → moved_bytes n m kind (rs ++ (r ∷ [])) ≡ moved_bytes n m kind rs ++ bytes_of (renumber n m r ∷ [])
  moved_this rs r e =
      rw (of_kind_this kind rs r e, map-append (renumber n m) (of_kind kind rs) (r ∷ []))
      (bytes-append (map (renumber n m) (of_kind kind rs)) (renumber n m r ∷ []))

  pub moved_other : (rs : List Record) (r : Record) → (r.kind ≡ kind → ⊥) → moved_bytes n m kind (rs ++ (r ∷ [])) ≡ moved_bytes n m kind rs
  moved_other rs r e = ap (λ (l : List Record). bytes_of (map (renumber n m) l)) (of_kind_other kind rs r e)

  moved_length : (rs : List Record) → length (moved_bytes n m kind rs) ≡ 4 * length (of_kind kind rs)
  moved_length rs =
      bytes-length (map (renumber n m) (of_kind kind rs)) ∙ ap (λ (k : ℕ). 4 * k) (length-map (of_kind kind rs) (renumber n m))

  pub moved-room : (rs : List Record) (i : ℕ) (r : Record) → i < length rs → r ≡ at rs i → r.kind ≡ kind
      → length (moved_bytes n m kind (take i rs)) + 4 ≤ length (moved_bytes n m kind rs)
  moved-room rs i r h e this =
      let rest = drop (suc i) rs in
      let split : rs ≡ take i rs ++ (r ∷ rest) = split_at rs i blank h ∙ ap (λ (s : Record). take i rs ++ (s ∷ rest)) (sym e) in
      let around : of_kind kind rs ≡ of_kind kind (take i rs) ++ (r ∷ of_kind kind rest) = ap (of_kind kind) split
      ∙ of_kind_around kind (take i rs) r rest this in
      omega (
        arith,
        moved_length (take i rs),
        moved_length rs,
        ap length around,
        length-append (of_kind kind (take i rs)) (r ∷ of_kind kind rest),
      )

-- renumbered by none, a record is the same
renumber-none : (r : Record) → renumber 0 0 r ≡ r
unfolding renumber upward
renumber-none r =
    go (eqb r.kind controller) (eqb r.kind world) (eqb r.kind output)
    ∙ record_same (upward 0 0 r) r refl (zero-add r.from) refl (zero-add r.to)
  where
    go : (a b c : Bool) → cond a (upward 0 0 r) (cond b (upward 0 0 r) (cond c (upward 0 0 r) (upward 0 0 r))) ≡ upward 0 0 r
    go true b c = refl
    go false true c = refl
    go false false true = refl
    go false false false = refl

-- of one kind: the first table's, and then the second's
kind-bytes : (n m kind : ℕ) (rs ss : List Record) → bytes_of (of_kind kind (rs ++ map (renumber n m) ss)) ≡ moved_bytes 0 0 kind rs
    ++ moved_bytes n m kind ss
kind-bytes n m kind rs ss =
    ap bytes_of (beside-kind kind n m rs ss)
    ∙ bytes-append (of_kind kind rs) (map (renumber n m) (of_kind kind ss))
    ∙ ap (λ (l : List Record). bytes_of l ++ moved_bytes n m kind ss)
    (sym (ap (λ (f : Record → Record). map f (of_kind kind rs)) (fun_ext renumber-none) ∙ map-id (of_kind kind rs)))

-- the records of the kinds before one
abbrev pub kinds_before : ℕ → List Record → List Record
kinds_before zero zs = []
kinds_before (suc zero) zs = []
kinds_before (suc (suc k)) zs = kinds_before (suc k) zs ++ of_kind (suc k) zs

module _ (zs : List Record) where
  kinds_more : (kind : ℕ) → Kind kind → kinds_before (kind + 1) zs ≡ kinds_before kind zs ++ of_kind kind zs
  kinds_more _ of-controller = refl
  kinds_more _ of-world = refl
  kinds_more _ of_output = refl
  kinds_more _ of-input = refl

  kinds_grow : (kind : ℕ) → length (kinds_before kind zs) ≤ length (kinds_before (suc kind) zs)
  kinds_grow zero = zero-le
  kinds_grow (suc kind) = omega (arith, length-append (kinds_before (suc kind) zs) (of_kind (suc kind) zs))

  kinds_within : (kind : ℕ) → Kind kind → length (kinds_before (kind + 1) zs) ≤ length (kinds_before 5 zs)
  kinds_within _ of-controller = omega (arith, kinds_grow 2, kinds_grow 3, kinds_grow 4)
  kinds_within _ of-world = omega (arith, kinds_grow 3, kinds_grow 4)
  kinds_within _ of_output = kinds_grow 4
  kinds_within _ of-input = omega arith

-- the bytes of two tables' records of the kinds before one, the second's renumbered: of one kind more, that they fit where all kinds do,
-- and that all kinds are the joined table
abbrev pub joined_before : ℕ → ℕ → List Record → List Record → ℕ → List ℕ
joined_before n m rs ss kind = bytes_of (kinds_before kind (rs ++ map (renumber n m) ss))

module _ (n m : ℕ) (rs ss : List Record) (kind : ℕ) (k : Kind kind) where
  pub joined-more : joined_before n m rs ss (kind + 1) ≡ joined_before n m rs ss kind ++ moved_bytes 0 0 kind rs ++ moved_bytes n m kind ss
  joined-more =
      let zs = rs ++ map (renumber n m) ss in
      ap bytes_of (kinds_more zs kind k)
      ∙ bytes-append (kinds_before kind zs) (of_kind kind zs)
      ∙ ap (λ (l : List ℕ). bytes_of (kinds_before kind zs) ++ l) (kind-bytes n m kind rs ss)
      ∙ sym (append_assoc (bytes_of (kinds_before kind zs)) (moved_bytes 0 0 kind rs) (moved_bytes n m kind ss))

  pub joined-room :
      length (joined_before n m rs ss kind) + length (moved_bytes 0 0 kind rs)
      + length (moved_bytes n m kind ss) ≤ length (joined_before n m rs ss 5)
  joined-room =
      let zs = rs ++ map (renumber n m) ss in
      omega (
        arith,
        kinds_within zs kind k,
        bytes-length (kinds_before (kind + 1) zs),
        bytes-length (kinds_before 5 zs),
        ap length joined-more,
        length-append (joined_before n m rs ss kind ++ moved_bytes 0 0 kind rs) (moved_bytes n m kind ss),
        length-append (joined_before n m rs ss kind) (moved_bytes 0 0 kind rs),
      )

pub joined-all : (one two : List ℕ) (t : Table) → t ≡ packed (table_of (records_of one))
    → joined_before t.controllers t.worlds (records_of one) (records_of two) 5 ≡ joined_bytes one two
unfolding packed table_of joined by_kind
joined-all one two t e = rw e
