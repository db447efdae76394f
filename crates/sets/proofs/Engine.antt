-- The engine's lists are the maximal members of the named sets, in eight counts: a step back reads only the counts of states that are
-- there, so each cut and each widening does in eight counts what it does in the side's own. So the round in which the list repeats is the
-- one that shows equality, a list past the room is a named set past the room, and where none was, FULL is not given. Assumes nothing.
use mathlib.Core.Path.{◌≡◌, refl, sym, ap, ap₂, ◌∙◌}
use mathlib.Core.Bool.{true, false}
use mathlib.Core.List.Memᴰ
use mathlib.Core.List.{List, [], ◌∷◌, ◌++◌, map, map-map, map-append}
use Prim.Native.Nat.{ℕ, zero, suc, ◌+◌, ◌≤◌, ◌<◌, ◌^◌, zero-le}
use native.Mathlib.Nat.{le_refl, not-suc-le-zero}
use native.Mathlib.Decide.{dec_lt}
use native.Mathlib.Omega.{arith}
use lib.ListN.{length, length-map}
use Rattle.meaning.specs.Table.{Half, Table, on_output, on_input, Small}
use Rattle.meaning.specs.Counting.{Position, back}
use Rattle.meaning.specs.Rounds.{Set, all_safe, set_a, set_b, set_w, rounds, winning, maximal_members, full, Crowded, Down, Within}
use Rattle.meaning.specs.Rounds.{FirstSet}
use Rattle.meaning.specs.Rounds.{in-A, in-B, in-W}
use Rattle.meaning.specs.Written.{position_bytes, winners}
use Rattle.meaning.proofs.Tests.{refuted, below_last}
use Rattle.meaning.proofs.Steps.{back-length}
use Rattle.meaning.proofs.Positions.{all_safe-length}
use Rattle.meaning.proofs.Rounds.{set_a-safe, set_b-safe, set_w-down, set_w-safe, rounds-bound, rounds_settled, rounds-smallest}
use Rattle.meaning.proofs.Maximal.{member_in, members_determine, members-same}
use Rattle.meaning.proofs.Full.{full-exactly}
use Rattle.counts.proofs.Wide.{wide_at, wide_same, back_reads}
use Rattle.lists.proofs.Members.{Sized}
use Rattle.tops.specs.Tops.{tops, meets}
use Rattle.tops.proofs.Kept.{append-sized}
use Rattle.tops.proofs.Meets.{meets-sized}
use Rattle.sets.specs.Engine.{StandsFor, back_wide, cut_by, widen_by, brim, list_a, list_b, next_list}
use Rattle.sets.proofs.Widened.{tops_wide, meets_wide}
use Rattle.sets.proofs.Letters.{all_safe-brim, set_a-none, set_a_cut, set_b-none, set_b_widen}

pub stands-length : (K n : ℕ) (X : Set) (l : List Position) → StandsFor K n X l → length l ≡ length (maximal_members K n X)
stands-length K n X l s = ap length s ∙ length-map (maximal_members K n X) position_bytes

-- the maximal members have their side's counts
pub members-sized : (K n : ℕ) (X : Set) → Within X (all_safe K n) → Sized n (maximal_members K n X)
members-sized K n X safe F m = all_safe-length K n F (safe F (member_in K n X safe F m))

-- one letter's step, in eight counts
module _ (K : ℕ) (h : Half) (sources : h.sources ≤ 8) (targets : h.targets ≤ 8) where
  pub back_wide_lem : (F : Position) → back K h (position_bytes F) ≡ back K h F
  back_wide_lem F = back_reads K h (position_bytes F) F (λ q l. wide_at F q (omega arith))

  backs_wide : (Fs : List Position) → map (back_wide K h) (map position_bytes Fs) ≡ map position_bytes (map (back K h) Fs)
  backs_wide Fs = simp (map-map, back_wide_lem)

  backs-sized : (Fs : List Position) → Sized h.sources (map (back K h) Fs)
  backs-sized Fs F m = let r = Memᴰ.of_map (back K h) Fs m in rw (← r.2) (back-length K h r.0)

  pub cut_wide : (Ws As : List Position) → Sized h.sources As
      → cut_by K h (map position_bytes Ws) (map position_bytes As) ≡ map position_bytes (tops (meets As (map (back K h) Ws)))
  unfolding cut_by
  cut_wide Ws As s =
      ap (λ (l : List Position). tops (meets (map position_bytes As) l)) (backs_wide Ws)
      ∙ ap tops (sym (meets_wide h.sources As (map (back K h) Ws) sources s (backs-sized Ws)))
      ∙ sym (tops_wide h.sources (meets As (map (back K h) Ws)) sources (meets-sized h.sources As (map (back K h) Ws) s))

  pub widen_wide : (As Bs : List Position) → Sized h.sources Bs
      → widen_by K h (map position_bytes As) (map position_bytes Bs) ≡ map position_bytes (tops (Bs ++ map (back K h) As))
  unfolding widen_by
  widen_wide As Bs s =
      ap (λ (l : List Position). tops (map position_bytes Bs ++ l)) (backs_wide As)
      ∙ ap tops (sym (map-append position_bytes Bs (map (back K h) As)))
      ∙ sym (tops_wide h.sources (Bs ++ map (back K h) As) sources (append-sized h.sources Bs (map (back K h) As) s (backs-sized As)))

module _ (K : ℕ) (t : Table) (small : Small t) (W : Set) (down : Down W) (safe : Within W (all_safe K t.controllers))
    (ws : List Position) (stands : StandsFor K t.controllers W ws) where
  pub list_a-stands : (j : ℕ) → StandsFor K t.worlds (set_a K t W j) (list_a K t ws j)
  unfolding list_a
  list_a-stands zero = ap (map position_bytes) (sym (set_a-none K t W down safe))
  list_a-stands (suc j) =
      ap₂ (cut_by K (on_input t j)) stands (list_a-stands j)
      ∙ cut_wide K (on_input t j) small.worlds small.controllers (maximal_members K t.controllers W)
      (maximal_members K t.worlds (set_a K t W j)) (members-sized K t.worlds (set_a K t W j) (set_a-safe K t W j))
      ∙ ap (map position_bytes) (sym (set_a_cut K t W down safe j))

  pub list_b-stands : (k : ℕ) → StandsFor K t.controllers (set_b K t W k) (list_b K t (list_a K t ws t.inputs) k)
  unfolding list_b
  list_b-stands zero = ap (map position_bytes) (sym (set_b-none K t W down safe))
  list_b-stands (suc k) =
      ap₂ (widen_by K (on_output t k)) (list_a-stands t.inputs) (list_b-stands k)
      ∙ widen_wide K (on_output t k) small.controllers small.worlds (maximal_members K t.worlds (set_a K t W t.inputs))
      (maximal_members K t.controllers (set_b K t W k)) (members-sized K t.controllers (set_b K t W k) (set_b-safe K t W k))
      ∙ ap (map position_bytes) (sym (set_b_widen K t W down safe k))

-- all safe positions
pub all_safe-stands : (K n : ℕ) → StandsFor K n (all_safe K n) (position_bytes (brim K n) ∷ [])
all_safe-stands K n = ap (map position_bytes) (sym (all_safe-brim K n))

-- lists of positions of one side are equal where they are in eight counts
pub wide_lists_equal : (n : ℕ) → n ≤ 8 → (Fs Gs : List Position) → Sized n Fs → Sized n Gs → map position_bytes Fs ≡ map position_bytes Gs
    → Fs ≡ Gs
wide_lists_equal n h [] [] s r e = refl
wide_lists_equal n h [] (G ∷ Gs) s r e = absurd (omega (arith, ap length e))
wide_lists_equal n h (F ∷ Fs) [] s r e = absurd (omega (arith, ap length e))
wide_lists_equal n h (F ∷ Fs) (G ∷ Gs) s r e =
    let one : position_bytes F ≡ position_bytes G = cc in
    let rest : map position_bytes Fs ≡ map position_bytes Gs = cc in
    let sF : length F ≡ n = s F (Memᴰ.head refl) in
    ap₂ (λ (x : Position) (l : List Position). x ∷ l) (wide_same F G one (sF ∙ sym (r G (Memᴰ.head refl))) (rw sF h))
    (wide_lists_equal n h Fs Gs (λ H m. s H (Memᴰ.tail m)) (λ H m. r H (Memᴰ.tail m)) rest)

-- two sets of one side are equal where their lists are
pub stands-equal : (K n : ℕ) → n ≤ 8 → (X Y : Set) → Down X → Down Y → Within X (all_safe K n) → Within Y (all_safe K n)
    → (l m : List Position)
    → StandsFor K n X l → StandsFor K n Y m → l ≡ m → (F : Position) → X F ≡ Y F
stands-equal K n h X Y dX dY sX sY l m a b e =
    members_determine K n X Y sX sY dX dY
    (wide_lists_equal n h (maximal_members K n X) (maximal_members K n Y) (members-sized K n X sX) (members-sized K n Y sY) (sym a ∙ e ∙ b))

-- and the lists are equal where the sets are
pub equal-stands : (K n : ℕ) (X Y : Set) (l m : List Position) → StandsFor K n X l → StandsFor K n Y m → ((F : Position) → X F ≡ Y F)
    → l ≡ m
equal-stands K n X Y l m a b p = a ∙ ap (map position_bytes) (members-same K n X Y p) ∙ sym b

-- the rounds that have run, without a repeat and within the room: r of them, and the list of W(r)
pub record Running (K : ℕ) (t : Table) (X : Set) (N r : ℕ) (ws : List Position) : Type 0 where
  pub stands : StandsFor K t.controllers (set_w K t X r) ws
  pub within : length ws ≤ N
  pub first-within : length (maximal_members K t.controllers X) ≤ N
  pub no_repeat : (s : ℕ) → s < r → ((F : Position) → set_w K t X s F ≡ set_w K t X (suc s) F) → ⊥
  pub roomy_A : (s j : ℕ) → s < r → j ≤ t.inputs → length (maximal_members K t.worlds (set_a K t (set_w K t X s) j)) ≤ N
  pub roomy_B : (s k : ℕ) → s < r → k ≤ t.outputs → length (maximal_members K t.controllers (set_b K t (set_w K t X s) k)) ≤ N

module _ (K : ℕ) (t : Table) (small : Small t) (X : Set) (first : FirstSet K t X) (output : 0 < t.outputs) (N : ℕ) where
  pub running_start : (ws : List Position) → StandsFor K t.controllers X ws → length ws ≤ N → Running K t X N zero ws
  unfolding set_w
  running_start ws s h =
      record {
        stands = s;
        within = h;
        first-within = rw (stands-length K t.controllers X ws s) at h;
        no_repeat = λ i l. absurd (not-suc-le-zero l);
        roomy_A = λ i j l. absurd (not-suc-le-zero l);
        roomy_B = λ i k l. absurd (not-suc-le-zero l);
      }

  -- this round's lists
  module _ (r : ℕ) (ws : List Position) (run : Running K t X N r ws) where
    pub round_A : (j : ℕ) → StandsFor K t.worlds (set_a K t (set_w K t X r) j) (list_a K t ws j)
    round_A = list_a-stands K t small (set_w K t X r) (set_w-down K t X first r) (set_w-safe K t X first r) ws run.stands

    pub round_B : (k : ℕ) → StandsFor K t.controllers (set_b K t (set_w K t X r) k) (list_b K t (list_a K t ws t.inputs) k)
    round_B = list_b-stands K t small (set_w K t X r) (set_w-down K t X first r) (set_w-safe K t X first r) ws run.stands

    pub round-next : StandsFor K t.controllers (set_w K t X (suc r)) (next_list K t ws)
    unfolding set_w next_list
    round-next = round_B t.outputs

    round_A_length : (j : ℕ) → length (list_a K t ws j) ≡ length (maximal_members K t.worlds (set_a K t (set_w K t X r) j))
    round_A_length j = stands-length K t.worlds (set_a K t (set_w K t X r) j) (list_a K t ws j) (round_A j)

    round_B_length : (k : ℕ)
        → length (list_b K t (list_a K t ws t.inputs) k) ≡ length (maximal_members K t.controllers (set_b K t (set_w K t X r) k))
    round_B_length k = stands-length K t.controllers (set_b K t (set_w K t X r) k) (list_b K t (list_a K t ws t.inputs) k) (round_B k)

    -- the rounds with this one are within the room, if its lists are
    roomy_A_now : ((j : ℕ) → j ≤ t.inputs → length (list_a K t ws j) ≤ N)
        → (s j : ℕ) → s < suc r → j ≤ t.inputs → length (maximal_members K t.worlds (set_a K t (set_w K t X s) j)) ≤ N
    roomy_A_now a s j h =
        below_last {P = λ (i : ℕ). j ≤ t.inputs → length (maximal_members K t.worlds (set_a K t (set_w K t X i) j)) ≤ N} r
        (λ i l. run.roomy_A i j l) (λ l. rw (← round_A_length j) (a j l)) s h

    roomy_B_now : ((k : ℕ) → k ≤ t.outputs → length (list_b K t (list_a K t ws t.inputs) k) ≤ N)
        → (s k : ℕ) → s < suc r → k ≤ t.outputs → length (maximal_members K t.controllers (set_b K t (set_w K t X s) k)) ≤ N
    roomy_B_now b s k h =
        below_last {P = λ (i : ℕ). k ≤ t.outputs → length (maximal_members K t.controllers (set_b K t (set_w K t X i) k)) ≤ N} r
        (λ i l. run.roomy_B i k l) (λ l. rw (← round_B_length k) (b k l)) s h

    -- and so is each W: it is the first, or the last B of the round before
    roomy_W : (s : ℕ) → s ≤ r → length (maximal_members K t.controllers (set_w K t X s)) ≤ N
    unfolding set_w
    roomy_W zero h = run.first-within
    roomy_W (suc s) h = run.roomy_B s t.outputs h (le_refl t.outputs)

    -- no round that has run was the last
    pub running_early : r ≤ rounds K t X
    running_early = go (dec_lt (rounds K t X) r)
      where
        go : Dec (rounds K t X < r) → r ≤ rounds K t X
        go (yes l) = absurd (run.no_repeat (rounds K t X) l (rounds_settled K t X first output))
        go (no l) = omega arith

  -- one more round, whose lists all kept to the room and whose W differs
  pub running_next : (r : ℕ) (ws : List Position) → Running K t X N r ws → ((j : ℕ) → j ≤ t.inputs → length (list_a K t ws j) ≤ N)
      → ((k : ℕ) → k ≤ t.outputs → length (list_b K t (list_a K t ws t.inputs) k) ≤ N) → (next_list K t ws ≡ ws → ⊥)
      → Running K t X N (suc r) (next_list K t ws)
  unfolding next_list
  running_next r ws run a b d =
      record {
        stands = round-next r ws run;
        within = b t.outputs (le_refl t.outputs);
        first-within = run.first-within;
        no_repeat =
            below_last r run.no_repeat
            (λ same. d (sym (equal-stands K t.controllers (set_w K t X r) (set_w K t X (suc r)) ws (next_list K t ws) run.stands
            (round-next r ws run) same)));
        roomy_A = roomy_A_now r ws run a;
        roomy_B = roomy_B_now r ws run b;
      }

  -- the rounds so far are fewer than the bound, so a measure falls
  pub running_bound : (r : ℕ) (ws : List Position) → Running K t X N r ws → r < (K + 2) ^ t.controllers
  running_bound r ws run = omega (arith, running_early r ws run, rounds-bound K t X first output)

  -- a list past the room: FULL
  pub running_full_A : (r : ℕ) (ws : List Position) → Running K t X N r ws → (j : ℕ) → j ≤ t.inputs → N < length (list_a K t ws j)
      → full K t X N ≡ true
  running_full_A r ws run j h l =
      (full-exactly K t X N).1 (r, running_early r ws run, in-A j h (omega (arith, round_A_length r ws run j)))

  pub running_full_B : (r : ℕ) (ws : List Position) → Running K t X N r ws → (k : ℕ) → k ≤ t.outputs
      → N < length (list_b K t (list_a K t ws t.inputs) k) → full K t X N ≡ true
  running_full_B r ws run k h l =
      (full-exactly K t X N).1 (r, running_early r ws run, in-B k h (omega (arith, round_B_length r ws run k)))

  -- a first list past the room: FULL too
  pub first-full : (ws : List Position) → StandsFor K t.controllers X ws → N < length ws → full K t X N ≡ true
  unfolding set_w
  first-full ws s l = (full-exactly K t X N).1 (zero, zero-le, in-W (omega (arith, stands-length K t.controllers X ws s)))

  -- the repeat: the rounds, the winners, and no FULL
  pub running_settled : (r : ℕ) (ws : List Position) → Running K t X N r ws → ((j : ℕ) → j ≤ t.inputs → length (list_a K t ws j) ≤ N)
      → ((k : ℕ) → k ≤ t.outputs → length (list_b K t (list_a K t ws t.inputs) k) ≤ N) → next_list K t ws ≡ ws
      → (rounds K t X ≡ r) × (ws ≡ map position_bytes (winners K t X)) × (full K t X N ≡ false)
  unfolding winners winning
  running_settled r ws run a b e = (
    last,
    rw last run.stands,
    refuted (full K t X N)
        (λ f. let o = (full-exactly K t X N).0 f in roomy o.0 (rw last at o.1) o.2),
  )
    where
      same : (F : Position) → set_w K t X r F ≡ set_w K t X (suc r) F
      same =
          stands-equal K t.controllers small.controllers (set_w K t X r) (set_w K t X (suc r)) (set_w-down K t X first r)
          (set_w-down K t X first (suc r))
          (set_w-safe K t X first r) (set_w-safe K t X first (suc r)) ws (next_list K t ws) run.stands (round-next r ws run) (sym e)

      last : rounds K t X ≡ r
      last = go (dec_lt r (rounds K t X))
        where
          go : Dec (r < rounds K t X) → rounds K t X ≡ r
          go (yes l) = absurd (rounds-smallest K t X first r l same)
          go (no l) = omega (arith, running_early r ws run)

      roomy : (s : ℕ) → s ≤ r → Crowded K t (set_w K t X s) N → ⊥
      roomy s h (in-W c) = omega (arith, roomy_W r ws run s h)
      roomy s h (in-A j l c) = omega (arith, roomy_A_now r ws run a s j (omega arith) l)
      roomy s h (in-B k l c) = omega (arith, roomy_B_now r ws run b s k (omega arith) l)
