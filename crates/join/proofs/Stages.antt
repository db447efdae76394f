-- By parts, stage by stage: what each stage may take from two tables that pass, and what the stages come to by what each has found.
-- The joined table's bytes pass again, it is the two side by side, and the pairs are a first set of it; so the rounds may begin at their
-- list, which covers them, and a list of winners alone is paired into it. Assumes nothing.
use mathlib.Core.Path.{◌≡◌, sym, ap, ◌∙◌}
use mathlib.Core.Bool.{true}
use mathlib.Core.List.{List, [], ◌∷◌, ◌++◌, map}
use Prim.Native.Nat.{ℕ, ◌≤◌, ◌<◌}
use lib.Dec.{ltb}
use lib.ListN.{length}
use borrow.Author.Tests.{lt-ltb, le-ltb}
use Rattle.meaning.specs.declared.Refusal.TheVariants as R
use Rattle.meaning.specs.Records.{records_of, output, input}
use Rattle.meaning.specs.Table.{table_of, stated, Small}
use Rattle.meaning.specs.Counting.{Position}
use Rattle.meaning.specs.Rounds.{all_safe, winning, maximal_members, FirstSet}
use Rattle.meaning.specs.Written.{position_bytes, winners}
use Rattle.meaning.specs.Join.{joined, pairs, joined_bytes, joined_table}
use Rattle.meaning.specs.Answers.{unsolved, solved_from, staged}
use Rattle.meaning.specs.Checks.{Check, check, judge, stage_checks, pair_checks, Passes, parts_stages}
use Rattle.meaning.proofs.Rounds.{all_safe-first, winning-safe}
use Rattle.meaning.proofs.Records.{records_back, letters-top}
use Rattle.meaning.proofs.Checks.{judge-append}
use Rattle.meaning.proofs.Sound.{passes-good, passes-first, passes-second, passes-paired, passes-small}
use Rattle.meaning.proofs.Union.{controllers_sum}
use Rattle.meaning.proofs.Parts.{pairs_first}
use Rattle.meaning.proofs.PairLists.{pairs-members}
use Rattle.meaning.proofs.JoinGood.{joined_sound}
use Rattle.meaning.proofs.Join.{joined_union, joined-good, joined-passes}
use Rattle.std.specs.Prelude.{Result, Ok, Err}
use Rattle.table.specs.declared.Table as T
use Rattle.table.specs.Packed.{table_in, packed}
use Rattle.table.proofs.Good.{good-table}
use Rattle.lists.specs.Members.{positions}
use Rattle.tops.specs.declared.Full.{Full}
use Rattle.sets.proofs.Engine.{stands-length, members-sized}
use Rattle.rounds.specs.Rounds.{covered_by, FirstList, Settles}
use Rattle.rounds.proofs.First.{first-covered, first_list}
use Rattle.rounds.proofs.Settles.{after_settled}
use Rattle.game.specs.Finished.{Fit}
use Rattle.game.proofs.InOrder.{stage-full}
use Rattle.join.specs.Beside.{all_beside}
use Rattle.join.specs.Parts.{FirstPairs, last_stage, in_turn}
use Rattle.join.proofs.Pairs.{all_wide}
use Rattle.join.proofs.Settles.{stage_passed}

module _ (one two : List ℕ) (p : Passes (pair_checks one two)) where
  -- what is read of the joined table's bytes is the joined table
  pub joined-read : (t : T.Table) → t ≡ packed (table_of (records_of (joined_bytes one two))) → table_in t ≡ joined_table one two
  joined-read t e =
      good-table 0 (joined_bytes one two) t e (joined-passes one two p 0)
      ∙ ap table_of (records_back (joined (records_of one) (records_of two)))

  pub joined_small : Small (joined_table one two)
  joined_small = rw (records_back (joined (records_of one) (records_of two)))
      at (passes-small 0 (joined_bytes one two) (joined-passes one two p 0))

  -- it may be solved
  pub joined_fit : Fit (joined_table one two)
  unfolding table_of
  joined_fit =
      let within = (joined_sound (records_of one) (records_of two) (passes-paired one two p)).within in
      record {
        small = joined_small;
        good = joined-good one two p;
        outputs = letters-top output (joined (records_of one) (records_of two)) within;
        inputs = letters-top input (joined (records_of one) (records_of two)) within;
      }

  -- a table alone has an output
  pub first-output : 0 < (stated one).outputs
  first-output = (passes-good 1 one (passes-first one two p 1)).some-output

  pub second-output : 0 < (stated two).outputs
  second-output = (passes-good 2 two (passes-second one two p 2)).some-output

  module _ (K : ℕ) where
    -- the pairs are a first set
    pub pairs_begin : FirstSet K (joined_table one two) (pairs K (stated one) (stated two))
    pairs_begin = pairs_first (stated one) (stated two) (joined_table one two) (joined_union one two p) K first-output

    -- so the rounds may begin at their list, which covers them
    module _ (l : List Position) (stands : FirstPairs one two K l) where
      pub pairs-covered : covered_by (joined_table one two).controllers l ≡ pairs K (stated one) (stated two)
      pairs-covered = first-covered K (joined_table one two) joined_small (pairs K (stated one) (stated two)) pairs_begin l stands

      pub pairs_list : FirstList K (joined_table one two) l
      pairs_list =
          first_list K (joined_table one two) joined_small (pairs K (stated one) (stated two)) pairs_begin l stands
          (joined-good one two p).some-output

    -- the lists of winners alone, paired, are the list of pairs
    pub pairs-listed : (n : ℕ) (ones twos : List Position) → n ≡ (stated one).controllers
        → ones ≡ map position_bytes (winners K (stated one) (all_safe K (stated one).controllers))
        → twos ≡ map position_bytes (winners K (stated two) (all_safe K (stated two).controllers))
        → FirstPairs one two K (all_beside n ones twos)
    unfolding winners
    pairs-listed n ones twos h e f =
        let t = stated one in
        let u = stated two in
        (λ i. all_beside (h i) (e i) (f i))
        ∙ all_wide t.controllers (winners K t (all_safe K t.controllers)) (winners K u (all_safe K u.controllers))
        (members-sized K t.controllers (winning K t (all_safe K t.controllers))
        (winning-safe K t (all_safe K t.controllers) (all_safe-first K t)))
        ∙ ap (map position_bytes)
        (sym (ap (λ (n : ℕ). maximal_members K n (pairs K t u)) (controllers_sum t u (joined_table one two) (joined_union one two p))
        ∙ pairs-members K t u))

-- a list of pairs that the last stage may begin with: past the room it is FULL, and else that stage is left
pub record Listed (one two : List ℕ) (K N : ℕ) (win con : List ℕ) (l : List Position) : Type 0 where
  pub stands : FirstPairs one two K l
  pub crowded : N < length l → in_turn one two K N win con ≡ unsolved win con (check R.Full 0 0 true)
  pub roomy : length l ≤ N → in_turn one two K N win con ≡ last_stage one two K N win con

-- the rounds of a table alone, from all safe positions
abbrev pub Alone : ℕ → ℕ → List ℕ → List ℕ → Result ℕ Full → Type 0
Alone K N bytes out settled = Settles K (stated bytes) (all_safe K (stated bytes).controllers) N out settled

-- the stages in turn: of each table alone, the first list of pairs, and the last
module _ (one two : List ℕ) (K N : ℕ) (win con : List ℕ) where
  abbrev crowded : List Check
  crowded =
      let listed = maximal_members K (joined_table one two).controllers (pairs K (stated one) (stated two)) in
      check R.Full 0 0 (ltb N (length listed)) ∷ []

  abbrev alone : ℕ → List ℕ → List Check
  alone which bytes = stage_checks which K N (stated bytes) (all_safe K (stated bytes).controllers)

  stages_apart : in_turn one two K N win con
      ≡ judge (alone 1 one) (unsolved win con)
      (judge (alone 2 two) (unsolved win con) (judge crowded (unsolved win con) (last_stage one two K N win con)))
  unfolding in_turn parts_stages staged
  stages_apart =
      let refuse = unsolved win con in
      let both = joined_table one two in
      let X = pairs K (stated one) (stated two) in
      let grant = solved_from K both X win con in
      let last = crowded ++ stage_checks 0 K N both X in
      judge-append (alone 1 one ++ alone 2 two) last refuse grant
      ∙ judge-append (alone 1 one) (alone 2 two) refuse (judge last refuse grant)

  -- by what the rounds of each table alone answer
  module _ (p : Passes (pair_checks one two)) {ones : List ℕ} {first : Result ℕ Full} (settles : Alone K N one ones first) where
    pub first-full : {f : Full} → first ≡ Err f → in_turn one two K N win con ≡ unsolved win con (check R.Full 0 1 true)
    first-full e = stages_apart ∙ stage-full settles 1 (unsolved win con) _ e

    module _ {r : ℕ} (after : first ≡ Ok r) {twos : List ℕ} {second : Result ℕ Full} (other : Alone K N two twos second) where
      first_passed : in_turn one two K N win con
          ≡ judge (alone 2 two) (unsolved win con) (judge crowded (unsolved win con) (last_stage one two K N win con))
      first_passed = stages_apart ∙ stage_passed settles after (all_safe-first K (stated one)) (first-output one two p) 1
          (unsolved win con) _

      pub second-full : {f : Full} → second ≡ Err f → in_turn one two K N win con ≡ unsolved win con (check R.Full 0 2 true)
      second-full e = first_passed ∙ stage-full other 2 (unsolved win con) _ e

      -- the pairs of the lists of winners
      pub alone_listed : {r' : ℕ} → second ≡ Ok r' → (n : ℕ) → n ≡ (stated one).controllers
          → Listed one two K N win con (all_beside n (positions ones) (positions twos))
      alone_listed after' n states =
          let l = all_beside n (positions ones) (positions twos) in
          let stands = pairs-listed one two p K n (positions ones) (positions twos) states (after_settled settles after).3
          (after_settled other after').3 in
          let left : in_turn one two K N win con
          ≡ judge (check R.Full 0 0 (ltb N (length l)) ∷ []) (unsolved win con) (last_stage one two K N win con) =
          first_passed
          ∙ stage_passed other after' (all_safe-first K (stated two)) (second-output one two p) 2 (unsolved win con) _
          ∙ ap (λ (n : ℕ). judge (check R.Full 0 0 (ltb N n) ∷ []) (unsolved win con) (last_stage one two K N win con))
          (sym (stands-length K (joined_table one two).controllers (pairs K (stated one) (stated two)) l stands)) in
          record {
            stands = stands;
            crowded = λ h. left ∙ rw (lt-ltb N (length l) h);
            roomy = λ h. left ∙ rw (le-ltb N (length l) h);
          }
