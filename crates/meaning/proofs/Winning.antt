-- A position is in the settled set exactly if it wins. Into the set: a winning strategy's first output and any input lead to a position
-- that wins with what is left of the strategy, so by induction on r the position is in every W(r). Out of it: play from each position
-- reached the smallest output that leads back into the set; the positions reached guard the runs (`Guards`), so that along every run the
-- one reached counts at least what the run has spent.
use mathlib.Core.Path.{◌≡◌, sym, subst, ◌∙◌}
use mathlib.Core.Logic.{◌↔◌}
use mathlib.Core.Bool.{Bool, true}
use mathlib.Core.List.{List, [], ◌∷◌, ◌++◌}
use Prim.Native.Nat.{ℕ, zero, suc, ◌+◌, ◌-◌, ◌≤◌, ◌<◌, min}
use native.Mathlib.Nat.{le_trans}
use native.Mathlib.Omega.{arith}
use lib.ListN.{length}
use Rattle.meaning.specs.Lists.{first}
use Rattle.meaning.specs.Table.{Table, on_output, on_input, Good}
use Rattle.meaning.specs.Counting.{Position, count, forward, safe, below}
use Rattle.meaning.specs.Rounds.{Set, all_safe, set_a, set_b, set_w, rounds, winning, Within, FirstSet}
use Rattle.meaning.specs.Written.{after_round}
use Rattle.meaning.specs.Play.{Strategy, Run, Keeps, Wins}
use Rattle.meaning.specs.Play.Run.{here, round}
use Rattle.meaning.proofs.Tests.{first_holds, first_found}
use Rattle.meaning.proofs.Steps.{below_at, below_refl, safe_at, safe-of, safe_where, safe-down, plus-from-safe, forward-length}
use Rattle.meaning.proofs.Steps.{forward-brings, forward-from, forward_spends}
use Rattle.meaning.proofs.Positions.{all_safe-safe, all_safe-of}
use Rattle.meaning.proofs.Rounds.{set_a-of, set_a-safe, set_a-leads, set_b-of, set_b-safe, set_b-leads, all_safe-first}
use Rattle.meaning.proofs.Rounds.{winning_fixed}

-- what keeps a position's runs to K keeps those of every position below it
pub keeps-down : (K : ℕ) (t : Table) (F G : Position) (σ : Strategy) → below F G ≡ true → Keeps K t G σ → Keeps K t F σ
keeps-down K t F G σ b k =
    record {
      whole = λ p c run. omega (arith, below_at F G b p, k.whole p (omega (arith, below_at F G b p)) run);
      half = λ p c run w out. omega (arith, below_at F G b p, k.half p (omega (arith, below_at F G b p)) run w out);
    }

-- where a position after a round is safe, so is the one half way: an overrun there would still be one after the round, whatever the input
pub half-safe : (K : ℕ) (t : Table) → Good t → (o : ℕ) (F : Position) → safe K (after_round K t o 0 F) ≡ true
    → safe K (forward K (on_output t o) F) ≡ true
unfolding after_round
half-safe K t good o F safely =
    let G = forward K (on_output t o) F in
    safe-of K G (λ w l.
    let declared : w < t.worlds = rw (forward-length K (on_output t o) F) at l in
    let r = good.input-leads 0 w good.some-input declared in
    let brought = forward-brings K (on_input t 0) G w r.0 declared (good.input-ends 0 w r.0 r.1).2 r.1 in
    plus-from-safe K (t.controller_mark r.0) (count G w) (le_trans brought (safe_at K (forward K (on_input t 0) G) safely r.0)))

-- Into the set

-- what is left of a strategy after a first round with input i, which is the earliest and so stands last
abbrev pub later : Strategy → ℕ → Strategy
later σ i inputs = σ (inputs ++ (i ∷ []))

-- a run of what is left is, with that first round in front, a run of the strategy
pub first_round : (t : Table) (σ : Strategy) (p w i r : ℕ) → t.output_edge (σ []) p w ≡ true → t.input_edge i w r ≡ true
    → {inputs : List ℕ} {q e : ℕ} → Run t (later σ i) r inputs q e
    → Run t σ p (inputs ++ (i ∷ [])) q (t.world_mark w + t.controller_mark r + e)
first_round t σ p w i r out back here =
    subst (λ (d : ℕ). Run t σ p (i ∷ []) r d) (omega arith) (round here w i r out back)
first_round t σ p w i r out back (round {inputs = inputs} run v j s out₁ back₁) =
    subst (λ (d : ℕ). Run t σ p (j ∷ (inputs ++ (i ∷ []))) s d) (omega arith)
    (round (first_round t σ p w i r out back run) v j s out₁ back₁)

-- where a round's count came from: a state that has one, by an edge of the output and one of the input
pub round-from : (K : ℕ) (t : Table) (F : Position) (o i r : ℕ) → 0 < count (after_round K t o i F) r
    → (p w : ℕ) × (t.output_edge o p w ≡ true) × (t.input_edge i w r ≡ true) × (0 < count F p)
    × (count (after_round K t o i F) r ≤ count F p + (t.world_mark w + t.controller_mark r))
unfolding after_round
round-from K t F o i r c =
    let G = forward K (on_output t o) F in
    let b = forward-from K (on_input t i) G r c in
    let a = forward-from K (on_output t o) F b.0 b.2 in
    (a.0, b.0, a.1, b.1, a.2, omega (arith, a.3, b.3))

-- a position that wins is safe, so is the one after its first output, and the one after the round wins with what is left
pub wins_safe : (K : ℕ) (t : Table) (F : Position) → Wins K t F → safe K F ≡ true
wins_safe K t F w = safe_where K F (λ p c. omega (arith, w.keeps.whole p c here))

pub wins_half : (K : ℕ) (t : Table) (F : Position) (w : Wins K t F) → safe K (forward K (on_output t (w.strategy [])) F) ≡ true
wins_half K t F w =
    safe_where K (forward K (on_output t (w.strategy [])) F)
    (λ v c. let a = forward-from K (on_output t (w.strategy [])) F v c in
    omega (arith, a.3, w.keeps.half a.0 a.2 here v a.1))

pub wins_on : (K : ℕ) (t : Table) (F : Position) (w : Wins K t F) (i : ℕ) → Wins K t (after_round K t (w.strategy []) i F)
wins_on K t F w i =
    record {
      strategy = later w.strategy i;
      legal = λ inputs. w.legal (inputs ++ (i ∷ []));
      keeps = record {
        whole = λ r c run. let a = round-from K t F (w.strategy []) i r c in
            omega (arith, a.5, w.keeps.whole a.0 a.4 (first_round t w.strategy a.0 a.1 i r a.2 a.3 run));
        half = λ r c run v out. let a = round-from K t F (w.strategy []) i r c in
            omega (arith, a.5, w.keeps.half a.0 a.4 (first_round t w.strategy a.0 a.1 i r a.2 a.3 run) v out);
      };
    }

-- what wins is in every W of all safe positions
pub wins_in : (K : ℕ) (t : Table) → Good t → (r : ℕ) (F : Position) → length F ≡ t.controllers → Wins K t F
    → set_w K t (all_safe K t.controllers) r F ≡ true
unfolding set_w after_round
wins_in K t g zero F e w = all_safe-of K t.controllers F e (wins_safe K t F w)
wins_in K t g (suc r) F e w =
    let W = set_w K t (all_safe K t.controllers) r in
    let o = w.strategy [] in
    let G = forward K (on_output t o) F in
    set_b-of K t W t.outputs F (all_safe-of K t.controllers F e (wins_safe K t F w)) o (w.legal [])
    (set_a-of K t W t.inputs G (all_safe-of K t.worlds G (forward-length K (on_output t o) F) (wins_half K t F w))
    (λ i _. wins_in K t g r (forward K (on_input t i) G) (forward-length K (on_input t i) G) (wins_on K t F w i)))

-- Out of the set

-- Positions that guard a strategy's runs: while the play goes on, the one that stands after these inputs is safe, so is the one after the
-- strategy's next output, and each input leads below the one that stands next
pub record Guards (K : ℕ) (t : Table) (σ : Strategy) (after : List ℕ → Position) (Playing : List ℕ → Type 0) : Type 0 where
  pub begins : Playing []
  pub continues : (inputs : List ℕ) (i : ℕ) → i < t.inputs → Playing inputs → Playing (i ∷ inputs)
  pub whole : (inputs : List ℕ) → Playing inputs → safe K (after inputs) ≡ true
  pub half : (inputs : List ℕ) → Playing inputs → safe K (forward K (on_output t (σ inputs)) (after inputs)) ≡ true
  pub next : (inputs : List ℕ) (i : ℕ) → i < t.inputs → Playing inputs
      → below (after_round K t (σ inputs) i (after inputs)) (after (i ∷ inputs)) ≡ true

module _ (K : ℕ) (t : Table) (g : Good t) (σ : Strategy) (after : List ℕ → Position) (Playing : List ℕ → Type 0)
    (guards : Guards K t σ after Playing) where
  -- half a round further
  guards_half : (inputs : List ℕ) → Playing inputs → (q w : ℕ) → 0 < count (after inputs) q → t.output_edge (σ inputs) q w ≡ true
      → count (after inputs) q + t.world_mark w ≤ count (forward K (on_output t (σ inputs)) (after inputs)) w
  guards_half inputs on q w c out =
      let ends = g.output-ends (σ inputs) q w out in
      forward_spends K (on_output t (σ inputs)) (after inputs) q w ends.1 ends.2 out c (guards.half inputs on)

  -- along every run the play goes on, and the guard counts at least what the run has spent
  guards_run : (p : ℕ) → 0 < count (after []) p → {inputs : List ℕ} {q e : ℕ} → Run t σ p inputs q e
      → Playing inputs × (count (after []) p + e ≤ count (after inputs) q)
  unfolding after_round
  guards_run p c here = (guards.begins, omega arith)
  guards_run p c (round {inputs = inputs} {q = q} run w i r out back) =
      let before = guards_run p c run in
      let G = forward K (on_output t (σ inputs)) (after inputs) in
      let ends = g.input-ends i w r back in
      let next = guards.next inputs i ends.0 before.0 in
      let on = guards.continues inputs i ends.0 before.0 in
      let there : 0 < count (after inputs) q = omega (arith, before.1) in
      let half : count (after inputs) q + t.world_mark w ≤ count G w = guards_half inputs before.0 q w there out in
      let safely = safe-down K (forward K (on_input t i) G) (after (i ∷ inputs)) next (guards.whole (i ∷ inputs) on) in
      let whole : count G w + t.controller_mark r ≤ count (forward K (on_input t i) G) r =
      forward_spends K (on_input t i) G w r ends.1 ends.2 back (omega arith) safely in
      (on, omega (arith, before.1, below_at (forward K (on_input t i) G) (after (i ∷ inputs)) next r))

  pub guards_keep : Keeps K t (after []) σ
  guards_keep =
      record {
        whole = λ p c {inputs} {q} run.
            let a = guards_run p c run in
            omega (arith, a.1, safe_at K (after inputs) (guards.whole inputs a.0) q);
        half = λ p c {inputs} {q} run w out.
            let a = guards_run p c run in
            let G = forward K (on_output t (σ inputs)) (after inputs) in
            omega (arith, a.1, guards_half inputs a.0 q w (omega (arith, a.1)) out, safe_at K G (guards.half inputs a.0) w);
      }

module _ (K : ℕ) (t : Table) (W : Set) where
  -- whether every input leads from the position after output o into W
  abbrev leads_in : Position → ℕ → Bool
  leads_in F o = set_a K t W t.inputs (forward K (on_output t o) F)

  -- the smallest output of which that holds, or the last if there is none
  chosen : Position → ℕ
  chosen F = min (first t.outputs (leads_in F)) (t.outputs - 1)

  chosen-legal : 0 < t.outputs → (F : Position) → chosen F < t.outputs
  unfolding chosen
  chosen-legal o F = omega arith

  chosen-leads : (F : Position) → set_b K t W t.outputs F ≡ true → leads_in F (chosen F) ≡ true
  unfolding chosen
  chosen-leads F b =
      let a = set_b-leads K t W t.outputs F b in
      let l : first t.outputs (leads_in F) < t.outputs =
      omega (arith, a.1, first_found t.outputs (leads_in F) a.0 a.1 a.2) in
      let same : first t.outputs (leads_in F) ≡ min (first t.outputs (leads_in F)) (t.outputs - 1) = omega arith in
      subst (λ (o : ℕ). leads_in F o ≡ true) same (first_holds t.outputs (leads_in F) l)

  -- the position that playing the chosen outputs reaches
  reached : Position → List ℕ → Position
  reached F [] = F
  reached F (i ∷ inputs) = after_round K t (chosen (reached F inputs)) i (reached F inputs)

-- the members of a set that a round does not shrink win
pub kept_wins : (K : ℕ) (t : Table) (W : Set) → Good t → Within W (set_b K t W t.outputs) → (F : Position) → W F ≡ true → Wins K t F
unfolding reached after_round
kept_wins K t W g kept F member =
    record {
      strategy = choose;
      legal = λ inputs. chosen-legal K t W g.some-output (after inputs);
      keeps = guards_keep K t g choose after (λ inputs. W (after inputs) ≡ true)
          (record {
            begins = member;
            continues = λ inputs i l on. set_a-leads K t W t.inputs (half_after inputs) (leads inputs on) i l;
            whole = λ inputs on. all_safe-safe K t.controllers (after inputs)
                (set_b-safe K t W t.outputs (after inputs) (kept (after inputs) on));
            half = λ inputs on. all_safe-safe K t.worlds (half_after inputs)
                (set_a-safe K t W t.inputs (half_after inputs) (leads inputs on));
            next = λ inputs i l on. below_refl (after (i ∷ inputs));
          });
    }
  where
    after : List ℕ → Position
    after = reached K t W F

    choose : Strategy
    choose inputs = chosen K t W (after inputs)

    half_after : List ℕ → Position
    half_after inputs = forward K (on_output t (choose inputs)) (after inputs)

    leads : (inputs : List ℕ) → W (after inputs) ≡ true → set_a K t W t.inputs (half_after inputs) ≡ true
    leads inputs on = chosen-leads K t W (after inputs) (kept (after inputs) on)

-- what is in a settled set wins, whatever the first set
pub in_wins : (K : ℕ) (t : Table) (X : Set) → Good t → FirstSet K t X → (F : Position) → winning K t X F ≡ true → Wins K t F
in_wins K t X g first F a = kept_wins K t (winning K t X) g (λ G b. sym (winning_fixed K t X first g.some-output G) ∙ b) F a

pub winning_wins : (K : ℕ) (t : Table) → Good t → (F : Position) → length F ≡ t.controllers
    → (winning K t (all_safe K t.controllers) F ≡ true) ↔ Wins K t F
unfolding winning
winning_wins K t g F e =
    let X = all_safe K t.controllers in
    (in_wins K t X g (all_safe-first K t) F, wins_in K t g (rounds K t X) F e)
