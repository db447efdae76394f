-- Two tables side by side, as the joined table has them. Counts, tests and steps of positions side by side are those of the halves, since
-- no edge leads from one half to the other: so each part follows the whole, and the whole follows what both parts follow (Follows.antt).
-- What that says of the rounds stands in Parts.antt (the parts' winning pairs are a first set that loses nothing) and in Swap.antt
-- (swapping the sides swaps the halves of every set, and a table beside itself holds the pair (F, F) exactly where it holds F).
use mathlib.Core.Path.{◌≡◌, sym, ap, ap₂, subst, ◌∙◌}
use mathlib.Core.Bool.{true, false, cond, ◌&&◌}
use mathlib.Core.List.{◌++◌}
use Prim.Native.Nat.{ℕ, ◌+◌, ◌<◌}
use native.Mathlib.Omega.{arith}
use lib.ListN.{length, take, drop, length-append, length-take, length-drop, take-append-drop, get_or-append}
use lib.Seq.{get_or-append-add, take_at, drop_at}
use lib.Dec.{leb}
use Rattle.meaning.specs.Lists.{largest, tab}
use Rattle.meaning.specs.Table.{Half, Table, on_output, on_input}
use Rattle.meaning.specs.Counting.{Position, count, forward, safe, below, start_position, plus}
use Rattle.meaning.specs.Rounds.{all_safe}
use Rattle.meaning.proofs.Tests.{both, both_left, both_right, each_sum, largest_sum, largest-zero}
use Rattle.meaning.proofs.Lists.{tab_sum}
use Rattle.meaning.proofs.Restated.{brings}
use Rattle.meaning.proofs.Steps.{forward-length}
use Rattle.meaning.proofs.Positions.{all_safe-length, all_safe-safe, all_safe-of}
use Rattle.meaning.proofs.Follows.{Follows}

-- one half of a round is two others side by side: the second's states stand after the first's
pub record HalfUnion (h g whole : Half) : Type 0 where
  pub sources : whole.sources ≡ h.sources + g.sources
  pub targets : whole.targets ≡ h.targets + g.targets
  pub mark-first : (q : ℕ) → q < h.targets → whole.mark q ≡ h.mark q
  pub mark-second : (q : ℕ) → q < g.targets → whole.mark (h.targets + q) ≡ g.mark q
  pub edge-first : (p q : ℕ) → p < h.sources → q < h.targets → whole.edge p q ≡ h.edge p q
  pub edge-second : (p q : ℕ) → p < g.sources → q < g.targets → whole.edge (h.sources + p) (h.targets + q) ≡ g.edge p q
  pub edge-down : (p q : ℕ) → p < h.sources → q < g.targets → whole.edge p (h.targets + q) ≡ false
  pub edge_up : (p q : ℕ) → p < g.sources → q < h.targets → whole.edge (h.sources + p) q ≡ false

-- one table is two others side by side, of the same letters
pub record Union (t u whole : Table) : Type 0 where
  pub outputs : whole.outputs ≡ t.outputs
  pub inputs : whole.inputs ≡ t.inputs
  pub outputs-same : u.outputs ≡ t.outputs
  pub inputs-same : u.inputs ≡ t.inputs
  pub starts_first : (p : ℕ) → p < t.controllers → whole.starts p ≡ t.starts p
  pub starts-second : (p : ℕ) → p < u.controllers → whole.starts (t.controllers + p) ≡ u.starts p
  pub on-output : (o : ℕ) → HalfUnion (on_output t o) (on_output u o) (on_output whole o)
  pub on-input : (i : ℕ) → HalfUnion (on_input t i) (on_input u i) (on_input whole i)

-- positions side by side
pub safe-append : (K : ℕ) (F G : Position) → safe K (F ++ G) ≡ (safe K F && safe K G)
unfolding safe
safe-append K F G =
    rw (length-append F G)
    (each_sum (length F) (length G) (λ q. leb (count (F ++ G) q) (K + 1)) (λ q. leb (count F q) (K + 1)) (λ q. leb (count G q) (K + 1))
    (λ q l. rw (get_or-append F G 0 q l)) (λ q l. rw (get_or-append-add F G q 0)))

pub below-append : (F G F' G' : Position) → length F ≡ length F' → below (F ++ G) (F' ++ G') ≡ (below F F' && below G G')
unfolding below
below-append F G F' G' e =
    rw (length-append F G)
    (each_sum (length F) (length G) (λ q. leb (count (F ++ G) q) (count (F' ++ G') q)) (λ q. leb (count F q) (count F' q))
    (λ q. leb (count G q) (count G' q))
    (λ q l. rw (get_or-append F G 0 q l, get_or-append F' G' 0 q (omega arith)))
    (λ q l. ap₂ leb (get_or-append-add F G q 0) (rw e (get_or-append-add F' G' q 0))))

pub below_halves : (n : ℕ) (F G : Position) → length F ≡ length G → below F G ≡ true
    → (below (take n F) (take n G) ≡ true) × (below (drop n F) (drop n G) ≡ true)
below_halves n F G e b =
    let sized : length (take n F) ≡ length (take n G) = omega (arith, length-take n F, length-take n G) in
    let halves : (below (take n F) (take n G) && below (drop n F) (drop n G)) ≡ true =
    sym (below-append (take n F) (drop n F) (take n G) (drop n G) sized) ∙ ap₂ below (take-append-drop n F) (take-append-drop n G) ∙ b
    in (
      both_left (below (take n F) (take n G)) (below (drop n F) (drop n G)) halves,
      both_right (below (take n F) (take n G)) (below (drop n F) (drop n G)) halves,
    )

module _ (K : ℕ) (h g whole : Half) (un : HalfUnion h g whole) (F G : Position) (eF : length F ≡ h.sources) where
  brings-first : (p q : ℕ) → p < h.sources → q < h.targets → brings K whole (F ++ G) q p ≡ brings K h F q p
  brings-first p q lp lq = rw (un.edge-first p q lp lq, un.mark-first q lq, get_or-append F G 0 p (omega arith))

  brings-second : (p q : ℕ) → p < g.sources → q < g.targets → brings K whole (F ++ G) (h.targets + q) (h.sources + p) ≡ brings K g G q p
  brings-second p q lp lq =
      let counted : count (F ++ G) (h.sources + p) ≡ count G p = ap (λ (n : ℕ). count (F ++ G) (n + p)) (sym eF)
      ∙ get_or-append-add F G p 0 in
      rw (un.edge-second p q lp lq, un.mark-second q lq, counted)

  -- no edge leads from the one to the other
  first_count_lem : (q : ℕ) → q < h.targets → largest whole.sources (brings K whole (F ++ G) q) ≡ largest h.sources (brings K h F q)
  first_count_lem q l =
      ap (λ (n : ℕ). largest n (brings K whole (F ++ G) q)) un.sources
      ∙ largest_sum h.sources g.sources (brings K whole (F ++ G) q) (brings K h F q) (λ p. 0)
      (λ p lp. brings-first p q lp l) (λ p lp. rw (un.edge_up p q lp l))
      ∙ omega (arith, largest-zero g.sources)

  second-count : (q : ℕ) → q < g.targets
      → largest whole.sources (brings K whole (F ++ G) (h.targets + q)) ≡ largest g.sources (brings K g G q)
  second-count q l =
      ap (λ (n : ℕ). largest n (brings K whole (F ++ G) (h.targets + q))) un.sources
      ∙ largest_sum h.sources g.sources (brings K whole (F ++ G) (h.targets + q)) (λ p. 0) (brings K g G q)
      (λ p lp. rw (un.edge-down p q lp l)) (λ p lp. brings-second p q lp l)
      ∙ omega (arith, largest-zero h.sources)

-- a step of the whole is the two steps side by side
pub forward-append : (K : ℕ) (h g whole : Half) → HalfUnion h g whole → (F G : Position) → length F ≡ h.sources → length G ≡ g.sources
    → forward K whole (F ++ G) ≡ forward K h F ++ forward K g G
unfolding forward
forward-append K h g whole un F G eF eG =
    ap (λ (n : ℕ). tab n (λ q. largest whole.sources (brings K whole (F ++ G) q))) un.targets
    ∙ tab_sum h.targets g.targets (λ q. largest whole.sources (brings K whole (F ++ G) q))
    (λ q. largest h.sources (brings K h F q)) (λ q. largest g.sources (brings K g G q))
    (first_count_lem K h g whole un F G eF) (second-count K h g whole un F G eF)

-- every position of n + m states is two side by side
pub side_by_side : (n m : ℕ) (Q : Position → Type 0) → ((F G : Position) → length F ≡ n → length G ≡ m → Q (F ++ G))
    → (P : Position) → length P ≡ n + m → Q P
side_by_side n m Q q P e =
    subst Q (take-append-drop n P) (q (take n P) (drop n P) (omega (arith, length-take n P)) (omega (arith, length-drop n P)))

-- safe positions side by side
pub all_safe-append : (K n m : ℕ) (F G : Position) → all_safe K n F ≡ true → all_safe K m G ≡ true → all_safe K (n + m) (F ++ G) ≡ true
all_safe-append K n m F G f g =
    all_safe-of K (n + m) (F ++ G) (omega (arith, length-append F G, all_safe-length K n F f, all_safe-length K m G g))
    (safe-append K F G ∙ both (safe K F) (safe K G) (all_safe-safe K n F f) (all_safe-safe K m G g))

pub all_safe_halves : (K n m : ℕ) (P : Position) → all_safe K (n + m) P ≡ true
    → (all_safe K n (take n P) ≡ true) × (all_safe K m (drop n P) ≡ true)
all_safe_halves K n m P a =
    side_by_side n m (λ P. safe K P ≡ true → (all_safe K n (take n P) ≡ true) × (all_safe K m (drop n P) ≡ true))
    (λ F G f g s.
    let halves : (safe K F && safe K G) ≡ true = sym (safe-append K F G) ∙ s in (
      rw (take_at F G n f) (all_safe-of K n F f (both_left (safe K F) (safe K G) halves)),
      rw (drop_at F G n f) (all_safe-of K m G g (both_right (safe K F) (safe K G) halves)),
    ))
    P (all_safe-length K (n + m) P a) (all_safe-safe K (n + m) P a)

-- each half of a step of the whole is the step of its part
pub forward_halves : (K : ℕ) (h g whole : Half) → HalfUnion h g whole → (P : Position) → length P ≡ whole.sources
    → (take h.targets (forward K whole P) ≡ forward K h (take h.sources P))
    × (drop h.targets (forward K whole P) ≡ forward K g (drop h.sources P))
forward_halves K h g whole un P e =
    side_by_side h.sources g.sources
    (λ P. (take h.targets (forward K whole P) ≡ forward K h (take h.sources P))
    × (drop h.targets (forward K whole P) ≡ forward K g (drop h.sources P)))
    (λ F G f e.
    let halves = forward-append K h g whole un F G f e in (
      rw (halves, take_at F G h.sources f) (take_at (forward K h F) (forward K g G) h.targets (forward-length K h F)),
      rw (halves, drop_at F G h.sources f) (drop_at (forward K h F) (forward K g G) h.targets (forward-length K h F)),
    ))
    P (e ∙ un.sources)

module _ (t u whole : Table) (un : Union t u whole) where
  pub controllers_sum : whole.controllers ≡ t.controllers + u.controllers
  controllers_sum = (un.on-output 0).sources

  pub worlds_sum : whole.worlds ≡ t.worlds + u.worlds
  worlds_sum = (un.on-output 0).targets

  pub start-append : (K : ℕ) → start_position K whole ≡ start_position K t ++ start_position K u
  unfolding start_position
  start-append K =
      let begun : Table → ℕ → ℕ = λ v q. cond (v.starts q) (plus K (v.controller_mark q) 1) 0 in
      ap (λ (n : ℕ). tab n (begun whole)) controllers_sum
      ∙ tab_sum t.controllers u.controllers (begun whole) (begun t) (begun u)
      (λ q l. rw (un.starts_first q l, (un.on-input 0).mark-first q l))
      (λ q l. rw (un.starts-second q l, (un.on-input 0).mark-second q l))

  -- each half of the whole's step, by each letter
  output_halves : (K o : ℕ) (P : Position) → all_safe K whole.controllers P ≡ true
      → (take t.worlds (forward K (on_output whole o) P) ≡ forward K (on_output t o) (take t.controllers P))
      × (drop t.worlds (forward K (on_output whole o) P) ≡ forward K (on_output u o) (drop t.controllers P))
  output_halves K o P a =
      forward_halves K (on_output t o) (on_output u o) (on_output whole o) (un.on-output o) P (all_safe-length K whole.controllers P a)

  input_halves : (K i : ℕ) (P : Position) → all_safe K whole.worlds P ≡ true
      → (take t.controllers (forward K (on_input whole i) P) ≡ forward K (on_input t i) (take t.worlds P))
      × (drop t.controllers (forward K (on_input whole i) P) ≡ forward K (on_input u i) (drop t.worlds P))
  input_halves K i P a =
      forward_halves K (on_input t i) (on_input u i) (on_input whole i) (un.on-input i) P (all_safe-length K whole.worlds P a)

  -- each part follows the whole
  pub first-follows : (K : ℕ) → Follows K whole t (take t.controllers) (take t.worlds)
  first-follows K =
      record {
        outputs = un.outputs;
        inputs = un.inputs;
        safe-controllers = λ P a. (all_safe_halves K t.controllers u.controllers P (rw controllers_sum at a)).0;
        safe-worlds = λ P a. (all_safe_halves K t.worlds u.worlds P (rw worlds_sum at a)).0;
        output-step = λ o P a. (output_halves K o P a).0;
        input-step = λ i P a. (input_halves K i P a).0;
      }

  pub second-follows : (K : ℕ) → Follows K whole u (drop t.controllers) (drop t.worlds)
  second-follows K =
      record {
        outputs = un.outputs ∙ sym un.outputs-same;
        inputs = un.inputs ∙ sym un.inputs-same;
        safe-controllers = λ P a. (all_safe_halves K t.controllers u.controllers P (rw controllers_sum at a)).1;
        safe-worlds = λ P a. (all_safe_halves K t.worlds u.worlds P (rw worlds_sum at a)).1;
        output-step = λ o P a. (output_halves K o P a).1;
        input-step = λ i P a. (input_halves K i P a).1;
      }

  -- and the whole follows what both parts follow
  pub both-follow : (K : ℕ) (s : Table) (on over on' over' : Position → Position) → Follows K s t on over → Follows K s u on' over'
      → Follows K s whole (λ P. on P ++ on' P) (λ P. over P ++ over' P)
  both-follow K s on over on' over' one two =
      record {
        outputs = one.outputs ∙ sym un.outputs;
        inputs = one.inputs ∙ sym un.inputs;
        safe-controllers = λ P a.
            rw controllers_sum
            (all_safe-append K t.controllers u.controllers (on P) (on' P) (one.safe-controllers P a) (two.safe-controllers P a));
        safe-worlds = λ P a.
            rw worlds_sum (all_safe-append K t.worlds u.worlds (over P) (over' P) (one.safe-worlds P a) (two.safe-worlds P a));
        output-step = λ o P a.
            ap₂ ◌++◌ (one.output-step o P a) (two.output-step o P a)
            ∙ sym (forward-append K (on_output t o) (on_output u o) (on_output whole o) (un.on-output o) (on P) (on' P)
            (all_safe-length K t.controllers (on P) (one.safe-controllers P a))
            (all_safe-length K u.controllers (on' P) (two.safe-controllers P a)));
        input-step = λ i P a.
            ap₂ ◌++◌ (one.input-step i P a) (two.input-step i P a)
            ∙ sym (forward-append K (on_input t i) (on_input u i) (on_input whole i) (un.on-input i) (over P) (over' P)
            (all_safe-length K t.worlds (over P) (one.safe-worlds P a))
            (all_safe-length K u.worlds (over' P) (two.safe-worlds P a)));
      }
