-- Document 01, "What is written": the winners' bytes, and the controller's rows.
use Rattle.std.specs.Prelude.{not, Bool, ℕ, length, get_or, eqb}
use mathlib.Core.List.{List, [], ◌∷◌, flat_map}
use Rattle.meaning.specs.Lists.{each, first, tab, keep, place}
use Rattle.meaning.specs.Table.{Table, on_output, on_input}
use Rattle.meaning.specs.Counting.{Position, count, forward, below, start_position}
use Rattle.meaning.specs.Rounds.{Set, winning, maximal_members}

-- the winners: the maximal members of the winning set
unfoldable pub winners : ℕ → Table → Set → List Position
winners K t X = maximal_members K t.controllers (winning K t X)

-- "8 bytes a position, byte q holding count + 1, states that aren't in the table 0"
unfoldable pub position_bytes : Position → List ℕ
position_bytes F = tab 8 (count F)

unfoldable pub winners_bytes : List Position → List ℕ
winners_bytes = flat_map position_bytes

-- "the first winner in the list that the position .. is below": its place, or the length of the list if there is none
unfoldable pub covering : List Position → Position → ℕ
covering ws F = place (below F) ws

-- the position after a round: an output, then an input
unfoldable pub after_round : ℕ → Table → ℕ → ℕ → Position → Position
after_round K t o i F = forward K (on_input t i) (forward K (on_output t o) F)

-- from the letter o "every input leads back into the winning set"
unfoldable pub leads_back : ℕ → Table → Set → Position → ℕ → Bool
leads_back K t won F o = each t.inputs (λ i. won (after_round K t o i F))

-- "A state's output is the smallest letter from which every input leads back into the winning set."
unfoldable pub output_of : ℕ → Table → Set → Position → ℕ
output_of K t won F = first t.outputs (leads_back K t won F)

-- "The start state is the first winner that the start position is below."
unfoldable pub start_state : ℕ → Table → List Position → ℕ
start_state K t ws = covering ws (start_position K t)

-- "The start state's rows come first, then the others by state"
unfoldable pub state_order : ℕ → ℕ → List ℕ
state_order start number = start ∷ keep (λ (s : ℕ). not (eqb s start)) (tab number (λ s. s))

-- "records of 4 bytes (state, output, input, next)"
pub record Row : Type 0 where
  pub state : ℕ
  pub output : ℕ
  pub input : ℕ
  pub next : ℕ

unfoldable pub row_bytes : List Row → List ℕ
row_bytes = flat_map (λ (r : Row). r.state ∷ r.output ∷ r.input ∷ r.next ∷ [])

-- "one for each state and input .. inputs ascending". "Its next state for an input is the first winner in the list that the position
-- after the round is below."
unfoldable pub rows_of_state : ℕ → Table → Set → List Position → ℕ → List Row
rows_of_state K t won ws s =
    let F = get_or ws s [] in
    let o = output_of K t won F in
    tab t.inputs (λ i. record { state = s; output = o; input = i; next = covering ws (after_round K t o i F) })

-- the controller's rows, from a winning set, its list of winners and the start state
unfoldable pub rows_from : ℕ → Table → Set → List Position → ℕ → List Row
rows_from K t won ws start = flat_map (rows_of_state K t won ws) (state_order start (length ws))

unfoldable pub controller_rows : ℕ → Table → Set → List Row
controller_rows K t X = let ws = winners K t X in rows_from K t (winning K t X) ws (start_state K t ws)
