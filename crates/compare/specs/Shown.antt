-- Two positions as they are typed, in the winners' form: eight digits, one for each state, each its count one higher.
use Rattle.std.specs.Prelude.{◌≡◌, Bool, true, false, not, ◌&&◌, List, map, Option, Some, None, ℕ, ◌-◌, eqb, leb, length, get_or}
use Rattle.meaning.specs.Lists.{each}
use Rattle.meaning.specs.Counting.{Position, count}
use Rattle.counts.specs.Words.{counts_in}

-- a byte that stands for one of the digits 0 to 9 in a text
unfoldable pub is_digit : ℕ → Bool
is_digit byte = leb 48 byte && leb byte 57

-- exactly eight digits
unfoldable pub eight_digits : List ℕ → Bool
eight_digits word = eqb (length word) 8 && each 8 (λ q. is_digit (get_or word q 0))

-- the numbers that they show, and so the counts, one higher
unfoldable pub shown : List ℕ → Position
shown word = map (λ byte. byte - 48) word

-- what a word is read as: the position that it shows if it is eight digits, and otherwise none
abbrev pub ReadAs : List ℕ → Option ℕ → Type 0
ReadAs word (Some w) = (eight_digits word ≡ true) × (counts_in w ≡ shown word)
ReadAs word None = eight_digits word ≡ false

-- a state whose counts in two positions differ
unfoldable pub differs : Position → Position → ℕ → Bool
differs F G q = not (eqb (count F q) (count G q))
