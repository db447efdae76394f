-- Document 02, R-3: "The comparison of two positions gives one of these four, with equal given only for equal counts." The four are the
-- same, below, above and neither. Both positions are of one side, and so of one length.
use Rattle.std.specs.Prelude.{◌≡◌, Bool, true, false, cond, length, eqb}
use Rattle.meaning.specs.declared.Comparison.{Comparison}
use Rattle.meaning.specs.declared.Comparison.TheVariants.{Same, Below, Above, Neither}
use Rattle.meaning.specs.Lists.{each}
use Rattle.meaning.specs.Counting.{Position, count, below}

-- "equal counts"
unfoldable pub same_counts : Position → Position → Bool
same_counts F G = each (length F) (λ q. eqb (count F q) (count G q))

-- what two positions compare to: the first, seen from the second
unfoldable pub compared : Position → Position → Comparison
compared F G = cond (same_counts F G) Same (cond (below F G) Below (cond (below G F) Above Neither))

-- what each of the four says
abbrev pub Says : Comparison → Position → Position → Type 0
Says Same F G = F ≡ G
Says Below F G = (below F G ≡ true) × (F ≡ G → ⊥)
Says Above F G = (below G F ≡ true) × (F ≡ G → ⊥)
Says Neither F G = (below F G ≡ false) × (below G F ≡ false)

-- the same two positions turned round
abbrev pub turned : Comparison → Comparison
turned Same = Same
turned Below = Above
turned Above = Below
turned Neither = Neither

-- document 01's "each of its counts is at most the other's", of which there are two cases
abbrev pub at_most : Comparison → Bool
at_most Same = true
at_most Below = true
at_most Above = false
at_most Neither = false
