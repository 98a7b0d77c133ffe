-- What the parts of `sided` promise to one another.
use Rattle.std.specs.Prelude.{◌≡◌, ℕ, ◌<◌, Bool, true, false, not, ◌&&◌, ◌||◌, List, Decides, slice_index_or}
use Rattle.sheet.specs.declared.row.Row.{Row}
use Rattle.sheet.specs.declared.row.Row.TheVariants.{Always, Hold, HoldOff, Both, Either, Not, Then, Within}
use Rattle.sheet.specs.declared.record.sides.Side.{Side}
use Rattle.sheet.specs.Rows.{facts_of, named_by}
use Rattle.sheet.specs.Rules.{has, Written}
use Rattle.sheet.specs.Sides.{SheetReaches}

-- A row hands on to what it names and reads the side that it is on itself. But a not hands on the
-- other side to its row, and a hold-off to its fact.
abbrev pub turns : Row → Bool
turns Always = false
turns (Hold duration fact) = false
turns (HoldOff duration fact) = true
turns (Both left right) = false
turns (Either left right) = false
turns (Not row) = true
turns (Then left right) = false
turns (Within from to row) = false

-- the flags of the numbers in `these` are raised if `go` is true, and no others
abbrev pub Raised : List Bool → Bool → List ℕ → List Bool → Type 0
Raised before go these later = (k : ℕ) → slice_index_or later k false ≡ (slice_index_or before k false || (go && has these k))

-- what a row does to the flags of one side, if it is reached on that side, and to those of the other
pub record HandedOn (row : Row) (reached : Bool) (same other same_later other_later : Side) : Type 0 where
  pub same_rows : Raised same.rows (reached && not (turns row)) (named_by row) same_later.rows
  pub same_facts : Raised same.facts (reached && not (turns row)) (facts_of row) same_later.facts
  pub other_rows : Raised other.rows (reached && turns row) (named_by row) other_later.rows
  pub other_facts : Raised other.facts (reached && turns row) (facts_of row) other_later.facts

-- the flags tell which facts are reached plain, and which turned
pub record FactsReached (w : Written) (plain turned : List Bool) : Type 0 where
  pub is_plain : (fact : ℕ) → Decides (slice_index_or plain fact false) (SheetReaches w fact false)
  pub is_turned : (fact : ℕ) → Decides (slice_index_or turned fact false) (SheetReaches w fact true)
  pub few : (fact : ℕ) (side : Bool) → SheetReaches w fact side → fact < 16
