-- The table of rows: how each kind is written, what it names and reads, and how long it is.
use Rattle.std.specs.Prelude.{ℕ, ◌+◌, max, Bool, true, false, List, [], ◌∷◌, ◌==◌, nat_le}
use Rattle.sheet.specs.declared.row.Row.{Row}
use Rattle.sheet.specs.declared.row.Row.TheVariants.{Always, Hold, HoldOff, Both, Either, Not, Then, Within}

-- the number of a row's kind
abbrev pub kind_of : Row → ℕ
kind_of Always = 0
kind_of (Hold duration fact) = 1
kind_of (HoldOff duration fact) = 2
kind_of (Both left right) = 3
kind_of (Either left right) = 4
kind_of (Not row) = 5
kind_of (Then left right) = 6
kind_of (Within from to row) = 7

-- its three operands, 0 where the kind has no use for one
abbrev pub operands_of : Row → List ℕ
operands_of Always = 0 ∷ 0 ∷ 0 ∷ []
operands_of (Hold duration fact) = duration ∷ fact ∷ 0 ∷ []
operands_of (HoldOff duration fact) = duration ∷ fact ∷ 0 ∷ []
operands_of (Both left right) = left ∷ right ∷ 0 ∷ []
operands_of (Either left right) = left ∷ right ∷ 0 ∷ []
operands_of (Not row) = row ∷ 0 ∷ 0 ∷ []
operands_of (Then left right) = left ∷ right ∷ 0 ∷ []
operands_of (Within from to row) = from ∷ to ∷ row ∷ []

-- the facts that it reads
abbrev pub facts_of : Row → List ℕ
facts_of Always = []
facts_of (Hold duration fact) = fact ∷ []
facts_of (HoldOff duration fact) = fact ∷ []
facts_of (Both left right) = []
facts_of (Either left right) = []
facts_of (Not row) = []
facts_of (Then left right) = []
facts_of (Within from to row) = []

-- the rows that it names
abbrev pub named_by : Row → List ℕ
named_by Always = []
named_by (Hold duration fact) = []
named_by (HoldOff duration fact) = []
named_by (Both left right) = left ∷ right ∷ []
named_by (Either left right) = left ∷ right ∷ []
named_by (Not row) = row ∷ []
named_by (Then left right) = left ∷ right ∷ []
named_by (Within from to row) = row ∷ []

-- those of them that it makes inner, whatever it is itself: a within its row, a then its left side
abbrev pub made_inner_by : Row → List ℕ
made_inner_by Always = []
made_inner_by (Hold duration fact) = []
made_inner_by (HoldOff duration fact) = []
made_inner_by (Both left right) = []
made_inner_by (Either left right) = []
made_inner_by (Not row) = []
made_inner_by (Then left right) = left ∷ []
made_inner_by (Within from to row) = row ∷ []

-- a window begins no later than it ends
abbrev pub window_right : Row → Bool
window_right Always = true
window_right (Hold duration fact) = true
window_right (HoldOff duration fact) = true
window_right (Both left right) = true
window_right (Either left right) = true
window_right (Not row) = true
window_right (Then left right) = true
window_right (Within from to row) = nat_le from to

-- its length, where len tells those of the rows that it names
abbrev pub row_length : (ℕ → ℕ) → Row → ℕ
row_length len Always = 0
row_length len (Hold duration fact) = duration
row_length len (HoldOff duration fact) = duration
row_length len (Both left right) = max (len left) (len right)
row_length len (Either left right) = max (len left) (len right)
row_length len (Not row) = len row
row_length len (Then left right) = len left + len right + 1
row_length len (Within from to row) = to

-- what may stand inside: no not, and an either only with sides of equal length
abbrev pub may_be_inner : (ℕ → ℕ) → Row → Bool
may_be_inner len Always = true
may_be_inner len (Hold duration fact) = true
may_be_inner len (HoldOff duration fact) = true
may_be_inner len (Both left right) = true
may_be_inner len (Either left right) = len left == len right
may_be_inner len (Not row) = false
may_be_inner len (Then left right) = true
may_be_inner len (Within from to row) = true
