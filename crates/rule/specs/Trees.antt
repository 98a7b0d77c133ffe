-- What a row of a sheet stands for: the formula that it is with the rows that it names.
use Rattle.std.specs.Prelude.{ℕ, zero, suc, ◌-◌, List, [], ◌∷◌, ◌++◌, length, get_or, slice_index_or}
use Rattle.formula.specs.Formula.{Formula, always, hold, hold_off, both, either, not, then, within}
use Rattle.sheet.specs.Rules.{Written, row_at}
use Rattle.sheet.specs.declared.row.Row.{Row}
use Rattle.sheet.specs.declared.row.Row.TheVariants.{Always, Hold, HoldOff, Both, Either, Not, Then, Within}

-- one row, where `named` tells the formulas of the rows that it names
abbrev pub tree_of : (ℕ → Formula) → Row → Formula
tree_of named Always = always
tree_of named (Hold duration fact) = hold duration fact
tree_of named (HoldOff duration fact) = hold_off duration fact
tree_of named (Both left right) = both (named left) (named right)
tree_of named (Either left right) = either (named left) (named right)
tree_of named (Not row) = not (named row)
tree_of named (Then left right) = then (named left) (named right)
tree_of named (Within from to row) = within from to (named row)

-- the first n rows, each over those below it; a row that several name stands in each of them
abbrev pub trees_of : (ℕ → Row) → ℕ → List Formula
trees_of row zero = []
trees_of row (suc n) = let lower = trees_of row n in lower ++ tree_of (λ i. get_or lower i always) (row n) ∷ []

abbrev pub tree_at : (ℕ → Row) → ℕ → Formula
tree_at row k = slice_index_or (trees_of row (suc k)) k always

-- the rule of a sheet is its last row
abbrev pub rule_of : Written → Formula
rule_of w = tree_at (row_at w.rows) (length w.rows - 1)
