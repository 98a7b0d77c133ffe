-- Which facts a sheet reaches plain and which turned, and when it reaches none both ways.
use Rattle.std.specs.Prelude.{◌≡◌, ℕ, ◌-◌, Bool, true, false, not, length, ◌≢◌}
use Rattle.sheet.specs.declared.row.Row.{Row}
use Rattle.sheet.specs.declared.row.Row.TheVariants.{Hold, HoldOff, Not}
use Rattle.sheet.specs.Rows.{named_by}
use Rattle.sheet.specs.Rules.{has, Written, row_at}

-- A chain of naming leads from the last row to a row: each row on it names the next. The row at its
-- end is under an odd number of nots if `turned` is true, and under an even number if it is false.
pub data Chain (row : ℕ → Row) (last : ℕ) : ℕ → Bool → Type 0 where
  -- the last row itself is under no not
  start : Chain row last last false
  -- a not adds one
  turn : {j k : ℕ} {turned : Bool} → Chain row last j turned → row j ≡ Not k → Chain row last k (not turned)
  -- any other row that names row k adds none
  along : {j k : ℕ} {turned : Bool} → Chain row last j turned → has (named_by (row j)) k ≡ true → (row j ≢ Not k) → Chain row last k turned

-- A hold under an even number of nots reaches its fact plain, and so does a hold-off under an odd
-- number. The others reach it turned.
pub data Reaches (row : ℕ → Row) (last fact : ℕ) : Bool → Type 0 where
  by_hold : {k duration : ℕ} {turned : Bool} → Chain row last k turned → row k ≡ Hold duration fact → Reaches row last fact turned
  by_hold_off : {k duration : ℕ} {turned : Bool} → Chain row last k turned → row k ≡ HoldOff duration fact → Reaches row last fact (not turned)

abbrev pub SheetReaches : Written → ℕ → Bool → Type 0
SheetReaches w = Reaches (row_at w.rows) (length w.rows - 1)

-- no fact is reached both plain and turned
abbrev pub OneSided : Written → Type 0
OneSided w = (fact : ℕ) → SheetReaches w fact false → SheetReaches w fact true → ⊥
