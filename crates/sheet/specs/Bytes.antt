-- A sheet as bytes: its sizes, then the kinds of its rows, then the operands of its rows.
use Rattle.std.specs.Prelude.{◌≡◌, ℕ, ◌+◌, ◌*◌, Bool, cond, ◌&&◌, List, [], ◌∷◌, ◌++◌, map, length, ◌==◌, nat_le, nat_lt, slice_index, slice_index_or}
use Rattle.std.specs.List.{flat_map}
use Rattle.sheet.specs.declared.row.Row.{Row}
use Rattle.sheet.specs.declared.row.Row.TheVariants.{Always, Hold, HoldOff, Both, Either, Not, Then, Within}
use Rattle.sheet.specs.Rows.{kind_of, operands_of}
use Rattle.sheet.specs.Rules.{Written, Keeps}

-- how a sheet is written
abbrev pub bytes_of : Written → List ℕ
bytes_of w = w.facts ∷ length w.rows ∷ (map kind_of w.rows ++ flat_map operands_of w.rows)

-- the bytes are those of a sheet that keeps every rule
abbrev pub SheetBytes : List ℕ → Type 0
SheetBytes bytes = (w : Written) × (bytes_of w ≡ bytes) × Keeps w

-- Any bytes from two on, looked at as if they were a sheet's.
pub record Body : Type 0 where
  pub facts : ℕ
  pub count : ℕ
  pub rest : List ℕ

abbrev pub body_of : ℕ → ℕ → List ℕ → Body
body_of facts count rest = record { facts = facts; count = count; rest = rest }

abbrev pub sizes_right : Body → Bool
sizes_right b = (nat_le 1 b.facts && nat_le b.facts 16) && ((nat_le 1 b.count && nat_le b.count 32) && length b.rest == 4 * b.count)

abbrev pub kind_in : Body → ℕ → ℕ
kind_in b k = slice_index b.rest k

-- the three operands of row k
abbrev pub p_in : Body → ℕ → ℕ
p_in b k = slice_index b.rest (b.count + 3 * k)

abbrev pub q_in : Body → ℕ → ℕ
q_in b k = slice_index b.rest (b.count + 3 * k + 1)

abbrev pub r_in : Body → ℕ → ℕ
r_in b k = slice_index b.rest (b.count + 3 * k + 2)

abbrev pub operands_in : Body → ℕ → List ℕ
operands_in b k = p_in b k ∷ q_in b k ∷ r_in b k ∷ []

-- the eight kinds in order, each with the operands p, q, r
abbrev pub kinds : ℕ → ℕ → ℕ → List Row
kinds p q r = Always ∷ Hold p q ∷ HoldOff p q ∷ Both p q ∷ Either p q ∷ Not p ∷ Then p q ∷ Within p q r ∷ []

-- row k as the bytes have it; past the rows, and at a kind that there is not, always
abbrev pub row_in : Body → ℕ → Row
row_in b k = cond (nat_lt k b.count) (slice_index_or (kinds (p_in b k) (q_in b k) (r_in b k)) (kind_in b k) Always) Always
