-- When bytes are refused: each refusal under its own condition, in the order in which they are looked for.
use Rattle.std.specs.Prelude.{◌≡◌, ℕ, ◌+◌, ◌*◌, ◌<◌, ◌≤◌, true, List, ◌∷◌, length, ◌≢◌}
use Rattle.refusal.specs.declared.Refusal.{Refusal}
use Rattle.refusal.specs.declared.Refusal.TheVariants.{Sizes, Kind, Operand, Length, Unnamed, Inner, ShortLog, BrokenStrip, TakeComplete, ShortChart, UnequalStrips, Place}
use Rattle.sheet.specs.Rows.{operands_of, may_be_inner}
use Rattle.sheet.specs.Rules.{in_range, length_of, named, IsInner, RowsNamed}
use Rattle.sheet.specs.Bytes.{Body, kind_in, operands_in, row_in}

-- there are as many bytes as the sizes in front say, and the sizes are in their bounds
pub record Sized (bytes : List ℕ) (b : Body) : Type 0 where
  pub whole : b.facts ∷ b.count ∷ b.rest ≡ bytes
  pub some_fact : 1 ≤ b.facts
  pub few_facts : b.facts ≤ 16
  pub some_row : 1 ≤ b.count
  pub few_rows : b.count ≤ 32
  pub all : length b.rest ≡ 4 * b.count

-- what row k keeps by itself
abbrev pub KindRight : Body → ℕ → Type 0
KindRight b k = kind_in b k < 8

abbrev pub OperandsRight : Body → ℕ → Type 0
OperandsRight b k = (operands_of (row_in b k) ≡ operands_in b k) × (in_range b.facts k (row_in b k) ≡ true)

abbrev pub LengthRight : Body → ℕ → Type 0
LengthRight b k = length_of (row_in b) k ≤ 255

pub record RowRight (b : Body) (k : ℕ) : Type 0 where
  pub kind : KindRight b k
  pub operands : OperandsRight b k
  pub short : LengthRight b k

-- row k is come to: it is there, and nothing lower is refused
pub record ComeTo (bytes : List ℕ) (k : ℕ) : Type 0 where
  pub body : Body
  pub sized : Sized bytes body
  pub among : k < body.count
  pub before : (j : ℕ) → j < k → RowRight body j

-- no row is refused by itself
pub record AllRight (bytes : List ℕ) : Type 0 where
  pub body : Body
  pub sized : Sized bytes body
  pub rows : (j : ℕ) → j < body.count → RowRight body j

abbrev pub InnerFits : Body → ℕ → Type 0
InnerFits b k = IsInner (row_in b) b.count k → may_be_inner (length_of (row_in b)) (row_in b k) ≡ true

abbrev pub RefusedFor : List ℕ → Refusal → ℕ → Type 0
RefusedFor bytes Sizes k = (k ≡ 0) × ((b : Body) → Sized bytes b → ⊥)
RefusedFor bytes Kind k = (at : ComeTo bytes k) × (KindRight at.body k → ⊥)
RefusedFor bytes Operand k = (at : ComeTo bytes k) × KindRight at.body k × (OperandsRight at.body k → ⊥)
RefusedFor bytes Length k = (at : ComeTo bytes k) × KindRight at.body k × OperandsRight at.body k × (LengthRight at.body k → ⊥)
RefusedFor bytes Unnamed k =
    (all : AllRight bytes) × (k + 1 < all.body.count) × (named (row_in all.body) all.body.count k ≢ true)
    × ((j : ℕ) → j < k → named (row_in all.body) all.body.count j ≡ true)
RefusedFor bytes Inner k =
    (all : AllRight bytes) × RowsNamed all.body.count (row_in all.body) × (k < all.body.count) × (InnerFits all.body k → ⊥)
    × ((j : ℕ) → j < k → InnerFits all.body j)
RefusedFor bytes ShortLog k = ⊥
RefusedFor bytes BrokenStrip k = ⊥
RefusedFor bytes TakeComplete k = ⊥
RefusedFor bytes ShortChart k = ⊥
RefusedFor bytes UnequalStrips k = ⊥
RefusedFor bytes Place k = ⊥
