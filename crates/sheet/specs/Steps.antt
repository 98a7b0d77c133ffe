-- What the parts of load promise to one another.
use Rattle.std.specs.Prelude.{◌≡◌, ℕ, List, length, Some, None, Result, MatchResult, slice_index}
use Rattle.refusal.specs.declared.Refusal.{Refusal}
use Rattle.sheet.specs.declared.body.Body.{Body as Taken}
use Rattle.sheet.specs.declared.fault.Fault.{Fault}
use Rattle.sheet.specs.declared.row.Row.{Row}
use Rattle.sheet.specs.declared.draft.Draft.{Draft}
use Rattle.sheet.specs.Rules.{lengths_of, length_of, row_at}
use Rattle.sheet.specs.Bytes.{Body, body_of, row_in}
use Rattle.sheet.specs.Loading.{row_fault}
use Rattle.sheet.specs.Faults.{Faultless, Lowest}
use Rattle.sheet.specs.Conditions.{KindRight, OperandsRight}

-- what the code has as the bytes of a sheet
abbrev pub body_in : Taken → Body
body_in b = body_of b.facts b.count b.rest.now

-- row k has a right kind and right operands, and is this one
pub record Fits (b : Body) (k : ℕ) (row : Row) : Type 0 where
  pub kind : KindRight b k
  pub operands : OperandsRight b k
  pub is : row ≡ row_in b k

-- a table of 32 entries has the lengths of the first n rows, and 0 elsewhere
pub record Measures (b : Body) (n : ℕ) (lens : List ℕ) : Type 0 where
  pub size : length lens ≡ 32
  pub entry : (j : ℕ) → slice_index lens j ≡ slice_index (lengths_of (row_in b) n) j

-- row k is read with its length, or refused by itself
abbrev pub RowRead : Body → ℕ → Result (Row × ℕ) Refusal → Type 0
RowRead b k r = MatchResult r (λ x. (row_fault b k ≡ None) × (x.0 ≡ row_in b k) × (x.1 ≡ length_of (row_in b) k)) (λ e. row_fault b k ≡ Some e)

-- the rows are all read, or the lowest that is refused is named
pub record AllRead (b : Body) (d : Draft) : Type 0 where
  pub fine : Faultless (row_fault b) b.count
  pub count : d.count ≡ b.count
  pub rows : (j : ℕ) → row_at d.rows j ≡ row_in b j

abbrev pub RowsRead : Body → Result Draft Fault → Type 0
RowsRead b r = MatchResult r (AllRead b) (λ f. Lowest (row_fault b) b.count f.refusal f.row)
