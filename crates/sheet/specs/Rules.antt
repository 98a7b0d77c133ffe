-- The rules that the rows of a sheet keep. The rows are a function of their number, `count` of them.
use Rattle.std.specs.Prelude.{◌≡◌, ℕ, zero, suc, ◌+◌, ◌<◌, ◌≤◌, Bool, true, false, ◌&&◌, ◌||◌, List, [], ◌∷◌, ◌++◌, length, ◌==◌, nat_lt, slice_index, slice_index_or}
use Rattle.sheet.specs.declared.row.Row.{Row}
use Rattle.sheet.specs.declared.row.Row.TheVariants.{Always}
use Rattle.sheet.specs.Rows.{facts_of, named_by, made_inner_by, window_right, row_length, may_be_inner}

abbrev pub has : List ℕ → ℕ → Bool
has [] n = false
has (x ∷ xs) n = x == n || has xs n

abbrev pub all_under : ℕ → List ℕ → Bool
all_under n [] = true
all_under n (x ∷ xs) = nat_lt x n && all_under n xs

-- row k reads facts that there are, names only lower rows, and its window is right
abbrev pub in_range : ℕ → ℕ → Row → Bool
in_range facts k row = all_under facts (facts_of row) && (all_under k (named_by row) && window_right row)

-- the lengths of the first n rows, each from those below it
abbrev pub lengths_of : (ℕ → Row) → ℕ → List ℕ
lengths_of row zero = []
lengths_of row (suc n) = let lower = lengths_of row n in lower ++ row_length (λ i. slice_index lower i) (row n) ∷ []

abbrev pub length_of : (ℕ → Row) → ℕ → ℕ
length_of row k = slice_index (lengths_of row (suc k)) k

-- one of the first n rows names row k
abbrev pub named : (ℕ → Row) → ℕ → ℕ → Bool
named row zero k = false
named row (suc n) k = has (named_by (row n)) k || named row n k

-- A row is inner when a within names it, a then names it as its left side, or an inner row names it.
pub data IsInner (row : ℕ → Row) (count : ℕ) : ℕ → Type 0 where
  made : (j : ℕ) {k : ℕ} → j < count → has (made_inner_by (row j)) k ≡ true → IsInner row count k
  passed : (j : ℕ) {k : ℕ} → j < count → IsInner row count j → has (named_by (row j)) k ≡ true → IsInner row count k

-- A sheet as it is read: how many facts, and its rows in order.
pub record Written : Type 0 where
  pub facts : ℕ
  pub rows : List Row

abbrev pub row_at : List Row → ℕ → Row
row_at rows k = slice_index_or rows k Always

-- The rules of the rows of a sheet of so many facts, one by one.
abbrev pub RowsRight : ℕ → ℕ → (ℕ → Row) → Type 0
RowsRight facts count row = (k : ℕ) → k < count → in_range facts k (row k) ≡ true

abbrev pub RowsShort : ℕ → (ℕ → Row) → Type 0
RowsShort count row = (k : ℕ) → k < count → length_of row k ≤ 255

abbrev pub RowsNamed : ℕ → (ℕ → Row) → Type 0
RowsNamed count row = (k : ℕ) → k + 1 < count → named row count k ≡ true

abbrev pub InnerRight : ℕ → (ℕ → Row) → Type 0
InnerRight count row = (k : ℕ) → k < count → IsInner row count k → may_be_inner (length_of row) (row k) ≡ true

-- all of them
pub record Keeps (w : Written) : Type 0 where
  pub some_fact : 1 ≤ w.facts
  pub few_facts : w.facts ≤ 16
  pub some_row : 1 ≤ length w.rows
  pub few_rows : length w.rows ≤ 32
  pub right : RowsRight w.facts (length w.rows) (row_at w.rows)
  pub short : RowsShort (length w.rows) (row_at w.rows)
  pub all_named : RowsNamed (length w.rows) (row_at w.rows)
  pub inner_right : InnerRight (length w.rows) (row_at w.rows)
