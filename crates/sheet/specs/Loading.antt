-- What any bytes come to: a sheet, or a refusal and the row that it names.
use Rattle.std.specs.Prelude.{ℕ, zero, suc, ◌-◌, Bool, true, false, cond, not, ◌&&◌, ◌||◌, List, [], ◌∷◌, Some, None, Option, ◌==◌, nat_le}
use Rattle.refusal.specs.declared.Refusal.{Refusal}
use Rattle.refusal.specs.declared.Refusal.TheVariants.{Sizes, Kind, Operand, Length, Unnamed, Inner}
use Rattle.refusal.specs.Numbers.{number_of}
use Rattle.sheet.specs.declared.row.Row.{Row}
use Rattle.sheet.specs.Rows.{operands_of, named_by, made_inner_by, may_be_inner}
use Rattle.sheet.specs.Rules.{has, in_range, length_of, named, Written}
use Rattle.sheet.specs.Bytes.{Body, body_of, sizes_right, kind_in, operands_in, row_in}

abbrev pub same : List ℕ → List ℕ → Bool
same [] [] = true
same [] (y ∷ ys) = false
same (x ∷ xs) [] = false
same (x ∷ xs) (y ∷ ys) = x == y && same xs ys

-- the operands are those of a row that may be row k
abbrev pub operands_right : ℕ → ℕ → Row → List ℕ → Bool
operands_right facts k row given = same (operands_of row) given && in_range facts k row

-- what row k is refused for by itself: its kind, then its operands, then its length
abbrev pub row_fault : Body → ℕ → Option Refusal
row_fault b k =
    cond (nat_le 8 (kind_in b k)) (Some Kind)
    (cond (operands_right b.facts k (row_in b k) (operands_in b k)) (cond (nat_le (length_of (row_in b) k) 255) None (Some Length)) (Some Operand))

-- row k is refused where no row names it
abbrev pub name_fault : ℕ → (ℕ → Row) → ℕ → Option Refusal
name_fault count row k = cond (named row count k) None (Some Unnamed)

-- which rows are inner, found from the last row down: each row passes it on to rows that it names
abbrev pub passes : Row → Bool → ℕ → Bool
passes row inner k = has (made_inner_by row) k || (inner && has (named_by row) k)

abbrev pub inner_from : (ℕ → Row) → ℕ → (ℕ → Bool) → ℕ → Bool
inner_from row zero found = found
inner_from row (suc n) found = inner_from row n (λ k. found k || passes (row n) (found n) k)

abbrev pub is_inner : (ℕ → Row) → ℕ → ℕ → Bool
is_inner row count = inner_from row count (λ _. false)

-- row k is refused where it is inner and may not be
abbrev pub inner_fault : ℕ → (ℕ → Row) → ℕ → Option Refusal
inner_fault count row k = cond (is_inner row count k && not (may_be_inner (length_of row) (row k))) (Some Inner) None

pub data Verdict : Type 0 where
  accepted : Written → Verdict
  refused : (number row : ℕ) → Verdict

-- the fault of row k if it has one, or else what comes next
abbrev pub or_fault : ℕ → Option Refusal → Verdict → Verdict
or_fault k (Some r) next = refused (number_of r) k
or_fault k None next = next

-- the lowest of the first n rows that has a fault, or else what comes next
abbrev pub or_lowest : (ℕ → Option Refusal) → ℕ → Verdict → Verdict
or_lowest fault zero next = next
or_lowest fault (suc n) next = or_lowest fault n (or_fault n (fault n) next)

-- n rows from row k on
abbrev pub rows_from : (ℕ → Row) → ℕ → ℕ → List Row
rows_from row k zero = []
rows_from row k (suc n) = row k ∷ rows_from row (suc k) n

abbrev pub judged : Body → Verdict
judged b =
    cond (sizes_right b)
    (or_lowest (row_fault b) b.count
    (or_lowest (name_fault b.count (row_in b)) (b.count - 1)
    (or_lowest (inner_fault b.count (row_in b)) b.count
    (accepted (record { facts = b.facts; rows = rows_from (row_in b) 0 b.count })))))
    (refused (number_of Sizes) 0)

abbrev pub load_result : List ℕ → Verdict
load_result [] = refused (number_of Sizes) 0
load_result (facts ∷ []) = refused (number_of Sizes) 0
load_result (facts ∷ count ∷ rest) = judged (body_of facts count rest)
