-- How the three searches for a fault come together in what the bytes come to.
use Rattle.std.proofs.Common.{◌≡◌, ℕ, zero, suc, ◌+◌, ◌-◌, ◌<◌, ◌≤◌, Bool, true, cond, not, ◌&&◌, ltb, List, [], ◌∷◌, length, get_or, take, drop, Some, None, Option, sym, refl, ap, ◌∙◌, subst₂, ⊎_elim, arith}
use mathlib.Core.Path.{fun_ext}
use Rattle.std.proofs.lemmas.List.{get_or_append_left, get_or_past, get_or-take, length-take-le, take_all, ext_get_or}
use Rattle.std.proofs.lemmas.Bool.Decides.{nat_tests}
use Rattle.std.proofs.lemmas.Grind.{common_steps}
use Rattle.std.proofs.lemmas.Bool.{cases_eq, cases_lt, cond-true}
use Rattle.refusal.specs.declared.Refusal.{Refusal}
use Rattle.refusal.specs.declared.Refusal.TheVariants.{Unnamed, Inner}
use Rattle.refusal.specs.Numbers.{number_of}
use Rattle.sheet.specs.declared.row.Row.{Row}
use Rattle.sheet.specs.declared.row.Row.TheVariants.{Always}
use Rattle.sheet.specs.Rows.{named_by, may_be_inner, row_length}
use Rattle.sheet.specs.Rules.{all_under, in_range, lengths_of, length_of, named, row_at, RowsRight, RowsShort, RowsNamed, InnerRight}
use Rattle.sheet.specs.Bytes.{Body, body_of, sizes_right, operands_in, row_in}
use Rattle.sheet.specs.Loading.{operands_right, row_fault, name_fault, inner_fault, is_inner, Verdict, accepted, refused, or_fault, or_lowest, rows_from, judged, load_result}
use Rattle.sheet.specs.Faults.{Faultless, Lowest}
use Rattle.sheet.specs.Conditions.{RowRight}
use Rattle.sheet.specs.Steps.{AllRead}
use Rattle.sheet.specs.declared.draft.Draft.{Draft}
use Rattle.sheet.proofs.Reading.{range_lower, length_lengths, length_of_is, Sofar}
use Rattle.sheet.proofs.Inner.{inner_complete}
use Rattle.sheet.proofs.Writing.{operands_fit}

module _ (fault : ℕ → Option Refusal) where
  pub lowest_none : (n : ℕ) (next : Verdict) → Faultless fault n → or_lowest fault n next ≡ next
  lowest_none zero next h = refl
  lowest_none (suc n) next h = lowest_none n (or_fault n (fault n) next) (λ j lt. h j (omega arith)) ∙ ap (λ o. or_fault n o next) (h n (omega arith))

  pub lowest_found : (n : ℕ) (next : Verdict) (r : Refusal) (k : ℕ) → Lowest fault n r k → or_lowest fault n next ≡ refused (number_of r) k
  lowest_found zero next r k l = absurd (omega (arith, l.among))
  lowest_found (suc n) next r k l =
      ⊎_elim
      (λ same. let here = ap fault (sym same) ∙ l.here in let none = lowest_none n (or_fault n (fault n) next) (λ j lt. l.before j (omega arith)) in grind (arith, none))
      (λ other. lowest_found n (or_fault n (fault n) next) r k (record { among = omega (arith, l.among, other); here = l.here; before = l.before }))
      (cases_eq k n)

-- what a row without a fault of its own keeps
pub row_right : (b : Body) (k : ℕ) → row_fault b k ≡ None → RowRight b k
row_right b k h =
    let operands : operands_right b.facts k (row_in b k) (operands_in b k) ≡ true = grind (arith, nat_tests) in
    record { kind = grind (arith, nat_tests); operands = operands_fit b k operands; short = grind (arith, nat_tests) }

pub lower_rows : (b : Body) → ((j : ℕ) → j < b.count → RowRight b j) → (k : ℕ) → k < b.count → all_under k (named_by (row_in b k)) ≡ true
lower_rows b rows k h = range_lower b.facts k (row_in b k) (rows k h).operands.1

-- the length of a row does not change with more rows
pub lengths_prefix : (row : ℕ → Row) (n j : ℕ) → j < n → get_or (lengths_of row n) j 0 ≡ length_of row j
lengths_prefix row zero j h = absurd (omega arith)
lengths_prefix row (suc n) j h =
    ⊎_elim
    (λ e. ap (λ i. get_or (lengths_of row (suc i)) j 0) (sym e))
    (λ other. let less : j < n = omega (arith, other) in get_or_append_left (lengths_of row n) _ 0 j (omega (arith, length_lengths row n)) ∙ lengths_prefix row n j less)
    (cases_eq j n)

cond_twice : (t : Bool) (x y : Row) → cond t (cond t x y) y ≡ cond t x y
cond_twice t x y = grind arith

pub past_rows : (b : Body) (j : ℕ) → b.count ≤ j → row_in b j ≡ Always
past_rows b j h = grind (arith, nat_tests)

-- the tables as all rows are read into them
module _ (b : Body) (rows : List Row) (lens : List ℕ) (s : Sofar b b.count rows lens) where
  pub rows_read : (j : ℕ) → row_at rows j ≡ row_in b j
  rows_read j = s.row j ∙ cond_twice (ltb j b.count) _ Always

  pub read_right : (k : ℕ) → k < b.count → in_range b.facts k (row_at rows k) ≡ true
  read_right k h = ap (in_range b.facts k) (rows_read k) ∙ (row_right b k (s.fine k h)).operands.1

  pub lengths_read : (j : ℕ) → get_or lens j 0 ≡ length_of (row_at rows) j
  lengths_read j =
      s.lengths.entry j ∙
      ⊎_elim
      (lengths_prefix (row_in b) b.count j)
      (λ more. get_or_past (lengths_of (row_in b) b.count) j 0 (omega (arith, length_lengths (row_in b) b.count)) ∙ sym (length_of_is (row_in b) j ∙ ap (row_length (λ i. get_or (lengths_of (row_in b) j) i 0)) (past_rows b j more)))
      (cases_lt j b.count)
      ∙ ap (λ row. length_of row j) (sym (fun_ext rows_read))

-- the draft that was read
module _ (b : Body) (d : Draft) (a : AllRead b d) where
  pub rows_are : row_at d.rows ≡ row_in b
  rows_are = fun_ext a.rows

  pub taken_are : row_at (take b.count d.rows) ≡ row_in b
  taken_are = fun_ext (λ j.
      ⊎_elim
      (λ less. get_or-take b.count d.rows j Always less ∙ a.rows j)
      (λ more. get_or_past (take b.count d.rows) j Always (omega (arith, length-take-le b.count d.rows (omega (arith, a.count, d.few, d.sized)))) ∙ sym (past_rows b j more))
      (cases_lt j b.count))

  -- what the draft says, said of the bytes
  pub said_of_bytes : (P : ℕ → (ℕ → Row) → Type 0) → P d.count (row_at d.rows) → P b.count (row_in b)
  said_of_bytes P = subst₂ P a.count rows_are

  pub right : RowsRight b.facts b.count (row_in b)
  right k h = (row_right b k (a.fine k h)).operands.1

  pub short : RowsShort b.count (row_in b)
  short k h = (row_right b k (a.fine k h)).short

pub name_fine : (t : Bool) → cond t None (Some Unnamed) ≡ None → t ≡ true
name_fine t h = grind arith

pub all_named : (row : ℕ → Row) (count : ℕ) → Faultless (name_fault count row) (count - 1) → RowsNamed count row
all_named row count h k lt = name_fine (named row count k) (h k (omega arith))

pub inner_fine_says : (t u : Bool) → cond (t && not u) (Some Inner) None ≡ None → t ≡ true → u ≡ true
inner_fine_says t u h e = grind arith

pub inner_right : (row : ℕ → Row) (count : ℕ) → ((k : ℕ) → k < count → all_under k (named_by (row k)) ≡ true) → Faultless (inner_fault count row) count → InnerRight count row
inner_right row count lower h k lt i = inner_fine_says (is_inner row count k) (may_be_inner (length_of row) (row k)) (h k lt) (inner_complete row count lower i)

pub length_rows : (row : ℕ → Row) (k n : ℕ) → length (rows_from row k n) ≡ n
length_rows row k zero = refl
length_rows row k (suc n) = grind (arith, length_rows row (suc k) n)

pub row_from : (row : ℕ → Row) (k n i : ℕ) → i < n → get_or (rows_from row k n) i Always ≡ row (k + i)
row_from row k zero i h = grind arith
row_from row k (suc n) i h = grind (arith, common_steps, row_from row (suc k) n)

-- a list is the rows that it has
pub rows_again : (rows : List Row) (row : ℕ → Row) (n : ℕ) → length rows ≡ n → ((i : ℕ) → i < n → get_or rows i Always ≡ row i) → rows_from row 0 n ≡ rows
rows_again rows row n size h = ext_get_or Always (rows_from row 0 n) rows (length_rows row 0 n ∙ sym size) (λ i lt. let less : i < n = omega (arith, length_rows row 0 n) in row_from row 0 n i less ∙ ap row (omega arith) ∙ sym (h i less))

-- What each way through the searches comes to.
module _ (b : Body) (sized : sizes_right b ≡ true) where
  pub judged_row : (r : Refusal) (k : ℕ) → Lowest (row_fault b) b.count r k → refused (number_of r) k ≡ judged b
  judged_row r k l = sym (cond-true _ _ _ sized ∙ lowest_found (row_fault b) b.count _ r k l)

  module _ (fine : Faultless (row_fault b) b.count) where
    pub judged_name : (r : Refusal) (k : ℕ) → Lowest (name_fault b.count (row_in b)) (b.count - 1) r k → refused (number_of r) k ≡ judged b
    judged_name r k l = sym (cond-true _ _ _ sized ∙ lowest_none (row_fault b) b.count _ fine ∙ lowest_found (name_fault b.count (row_in b)) (b.count - 1) _ r k l)

    module _ (named_fine : Faultless (name_fault b.count (row_in b)) (b.count - 1)) where
      pub judged_inner : (r : Refusal) (k : ℕ) → Lowest (inner_fault b.count (row_in b)) b.count r k → refused (number_of r) k ≡ judged b
      judged_inner r k l =
          sym (cond-true _ _ _ sized ∙ lowest_none (row_fault b) b.count _ fine ∙ lowest_none (name_fault b.count (row_in b)) (b.count - 1) _ named_fine
          ∙ lowest_found (inner_fault b.count (row_in b)) b.count _ r k l)

      pub judged_sheet : Faultless (inner_fault b.count (row_in b)) b.count → accepted (record { facts = b.facts; rows = rows_from (row_in b) 0 b.count }) ≡ judged b
      judged_sheet inner =
          sym (cond-true _ _ _ sized ∙ lowest_none (row_fault b) b.count _ fine ∙ lowest_none (name_fault b.count (row_in b)) (b.count - 1) _ named_fine
          ∙ lowest_none (inner_fault b.count (row_in b)) b.count _ inner)

-- the bytes as load takes them apart
pub taken_apart : (bytes : List ℕ) → 2 ≤ length bytes → judged (body_of (get_or bytes 0 0) (get_or bytes 1 0) (take (length bytes - 2) (drop 2 bytes))) ≡ load_result bytes
taken_apart [] h = absurd (omega arith)
taken_apart (facts ∷ []) h = absurd (omega arith)
taken_apart (facts ∷ count ∷ rest) h = ap (λ r. judged (body_of facts count r)) (take_all (length (facts ∷ count ∷ rest) - 2) rest (omega arith))
