-- Rows written as bytes and read from them are the same rows, both ways.
use Rattle.std.proofs.Common.{◌≡◌, ℕ, zero, suc, ◌+◌, ◌-◌, ◌*◌, ◌/◌, ◌%◌, ◌<◌, true, List, [], ◌∷◌, ◌++◌, map, length, get_or, sym, refl, ap, ◌∙◌, subst, ⊎_elim, arith}
use Rattle.std.specs.List.{flat_map}
use Rattle.std.proofs.lemmas.List.{get_or_append_left, get_or-append_right, ext_get_or}
use Rattle.std.proofs.lemmas.Bool.{and_parts, and_from, cases_lt}
use Rattle.std.proofs.lemmas.Bool.Decides.{nat_tests}
use Rattle.std.proofs.lemmas.Grind.{common_steps}
use Rattle.sheet.specs.declared.row.Row.{Row}
use Rattle.sheet.specs.declared.row.Row.TheVariants.{Always}
use Rattle.sheet.specs.Rows.{kind_of, operands_of}
use Rattle.sheet.specs.Rules.{row_at, in_range}
use Rattle.sheet.specs.Bytes.{Body, operands_in, kinds, row_in}
use Rattle.sheet.specs.Loading.{same, operands_right}
use Rattle.sheet.specs.Conditions.{OperandsRight}

pub three_operands : (row : Row) → length (operands_of row) ≡ 3
three_operands row = grind arith

-- the row of its own kind with its own operands is the row itself
pub read_back : (row : Row) → get_or (kinds (get_or (operands_of row) 0 0) (get_or (operands_of row) 1 0) (get_or (operands_of row) 2 0)) (kind_of row) Always ≡ row
read_back row = grind arith

pub kind_below : (row : Row) → kind_of row < 8
kind_below row = grind arith

-- and a row that was read has the kind that it was read by
pub kind_back : (p q r kind : ℕ) → kind < 8 → kind_of (get_or (kinds p q r) kind Always) ≡ kind
kind_back p q r kind h = grind (arith, common_steps)

pub length_joined : (rows : List Row) → length (flat_map operands_of rows) ≡ 3 * length rows
length_joined [] = refl
length_joined (row ∷ rows) = grind (arith, common_steps, three_operands row, length_joined rows)

-- operand i of row k stands at place 3 k + i
pub joined_at : (rows : List Row) (k i : ℕ) → k < length rows → i < 3 → get_or (flat_map operands_of rows) (3 * k + i) 0 ≡ get_or (operands_of (row_at rows k)) i 0
joined_at [] k i h lt = absurd (omega arith)
joined_at (row ∷ rows) zero i h lt =
    ap (λ n. get_or (operands_of row ++ flat_map operands_of rows) n 0) (omega arith) ∙ get_or_append_left (operands_of row) (flat_map operands_of rows) 0 i (omega (arith, three_operands row))
joined_at (row ∷ rows) (suc k) i h lt =
    get_or-append_right (operands_of row) (flat_map operands_of rows) 3 (3 * suc k + i) 0 (three_operands row) (omega arith)
    ∙ ap (λ n. get_or (flat_map operands_of rows) n 0) (omega arith) ∙ joined_at rows k i (omega arith) lt

module _ (rows : List Row) where
  pub written_kind : (k : ℕ) → k < length rows → get_or (map kind_of rows ++ flat_map operands_of rows) k 0 ≡ kind_of (row_at rows k)
  written_kind k h = grind (arith, common_steps)

  pub written_operand : (k i : ℕ) → k < length rows → i < 3 → get_or (map kind_of rows ++ flat_map operands_of rows) (length rows + (3 * k + i)) 0 ≡ get_or (operands_of (row_at rows k)) i 0
  written_operand k i h lt = grind (arith, common_steps, joined_at rows k i h lt)

  pub written_length : length (map kind_of rows ++ flat_map operands_of rows) ≡ 4 * length rows
  written_length = grind (arith, common_steps, length_joined rows)

  -- bytes that agree with the rows at each of these places are the rows written
  pub written_all : (rest : List ℕ) → length rest ≡ 4 * length rows → ((k : ℕ) → k < length rows → get_or rest k 0 ≡ kind_of (row_at rows k)) → ((k i : ℕ) → k < length rows → i < 3 → get_or rest (length rows + (3 * k + i)) 0 ≡ get_or (operands_of (row_at rows k)) i 0) → map kind_of rows ++ flat_map operands_of rows ≡ rest
  written_all rest size kinds-are operands-are = ext_get_or 0 (map kind_of rows ++ flat_map operands_of rows) rest (written_length ∙ sym size) (λ n lt.
      let whole : n < 4 * length rows = omega (arith, written_length) in
      ⊎_elim
      (λ less. written_kind n less ∙ sym (kinds-are n less))
      (λ more.
      let k = (n - length rows) / 3 in
      let i = (n - length rows) % 3 in
      let place : length rows + (3 * k + i) ≡ n = omega arith in
      let row : k < length rows = omega arith in
      let third : i < 3 = omega arith in
      ap (λ m. get_or (map kind_of rows ++ flat_map operands_of rows) m 0) (sym place) ∙ written_operand k i row third ∙ sym (operands-are k i row third) ∙ ap (λ m. get_or rest m 0) place)
      (cases_lt n (length rows)))

pub same_true : (xs ys : List ℕ) → same xs ys ≡ true → xs ≡ ys
same_true [] [] h = refl
same_true [] (y ∷ ys) h = cc
same_true (x ∷ xs) [] h = cc
same_true (x ∷ xs) (y ∷ ys) h = grind (arith, nat_tests, same_true xs ys)

pub true_same : (xs : List ℕ) → same xs xs ≡ true
true_same [] = refl
true_same (x ∷ xs) = grind (arith, nat_tests, true_same xs)

-- the test of row k's operands, and what it says
module _ (b : Body) (k : ℕ) where
  pub operands_fit : operands_right b.facts k (row_in b k) (operands_in b k) ≡ true → OperandsRight b k
  operands_fit h = let both = and_parts (same (operands_of (row_in b k)) (operands_in b k)) (in_range b.facts k (row_in b k)) h in (same_true _ _ both.0, both.1)

  pub fit_operands : OperandsRight b k → operands_right b.facts k (row_in b k) (operands_in b k) ≡ true
  fit_operands h = and_from (same (operands_of (row_in b k)) (operands_in b k)) (in_range b.facts k (row_in b k)) (subst (λ given. same (operands_of (row_in b k)) given ≡ true) h.0 (true_same (operands_of (row_in b k)))) h.1
