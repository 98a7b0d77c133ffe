-- The rows of a kept sheet stand where they may: as formulas all of them may stand anywhere, and the inner ones inside.
use Rattle.std.proofs.Common.{◌≡◌, ℕ, ◌-◌, ◌<◌, Bool, true, false, length, sym, refl, ◌∙◌, subst, arith}
use mathlib.Core.Bool.{false≢true}
use Rattle.std.proofs.lemmas.Bool.{eqb-true}
use Rattle.formula.specs.Formula.{Formula, horizon}
use Rattle.formula.specs.Published.{Stands, Proper, ProperInner}
use Rattle.sheet.specs.Rows.{named_by, made_inner_by, may_be_inner}
use Rattle.sheet.specs.Rules.{has, all_under, length_of, IsInner, made, passed, InnerRight, Written, row_at, Keeps}
use Rattle.sheet.specs.declared.row.Row.{Row}
use Rattle.sheet.specs.declared.row.Row.TheVariants.{Always, Hold, HoldOff, Both, Either, Not, Then, Within}
use Rattle.sheet.proofs.Has.{has_one, has_left, has_right, has_lower, made_named}
use Rattle.rule.specs.Trees.{tree_of, tree_at, rule_of}
use Rattle.rule.proofs.Trees.{tree_step, horizon_length, upward, kept_lower}

never_inside : (inside : Bool) → (inside ≡ true → false ≡ true) → inside ≡ false
never_inside true h = absurd (false≢true (h refl))
never_inside false h = refl

-- One row, over rows that stand where it puts them.
stands_by_named : (f : ℕ → Formula) (len : ℕ → ℕ) → ((i : ℕ) → horizon (f i) ≡ len i) → (inside : Bool) (r : Row) → (inside ≡ true → may_be_inner len r ≡ true)
    → ((i : ℕ) → has (named_by r) i ≡ true → Stands inside (f i)) → ((i : ℕ) → has (made_inner_by r) i ≡ true → Stands true (f i)) → Stands inside (tree_of f r)
stands_by_named f len long inside Always may named inner = tt
stands_by_named f len long inside (Hold duration fact) may named inner = tt
stands_by_named f len long inside (HoldOff duration fact) may named inner = tt
stands_by_named f len long inside (Both left right) may named inner = (named left (has_left left right), named right (has_right left right))
stands_by_named f len long inside (Either left right) may named inner =
    (λ o. long left ∙ eqb-true (len left) (len right) (may o) ∙ sym (long right), named left (has_left left right), named right (has_right left right))
stands_by_named f len long inside (Not row) may named inner = (never_inside inside may, named row (has_one row))
stands_by_named f len long inside (Then left right) may named inner = (inner left (has_one left), named right (has_right left right))
stands_by_named f len long inside (Within from to row) may named inner = inner row (has_one row)

module _ (row : ℕ → Row) (count : ℕ) (lower : (k : ℕ) → k < count → all_under k (named_by (row k)) ≡ true) where
  -- an inner row is one of the rows
  pub inner_among : (k : ℕ) → IsInner row count k → k < count
  inner_among k (made j h e) = let less = has_lower j (named_by (row j)) k (lower j h) (made_named (row j) k e) in omega arith
  inner_among k (passed j h i e) = let less = has_lower j (named_by (row j)) k (lower j h) e in omega arith

  pub stands : InnerRight count row → (k : ℕ) → k < count → (inside : Bool) → (inside ≡ true → IsInner row count k) → Stands inside (tree_at row k)
  stands right = upward row count lower (λ k. (inside : Bool) → (inside ≡ true → IsInner row count k) → Stands inside (tree_at row k))
      (λ k h below inside inner.
      subst (Stands inside) (sym (tree_step row count lower k h))
      (stands_by_named (tree_at row) (length_of row) (horizon_length row) inside (row k) (λ o. right k h (inner o))
      (λ i e. below i e inside (λ o. passed k h (inner o) e))
      (λ i e. below i (made_named (row k) i e) true (λ _. made k h e))))

module _ (w : Written) (keeps : Keeps w) where
  pub row_proper : (k : ℕ) → k < length w.rows → Proper (tree_at (row_at w.rows) k)
  row_proper k h = stands (row_at w.rows) (length w.rows) (kept_lower w keeps) keeps.inner_right k h false (λ o. absurd (false≢true o))

  pub inner_proper : (k : ℕ) → IsInner (row_at w.rows) (length w.rows) k → ProperInner (tree_at (row_at w.rows) k)
  inner_proper k i = stands (row_at w.rows) (length w.rows) (kept_lower w keeps) keeps.inner_right k (inner_among (row_at w.rows) (length w.rows) (kept_lower w keeps) k i) true (λ _. i)

  pub rule_proper : Proper (rule_of w)
  rule_proper = row_proper (length w.rows - 1) (omega (arith, keeps.some_row))
