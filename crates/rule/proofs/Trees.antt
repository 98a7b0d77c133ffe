-- What the formula of a row is made of, and its horizon, which is the row's length.
use Rattle.std.proofs.Common.{◌≡◌, ℕ, zero, suc, ◌-◌, ◌<◌, ◌≤◌, true, [], ◌∷◌, ◌++◌, map, length, get_or, sym, refl, ap, ◌∙◌, ap₂, ⊎_elim, arith}
use mathlib.Core.Path.{fun_ext}
use lib.ListN.{get_or-map}
use Rattle.std.proofs.lemmas.List.{length_push, get_or_push, get_or_append_left, map_push}
use Rattle.std.proofs.lemmas.Bool.{cases_eq}
use Rattle.formula.specs.Formula.{Formula, always, horizon}
use Rattle.sheet.specs.Rows.{named_by, row_length}
use Rattle.sheet.specs.Rules.{has, all_under, lengths_of, length_of, Written, row_at, Keeps}
use Rattle.sheet.specs.Sheets.{rule_length}
use Rattle.sheet.specs.declared.row.Row.{Row}
use Rattle.sheet.specs.declared.row.Row.TheVariants.{Always, Hold, HoldOff, Both, Either, Not, Then, Within}
use Rattle.sheet.proofs.Has.{has_one, has_left, has_right, has_lower}
use Rattle.sheet.proofs.Reading.{range_lower}
use Rattle.rule.specs.Trees.{tree_of, trees_of, tree_at, rule_of}

-- the formula of a row rests on those of the rows that it names, and on no others
pub tree_by_named : (f g : ℕ → Formula) (r : Row) → ((i : ℕ) → has (named_by r) i ≡ true → f i ≡ g i) → tree_of f r ≡ tree_of g r
tree_by_named f g Always h = refl
tree_by_named f g (Hold duration fact) h = refl
tree_by_named f g (HoldOff duration fact) h = refl
tree_by_named f g (Both left right) h = cc (h left (has_left left right), h right (has_right left right))
tree_by_named f g (Either left right) h = cc (h left (has_left left right), h right (has_right left right))
tree_by_named f g (Not row) h = cc (h row (has_one row))
tree_by_named f g (Then left right) h = cc (h left (has_left left right), h right (has_right left right))
tree_by_named f g (Within from to row) h = cc (h row (has_one row))

-- the horizon of one row's formula is reckoned as the row's length is
pub horizon_by_named : (f : ℕ → Formula) (r : Row) → horizon (tree_of f r) ≡ row_length (λ i. horizon (f i)) r
horizon_by_named f Always = refl
horizon_by_named f (Hold duration fact) = refl
horizon_by_named f (HoldOff duration fact) = refl
horizon_by_named f (Both left right) = refl
horizon_by_named f (Either left right) = refl
horizon_by_named f (Not row) = refl
horizon_by_named f (Then left right) = omega arith
horizon_by_named f (Within from to row) = refl

module _ (row : ℕ → Row) where
  length_trees : (n : ℕ) → length (trees_of row n) ≡ n
  length_trees zero = refl
  length_trees (suc n) = length_push (trees_of row n) _ ∙ omega (arith, length_trees n)

  -- the formula of a row does not change with more rows
  trees_prefix : (n j : ℕ) → j < n → get_or (trees_of row n) j always ≡ tree_at row j
  trees_prefix zero j h = absurd (omega arith)
  trees_prefix (suc n) j h =
      ⊎_elim
      (λ e. ap (λ i. get_or (trees_of row (suc i)) j always) (sym e))
      (λ other. let less : j < n = omega (arith, other) in get_or_append_left (trees_of row n) _ always j (omega (arith, length_trees n)) ∙ trees_prefix n j less)
      (cases_eq j n)

  horizons : (n : ℕ) → map horizon (trees_of row n) ≡ lengths_of row n
  horizons zero = refl
  horizons (suc n) =
      let f : ℕ → Formula = λ i. get_or (trees_of row n) i always in
      map_push horizon (trees_of row n) _
      ∙ ap₂ (λ xs x. xs ++ x ∷ []) (horizons n)
      (horizon_by_named f (row n)
      ∙ ap (λ len. row_length len (row n)) (fun_ext (λ i. sym (get_or-map horizon (trees_of row n) i always) ∙ ap (λ xs. get_or xs i 0) (horizons n))))

  -- the horizon of a row's formula is the row's length
  pub horizon_length : (k : ℕ) → horizon (tree_at row k) ≡ length_of row k
  horizon_length k = sym (get_or-map horizon (trees_of row (suc k)) k always) ∙ ap (λ xs. get_or xs k 0) (horizons (suc k))

  module _ (count : ℕ) (lower : (k : ℕ) → k < count → all_under k (named_by (row k)) ≡ true) where
    -- a row's formula over those of the rows that it names
    pub tree_step : (k : ℕ) → k < count → tree_at row k ≡ tree_of (tree_at row) (row k)
    tree_step k h =
        get_or_push (trees_of row k) _ always k (length_trees k)
        ∙ tree_by_named _ _ (row k) (λ i named. trees_prefix k i (has_lower k (named_by (row k)) i (lower k h) named))

    -- from row 0 upward: what is true of a row once it is true of the rows that it names is true of every row
    pub upward : (P : ℕ → Type 0) → ((k : ℕ) → k < count → ((i : ℕ) → has (named_by (row k)) i ≡ true → P i) → P k) → (k : ℕ) → k < count → P k
    upward P step k h = below (suc k) k (omega arith) (omega arith)
      where
        below : (n k : ℕ) → k < n → n ≤ count → P k
        below zero k h few = absurd (omega arith)
        below (suc n) k h few =
            let here : k < count = omega arith in
            step k here (λ i e. let less = has_lower k (named_by (row k)) i (lower k here) e in below n i (omega arith) (omega arith))

-- the rows of a kept sheet name lower rows only
pub kept_lower : (w : Written) → Keeps w → (k : ℕ) → k < length w.rows → all_under k (named_by (row_at w.rows k)) ≡ true
kept_lower w keeps k h = range_lower w.facts k (row_at w.rows k) (keeps.right k h)

pub rule_horizon : (w : Written) → horizon (rule_of w) ≡ rule_length w
rule_horizon w = horizon_length (row_at w.rows) (length w.rows - 1)
