-- A sheet reaches a fact along chains of naming exactly where its rule does as a formula.
use Rattle.std.proofs.Common.{◌≡◌, ℕ, ◌-◌, ◌<◌, Bool, true, false, not, ◌||◌, eqb, ◌⊎◌, ◌↔◌, [], ◌∷◌, length, sym, refl, ap, ◌∙◌, subst, inl, inr, ⊎_elim, arith}
use mathlib.Core.Bool.{false≢true}
use Rattle.std.proofs.lemmas.Bool.{or_cases, or_left, or_right, eqb-true, eq-eqb}
use Rattle.formula.specs.Formula.{Formula}
use Rattle.formula.specs.Sides.{reaches, OneSided as FormulaOneSided}
use Rattle.sheet.specs.Rows.{facts_of, named_by}
use Rattle.sheet.specs.Rules.{has, all_under, Written, row_at, Keeps}
use Rattle.sheet.specs.Sides.{Chain, start, turn, along, Reaches, by_hold, by_hold_off, SheetReaches, OneSided}
use Rattle.sheet.specs.SideSteps.{turns}
use Rattle.sheet.specs.declared.row.Row.{Row}
use Rattle.sheet.specs.declared.row.Row.TheVariants.{Always, Hold, HoldOff, Both, Either, Not, Then, Within}
use Rattle.sheet.proofs.Has.{has_one, has_left, has_right, only}
use Rattle.sheet.proofs.Sides.{turned_by, straight, chain_on, reach_on, chain_under}
use Rattle.rule.specs.Trees.{tree_of, tree_at, rule_of}
use Rattle.rule.proofs.Trees.{tree_step, upward, kept_lower}

-- one side seen from another: of two turns nothing is left
turned_twice : (t a b : Bool) → turned_by (turned_by t b) (turned_by t a) ≡ turned_by b a
turned_twice false a b = refl
turned_twice true false false = refl
turned_twice true false true = refl
turned_twice true true false = refl
turned_twice true true true = refl

turned_off : (t : Bool) → turned_by t t ≡ false
turned_off false = refl
turned_off true = refl

turned_on : (t : Bool) → turned_by t (not t) ≡ true
turned_on false = refl
turned_on true = refl

-- What one row reaches: the fact that it reads, on the side on which it reads it, and what the rows reach that it names.
abbrev Found : (ℕ → Formula) → Row → ℕ → Bool → Type 0
Found f r fact side = ((side ≡ turns r) × (has (facts_of r) fact ≡ true)) ⊎ ((i : ℕ) × (has (named_by r) i ≡ true) × (reaches (turned_by (turns r) side) (f i) fact ≡ true))

found_of_two : (f : ℕ → Formula) (left right fact : ℕ) (side : Bool) → (reaches side (f left) fact || reaches side (f right) fact) ≡ true
    → (i : ℕ) × (has (left ∷ right ∷ []) i ≡ true) × (reaches side (f i) fact ≡ true)
found_of_two f left right fact side e = ⊎_elim (λ h. (left, has_left left right, h)) (λ h. (right, has_right left right, h)) (or_cases (reaches side (f left) fact) (reaches side (f right) fact) e)

found : (f : ℕ → Formula) (r : Row) (fact : ℕ) (side : Bool) → reaches side (tree_of f r) fact ≡ true → Found f r fact side
found f Always fact side e = absurd (false≢true e)
found f (Hold duration g) fact false e = inl (refl, or_left (eqb g fact) false e)
found f (Hold duration g) fact true e = absurd (false≢true e)
found f (HoldOff duration g) fact false e = absurd (false≢true e)
found f (HoldOff duration g) fact true e = inl (refl, or_left (eqb g fact) false e)
found f (Both left right) fact side e = inr (found_of_two f left right fact side e)
found f (Either left right) fact side e = inr (found_of_two f left right fact side e)
found f (Not row) fact side e = inr (row, has_one row, e)
found f (Then left right) fact side e = inr (found_of_two f left right fact side e)
found f (Within from to row) fact side e = inr (row, has_one row, e)

-- and back
kept_of_two : (f : ℕ → Formula) (left right fact i : ℕ) (side : Bool) → has (left ∷ right ∷ []) i ≡ true → reaches side (f i) fact ≡ true
    → (reaches side (f left) fact || reaches side (f right) fact) ≡ true
kept_of_two f left right fact i side e h =
    ⊎_elim
    (λ is. or_left (reaches side (f left) fact) (reaches side (f right) fact) (ap (λ j. reaches side (f j) fact) (eqb-true left i is) ∙ h))
    (λ is. or_right (reaches side (f left) fact) (reaches side (f right) fact) (ap (λ j. reaches side (f j) fact) (only right i is) ∙ h))
    (or_cases (eqb left i) (has (right ∷ []) i) e)

named_kept : (f : ℕ → Formula) (r : Row) (fact i : ℕ) (side : Bool) → has (named_by r) i ≡ true → reaches (turned_by (turns r) side) (f i) fact ≡ true → reaches side (tree_of f r) fact ≡ true
named_kept f Always fact i side e h = absurd (false≢true e)
named_kept f (Hold duration g) fact i side e h = absurd (false≢true e)
named_kept f (HoldOff duration g) fact i side e h = absurd (false≢true e)
named_kept f (Both left right) fact i side e h = kept_of_two f left right fact i side e h
named_kept f (Either left right) fact i side e h = kept_of_two f left right fact i side e h
named_kept f (Not row) fact i side e h = ap (λ j. reaches (not side) (f j) fact) (only row i e) ∙ h
named_kept f (Then left right) fact i side e h = kept_of_two f left right fact i side e h
named_kept f (Within from to row) fact i side e h = ap (λ j. reaches side (f j) fact) (only row i e) ∙ h

module _ (row : ℕ → Row) (last : ℕ) where
  module _ (count : ℕ) (lower : (k : ℕ) → k < count → all_under k (named_by (row k)) ≡ true) where
    -- what the formula of a row reaches, the chain to that row reaches too
    pub formula_to_chain : (k : ℕ) → k < count → (t side : Bool) (fact : ℕ) → Chain row last k t → reaches side (tree_at row k) fact ≡ true → Reaches row last fact (turned_by side t)
    formula_to_chain = upward row count lower (λ k. (t side : Bool) (fact : ℕ) → Chain row last k t → reaches side (tree_at row k) fact ≡ true → Reaches row last fact (turned_by side t)) step
      where
        step : (k : ℕ) → k < count → ((i : ℕ) → has (named_by (row k)) i ≡ true → (t side : Bool) (fact : ℕ) → Chain row last i t → reaches side (tree_at row i) fact ≡ true → Reaches row last fact (turned_by side t))
            → (t side : Bool) (fact : ℕ) → Chain row last k t → reaches side (tree_at row k) fact ≡ true → Reaches row last fact (turned_by side t)
        step k h below t side fact c e =
            ⊎_elim
            (λ here. subst (λ b. Reaches row last fact (turned_by b t)) (sym here.0) (reach_on row last k fact t c here.1))
            (λ on. subst (Reaches row last fact) (turned_twice (turns (row k)) t side) (below on.0 on.1 (turned_by (turns (row k)) t) (turned_by (turns (row k)) side) fact (chain_on row last k on.0 t c on.1) on.2))
            (found (tree_at row) (row k) fact side (ap (λ φ. reaches side φ fact) (sym (tree_step row count lower k h)) ∙ e))

    module _ (among : last < count) where
      under : {k : ℕ} {t : Bool} → Chain row last k t → k < count
      under = chain_under row last count lower among

      -- what a row's formula reaches, the formula does at the start of the chain
      up : (j k : ℕ) → j < count → has (named_by (row j)) k ≡ true → (turned side : Bool) (fact : ℕ) → turns (row j) ≡ turned → reaches (turned_by turned side) (tree_at row k) fact ≡ true → reaches side (tree_at row j) fact ≡ true
      up j k h e turned side fact is r =
          ap (λ φ. reaches side φ fact) (tree_step row count lower j h)
          ∙ named_kept (tree_at row) (row j) fact k side e (ap (λ t. reaches (turned_by t side) (tree_at row k) fact) is ∙ r)

      chain_up : {k : ℕ} {t : Bool} → Chain row last k t → (side : Bool) (fact : ℕ) → reaches (turned_by t side) (tree_at row k) fact ≡ true → reaches side (tree_at row last) fact ≡ true
      chain_up start side fact r = r
      chain_up (turn {j} {k} {turned} c e) side fact r =
          chain_up c side fact
          (up j k (under c) (ap (λ x. has (named_by x) k) e ∙ has_one k) true (turned_by turned side) fact (ap turns e) (ap (λ b. reaches b (tree_at row k) fact) (turn_first turned side) ∙ r))
        where
          turn_first : (t b : Bool) → not (turned_by t b) ≡ turned_by (not t) b
          turn_first false b = refl
          turn_first true false = refl
          turn_first true true = refl
      chain_up (along {j} {k} {turned} c e other) side fact r =
          chain_up c side fact (up j k (under c) e false (turned_by turned side) fact (straight (row j) k e other) r)

      -- the row at the end of a chain reads the fact on side `own`
      read : (fact k : ℕ) (turned own side : Bool) {φ : Formula} → turned_by turned side ≡ own → Chain row last k turned → tree_of (tree_at row) (row k) ≡ φ → reaches own φ fact ≡ true → reaches side (tree_at row last) fact ≡ true
      read fact k turned own side is c e r =
          chain_up c side fact (ap (λ b. reaches b (tree_at row k) fact) is ∙ ap (λ ψ. reaches own ψ fact) (tree_step row count lower k (under c) ∙ e) ∙ r)

      pub chain_to_formula : {fact : ℕ} {side : Bool} → Reaches row last fact side → reaches side (tree_at row last) fact ≡ true
      chain_to_formula {fact} (by_hold {k} {turned} c e) = read fact k turned false turned (turned_off turned) c (ap (tree_of (tree_at row)) e) (eq-eqb fact fact refl)
      chain_to_formula {fact} (by_hold_off {k} {turned} c e) = read fact k turned true (not turned) (turned_on turned) c (ap (tree_of (tree_at row)) e) (eq-eqb fact fact refl)

module _ (w : Written) (keeps : Keeps w) where
  pub sheet_reaches : (fact : ℕ) (side : Bool) → SheetReaches w fact side ↔ (reaches side (rule_of w) fact ≡ true)
  sheet_reaches fact side =
      let among : length w.rows - 1 < length w.rows = omega (arith, keeps.some_row) in (
        chain_to_formula (row_at w.rows) (length w.rows - 1) (length w.rows) (kept_lower w keeps) among,
        λ e. subst (SheetReaches w fact) (plain side) (formula_to_chain (row_at w.rows) (length w.rows - 1) (length w.rows) (kept_lower w keeps) (length w.rows - 1) among false side fact start e),
      )
    where
      plain : (b : Bool) → turned_by b false ≡ b
      plain true = refl
      plain false = refl

  -- so a sheet is one-sided exactly where its rule is
  pub one_sided : OneSided w ↔ FormulaOneSided (rule_of w)
  one_sided = (
    λ one fact p t. one fact ((sheet_reaches fact false).1 p) ((sheet_reaches fact true).1 t),
    λ one fact p t. one fact ((sheet_reaches fact false).0 p) ((sheet_reaches fact true).0 t),
  )
