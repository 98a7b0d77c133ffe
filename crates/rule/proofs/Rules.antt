-- The laws of formulas, said of the rules of sheets.
use Rattle.std.proofs.Common.{◌≡◌, ℕ, ◌-◌, ◌<◌, ◌≤◌, Bool, true, false, cond, ltb, ◌↔◌, length, sym, refl, ap, ◌∙◌, subst}
use mathlib.Core.Path.{fun_ext}
use Rattle.grade.specs.Lattice.{Lattice, Lawful}
use Rattle.grade.specs.Spans.{spans, exact, unknown}
use Rattle.grade.specs.Translations.{Carries, by_ends}
use Rattle.grade.specs.YesNo.{yes_no}
use Rattle.formula.specs.Grades.{Trace, grade}
use Rattle.formula.specs.Known.{known}
use Rattle.formula.specs.Sides.{worst, best}
use Rattle.formula.proofs.Published.{published}
use Rattle.formula.proofs.Known.{narrowing}
use Rattle.formula.proofs.Reached.{reached}
use Rattle.formula.proofs.Carried.{translations_carry}
use Rattle.sheet.specs.Rules.{row_at}
use Rattle.rule.specs.Trees.{rule_of}
use Rattle.rule.specs.Meaning.{formula_at, RowMet, row_grade, rule_row, translated}
use Rattle.rule.specs.Laws.{RowsAreFormulas, PublishedRule, RuleEnclosed, RuleNarrows, EndsCanCome, RuleCarried}
use Rattle.rule.proofs.Trees.{tree_step, horizon_length, kept_lower, rule_horizon}
use Rattle.rule.proofs.Standing.{row_proper, inner_proper, rule_proper}
use Rattle.rule.proofs.Sides.{one_sided}

pub rows_are_formulas : RowsAreFormulas
rows_are_formulas = record {
  made = λ w keeps k h. tree_step (row_at w.rows) (length w.rows) (kept_lower w keeps) k h;
  long = λ w k. horizon_length (row_at w.rows) k;
}

-- a formula's horizon is the row's length, so the laws speak of lengths
pub published_rule : PublishedRule
published_rule = record {
  whole = λ w keeps trace.
      subst (λ n. RowMet trace w (rule_row w) 0 n ↔ (row_grade yes_no trace w (rule_row w) 0 ≡ true)) (rule_horizon w) (published.whole trace (rule_of w) (rule_proper w keeps));
  inner = λ w keeps k i trace s e ordered.
      subst (λ n. RowMet trace w k s e ↔ ((n ≤ e - s) × (row_grade yes_no trace w k s ≡ true))) (horizon_length (row_at w.rows) k)
      (published.inner trace (formula_at w k) s e (inner_proper w keeps k i) ordered);
  other = λ w keeps k h trace s e ordered fits.
      published.outer trace (formula_at w k) s e (row_proper w keeps k h) ordered (subst (λ n. n ≤ e - s) (sym (horizon_length (row_at w.rows) k)) fits);
}

module _ {V : Type 0} {l : Lattice V} (law : Lawful l) where
  pub enclosed : RuleEnclosed l
  enclosed w n trace trace' agree = (narrowing law).enclosing n trace trace' (rule_of w) agree

  pub narrows : RuleNarrows l
  narrows = record {
    narrower = λ w n m trace more. (narrowing law).nesting n m trace (rule_of w) more;
    settled = λ w n trace past. (narrowing law).settled n trace (rule_of w) (subst (λ a. a < n) (sym (rule_horizon w)) past);
  }

pub ends_can_come : {V : Type 0} (l : Lattice V) → EndsCanCome l
ends_can_come l = record {
  low = λ w keeps one n trace. let r = reached l (rule_of w) n trace ((one_sided w keeps).0 one) in (worst l n trace (rule_of w), r.worst_agrees, r.worst_is_low);
  high = λ w keeps one n trace. let r = reached l (rule_of w) n trace ((one_sided w keeps).0 one) in (best l n trace (rule_of w), r.best_agrees, r.best_is_high);
}

module _ {V W : Type 0} {l : Lattice V} {m : Lattice W} {f : V → W} (hom : Carries l m f) where
  -- what is known of a translated trace is what is known of the trace, translated
  known_carried : (n : ℕ) (trace : Trace V) → ◌≡◌ {A = Trace _} (λ t fact. by_ends f (known l n trace t fact)) (known m n (translated f trace))
  known_carried n trace = fun_ext (λ t. fun_ext (λ fact. go (trace t fact) (ltb t n)))
    where
      go : (v : V) (fed : Bool) → by_ends f (cond fed (exact v) (unknown l)) ≡ cond fed (exact (f v)) (unknown m)
      go v true = refl
      go v false = λ i. record { low = hom.bottom i; high = hom.top i }

  pub rule_carried : RuleCarried l m f
  rule_carried = record {
    grades = λ w trace. (translations_carry l m f hom).values trace (rule_of w) 0;
    known = λ w n trace. (translations_carry l m f hom).ends (known l n trace) (rule_of w) 0 ∙ ap (λ k. grade (spans m) k (rule_of w) 0) (known_carried n trace);
  }
