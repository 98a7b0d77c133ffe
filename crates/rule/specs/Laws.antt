-- What is true of the rule of every sheet: the statements that the functions of this crate promise.
use Rattle.std.specs.Prelude.{◌≡◌, ℕ, ◌-◌, ◌<◌, ◌≤◌, Bool, true, ◌↔◌, length}
use Rattle.grade.specs.Lattice.{Lattice}
use Rattle.grade.specs.Spans.{exact, encloses, lies_within}
use Rattle.grade.specs.Translations.{by_ends}
use Rattle.grade.specs.YesNo.{yes_no}
use Rattle.formula.specs.Formula.{horizon}
use Rattle.formula.specs.Grades.{Trace}
use Rattle.formula.specs.Known.{Agree}
use Rattle.sheet.specs.Rules.{Written, row_at, Keeps}
use Rattle.sheet.specs.Sheets.{rule_length}
use Rattle.sheet.specs.Sides.{OneSided}
use Rattle.rule.specs.Trees.{tree_of}
use Rattle.rule.specs.Meaning.{formula_at, length_at, Inner, RowMet, row_grade, rule_row, rule_grade, rule_span, translated}

-- Each row of a kept sheet stands for a formula over those of the rows that it names, and looks ahead as far as it is long.
pub record RowsAreFormulas : Type 0 where
  pub made : (w : Written) → Keeps w → (k : ℕ) → k < length w.rows → formula_at w k ≡ tree_of (formula_at w) (row_at w.rows k)
  pub long : (w : Written) (k : ℕ) → horizon (formula_at w k) ≡ length_at w k

-- Over no and yes, the grades of a sheet are the published meaning.
pub record PublishedRule : Type 0 where
  -- the rule is met on its frames exactly when its grade is yes
  pub whole : (w : Written) → Keeps w → (trace : Trace Bool) → RowMet trace w (rule_row w) 0 (rule_length w) ↔ (rule_grade yes_no trace w ≡ true)
  -- an inner row is met on s to e exactly when it fits there and its grade at s is yes
  pub inner : (w : Written) → Keeps w → (k : ℕ) → Inner w k → (trace : Trace Bool) (s e : ℕ) → s ≤ e
      → RowMet trace w k s e ↔ ((length_at w k ≤ e - s) × (row_grade yes_no trace w k s ≡ true))
  -- and any row, where it fits, exactly when its grade at s is yes
  pub other : (w : Written) → Keeps w → (k : ℕ) → k < length w.rows → (trace : Trace Bool) (s e : ℕ) → s ≤ e → length_at w k ≤ e - s
      → RowMet trace w k s e ↔ (row_grade yes_no trace w k s ≡ true)

-- Whatever comes after the first n frames, the grade of the rule ends up in what is known from them.
abbrev pub RuleEnclosed : {V : Type 0} → Lattice V → Type 0
RuleEnclosed {V} l = (w : Written) (n : ℕ) (trace trace' : Trace V) → Agree n trace trace' → encloses l (rule_span l n trace w) (rule_grade l trace' w) ≡ true

pub record RuleNarrows {V : Type 0} (l : Lattice V) : Type 0 where
  -- more frames never widen what is known
  pub narrower : (w : Written) (n m : ℕ) (trace : Trace V) → n ≤ m → lies_within l (rule_span l m trace w) (rule_span l n trace w) ≡ true
  -- and past the length of the rule it is the grade
  pub settled : (w : Written) (n : ℕ) (trace : Trace V) → rule_length w < n → rule_span l n trace w ≡ exact (rule_grade l trace w)

-- A take that begins with the first n frames of this one can have the grade g.
abbrev pub CanBecome : {V : Type 0} → Lattice V → ℕ → Trace V → Written → V → Type 0
CanBecome {V} l n trace w g = (trace' : Trace V) × Agree n trace trace' × (rule_grade l trace' w ≡ g)

-- Both ends of what is known can come, where the sheet reads no fact from both sides.
pub record EndsCanCome {V : Type 0} (l : Lattice V) : Type 0 where
  pub low : (w : Written) → Keeps w → OneSided w → (n : ℕ) (trace : Trace V) → CanBecome l n trace w (rule_span l n trace w).low
  pub high : (w : Written) → Keeps w → OneSided w → (n : ℕ) (trace : Trace V) → CanBecome l n trace w (rule_span l n trace w).high

-- Translating and grading can change places, for the grade and for what is known of it.
pub record RuleCarried {V W : Type 0} (l : Lattice V) (m : Lattice W) (f : V → W) : Type 0 where
  pub grades : (w : Written) (trace : Trace V) → f (rule_grade l trace w) ≡ rule_grade m (translated f trace) w
  pub known : (w : Written) (n : ℕ) (trace : Trace V) → by_ends f (rule_span l n trace w) ≡ rule_span m n (translated f trace) w
