-- What the rows of a sheet, and its rule, come to on a trace.
use Rattle.std.specs.Prelude.{ℕ, ◌-◌, Bool, length}
use Rattle.grade.specs.Lattice.{Lattice}
use Rattle.grade.specs.Spans.{spans}
use Rattle.grade.specs.declared.span.Span.{Span}
use Rattle.formula.specs.Formula.{Formula}
use Rattle.formula.specs.Grades.{Trace, grade}
use Rattle.formula.specs.Known.{known}
use Rattle.formula.specs.Published.{Met}
use Rattle.sheet.specs.Rules.{Written, row_at, length_of, IsInner}
use Rattle.rule.specs.Trees.{tree_at}

-- the formula that row k stands for
abbrev pub formula_at : Written → ℕ → Formula
formula_at w k = tree_at (row_at w.rows) k

-- the length of row k
abbrev pub length_at : Written → ℕ → ℕ
length_at w k = length_of (row_at w.rows) k

-- row k is inner
abbrev pub Inner : Written → ℕ → Type 0
Inner w k = IsInner (row_at w.rows) (length w.rows) k

-- row k is met on the frames s to e, by the published meaning
abbrev pub RowMet : Trace Bool → Written → ℕ → ℕ → ℕ → Type 0
RowMet trace w k s e = Met trace (formula_at w k) s e

-- the grade of row k at the start s
abbrev pub row_grade : {V : Type 0} → Lattice V → Trace V → Written → ℕ → ℕ → V
row_grade l trace w k s = grade l trace (formula_at w k) s

-- the rule is the last row
abbrev pub rule_row : Written → ℕ
rule_row w = length w.rows - 1

-- its grade is taken from the first frame on
abbrev pub rule_grade : {V : Type 0} → Lattice V → Trace V → Written → V
rule_grade l trace w = row_grade l trace w (rule_row w) 0

-- that grade in spans, as the first n frames are known and of the later ones nothing is
abbrev pub rule_span : {V : Type 0} → Lattice V → ℕ → Trace V → Written → Span V
rule_span l n trace w = rule_grade (spans l) (known l n trace) w

-- a trace with each of its grades translated
abbrev pub translated : {V W : Type 0} → (V → W) → Trace V → Trace W
translated f trace t fact = f (trace t fact)
