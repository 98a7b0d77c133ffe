-- Grades worked in spans enclose the grades that they stand for, nest, and settle.
use Rattle.std.proofs.Common.{◌≡◌, ℕ, ◌+◌, ◌≤◌, sym, ◌∙◌}
use Rattle.grade.specs.Lattice.{Lattice, Lawful}
use Rattle.formula.specs.Formula.{Formula, horizon}
use Rattle.formula.specs.Grades.{Trace, grade}
use Rattle.grade.specs.Spans.{spans, exact}
use Rattle.grade.specs.declared.span.Span.{Span}
use Rattle.formula.specs.Laws.{Enclosure}
use Rattle.formula.proofs.Related.{related_by}
use Rattle.formula.proofs.Carried.{carried_exact, local}
use Rattle.formula.proofs.Order.{Around, around_kept, Within, within_kept}

-- up to the horizon the spans are exact, and exact values are carried as any others
pub settled : {V : Type 0} (l : Lattice V) (k : Trace (Span V)) (w : Trace V) (φ : Formula) (s : ℕ)
    → ((t f : ℕ) → s ≤ t → t ≤ s + horizon φ → k t f ≡ exact (w t f)) → grade (spans l) k φ s ≡ exact (grade l w φ s)
settled l k w φ s same = local (spans l) k (λ t f. exact (w t f)) φ s same ∙ sym (carried_exact l w φ s)

pub enclosure : {V : Type 0} {l : Lattice V} → Lawful l → Enclosure l
enclosure {l} law = record {
  enclosing = λ k w φ s h. related_by (spans l) l (Around l) (around_kept law) k w φ s (λ t f _ _. h t f);
  nesting = λ k k' φ s h. related_by (spans l) (spans l) (Within l) (within_kept law) k k' φ s (λ t f _ _. h t f);
  settled = settled l;
}
