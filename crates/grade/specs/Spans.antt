-- Spans over any lattice: two ends, which are graded end by end, and what lies between them.
use Rattle.std.specs.Prelude.{Bool, ◌&&◌}
use Rattle.grade.specs.Lattice.{Lattice}
use Rattle.grade.specs.declared.span.Span.{Span}

abbrev pub span : {V : Type 0} → V → V → Span V
span l h = record { low = l; high = h }

abbrev pub exact : {V : Type 0} → V → Span V
exact g = span g g

abbrev pub unknown : {V : Type 0} → Lattice V → Span V
unknown l = span l.bottom l.top

abbrev pub spans : {V : Type 0} → Lattice V → Lattice (Span V)
spans l = record {
  top = exact l.top;
  bottom = exact l.bottom;
  le = λ s t. l.le s.low t.low && l.le s.high t.high;
  meet = λ s t. span (l.meet s.low t.low) (l.meet s.high t.high);
  join = λ s t. span (l.join s.low t.low) (l.join s.high t.high);
  -- the flip turns the order round, so the ends trade places
  flip = λ s. span (l.flip s.high) (l.flip s.low);
}

-- g lies between the ends of s
abbrev pub encloses : {V : Type 0} → Lattice V → Span V → V → Bool
encloses l s g = l.le s.low g && l.le g s.high

-- t encloses both ends of s
abbrev pub lies_within : {V : Type 0} → Lattice V → Span V → Span V → Bool
lies_within l s t = encloses l t s.low && encloses l t s.high
