-- What a translation is: a map between two lattices that carries top, bottom, meet, join and flip.
use Rattle.std.specs.Prelude.{◌≡◌}
use Rattle.grade.specs.Lattice.{Lattice}
use Rattle.grade.specs.Spans.{span}
use Rattle.grade.specs.declared.span.Span.{Span}

pub record Carries {V W : Type 0} (l : Lattice V) (m : Lattice W) (f : V → W) : Type 0 where
  pub top : f l.top ≡ m.top
  pub bottom : f l.bottom ≡ m.bottom
  pub meet : (x y : V) → f (l.meet x y) ≡ m.meet (f x) (f y)
  pub join : (x y : V) → f (l.join x y) ≡ m.join (f x) (f y)
  pub flip : (x : V) → f (l.flip x) ≡ m.flip (f x)

-- the translation of a span, end by end
abbrev pub by_ends : {V W : Type 0} → (V → W) → Span V → Span W
by_ends f s = span (f s.low) (f s.high)
