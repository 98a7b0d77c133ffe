-- Spans over a lattice with a flip are one again, and a translation of their ends is a translation.
use Rattle.std.specs.Prelude.{◌≡◌, true, ◌&&◌}
use Rattle.std.proofs.Common.{ap₂, ◌∙◌}
use Rattle.std.proofs.Math.Bool.{and_comm}
use Rattle.std.proofs.lemmas.Bool.{and_parts, and_from}
use Rattle.grade.specs.Lattice.{Lattice, Lawful}
use Rattle.grade.specs.Spans.{span, spans}
use Rattle.grade.specs.Translations.{Carries, by_ends}
use Rattle.grade.specs.declared.span.Span.{Span}

module _ {V : Type 0} {l : Lattice V} (laws : Lawful l) where
  both_below : (s t : Span V) → l.le s.low t.low ≡ true → l.le s.high t.high ≡ true → (spans l).le s t ≡ true
  both_below s t = and_from _ _

  ends_below : (s t : Span V) → (spans l).le s t ≡ true → (l.le s.low t.low ≡ true) × (l.le s.high t.high ≡ true)
  ends_below s t = and_parts _ _

  pub spans_lawful : Lawful (spans l)
  spans_lawful = record {
    reflexive = λ s. both_below s s (laws.reflexive s.low) (laws.reflexive s.high);
    antisymmetric = λ s t p q.
        let up = ends_below s t p in
        let down = ends_below t s q in
        ap₂ span (laws.antisymmetric s.low t.low up.0 down.0) (laws.antisymmetric s.high t.high up.1 down.1);
    transitive = λ s t u p q.
        let first = ends_below s t p in
        let next = ends_below t u q in
        both_below s u (laws.transitive _ _ _ first.0 next.0) (laws.transitive _ _ _ first.1 next.1);
    least = λ s. both_below _ s (laws.least s.low) (laws.least s.high);
    greatest = λ s. both_below s _ (laws.greatest s.low) (laws.greatest s.high);
    meet_left = λ s t. both_below ((spans l).meet s t) s (laws.meet_left _ _) (laws.meet_left _ _);
    meet_right = λ s t. both_below ((spans l).meet s t) t (laws.meet_right _ _) (laws.meet_right _ _);
    meet_above = λ s t u p q.
        let under_s = ends_below u s p in
        let under_t = ends_below u t q in
        both_below u ((spans l).meet s t) (laws.meet_above _ _ _ under_s.0 under_t.0) (laws.meet_above _ _ _ under_s.1 under_t.1);
    join_left = λ s t. both_below s ((spans l).join s t) (laws.join_left _ _) (laws.join_left _ _);
    join_right = λ s t. both_below t ((spans l).join s t) (laws.join_right _ _) (laws.join_right _ _);
    join_below = λ s t u p q.
        let over_s = ends_below s u p in
        let over_t = ends_below t u q in
        both_below ((spans l).join s t) u (laws.join_below _ _ _ over_s.0 over_t.0) (laws.join_below _ _ _ over_s.1 over_t.1);
    flip_twice = λ s. ap₂ span (laws.flip_twice s.low) (laws.flip_twice s.high);
    flip_order = λ s t.
        ap₂ ◌&&◌ (laws.flip_order s.low t.low) (laws.flip_order s.high t.high)
        ∙ and_comm (l.le (l.flip t.low) (l.flip s.low)) (l.le (l.flip t.high) (l.flip s.high));
  }

pub ends_carry : {V W : Type 0} {l : Lattice V} {m : Lattice W} {f : V → W} → Carries l m f → Carries (spans l) (spans m) (by_ends f)
ends_carry c = record {
  top = ap₂ span c.top c.top;
  bottom = ap₂ span c.bottom c.bottom;
  meet = λ s t. ap₂ span (c.meet s.low t.low) (c.meet s.high t.high);
  join = λ s t. ap₂ span (c.join s.low t.low) (c.join s.high t.high);
  flip = λ s. ap₂ span (c.flip s.high) (c.flip s.low);
}
