-- What the laws of a lattice give: meet and join rise with their operands, so that spans around values, and spans within
-- spans, stay so under each operation.
use Rattle.std.proofs.Common.{◌≡◌, true, sym, ◌∙◌}
use Rattle.std.proofs.lemmas.Bool.{and_parts, and_from}
use Rattle.grade.specs.Lattice.{Lattice, Lawful}
use Rattle.grade.specs.Spans.{spans, encloses, lies_within}
use Rattle.grade.specs.declared.span.Span.{Span}
use Rattle.formula.proofs.Related.{Keeps}

abbrev pub Around : {V : Type 0} → Lattice V → Span V → V → Type 0
Around l s v = encloses l s v ≡ true

-- a span within another: the other is around both its ends
abbrev pub Within : {V : Type 0} → Lattice V → Span V → Span V → Type 0
Within l s t = lies_within l s t ≡ true

module _ {V : Type 0} {l : Lattice V} (law : Lawful l) where
  meet_rises : (x y x' y' : V) → l.le x x' ≡ true → l.le y y' ≡ true → l.le (l.meet x y) (l.meet x' y') ≡ true
  meet_rises x y x' y' p q =
      law.meet_above x' y' (l.meet x y)
      (law.transitive (l.meet x y) x x' (law.meet_left x y) p)
      (law.transitive (l.meet x y) y y' (law.meet_right x y) q)

  join_rises : (x y x' y' : V) → l.le x x' ≡ true → l.le y y' ≡ true → l.le (l.join x y) (l.join x' y') ≡ true
  join_rises x y x' y' p q =
      law.join_below x y (l.join x' y')
      (law.transitive x x' (l.join x' y') p (law.join_left x' y'))
      (law.transitive y y' (l.join x' y') q (law.join_right x' y'))

  flip_falls : (x y : V) → l.le x y ≡ true → l.le (l.flip y) (l.flip x) ≡ true
  flip_falls x y p = sym (law.flip_order x y) ∙ p

  below : (s : Span V) (v : V) → Around l s v → l.le s.low v ≡ true
  below s v h = (and_parts _ _ h).0

  above : (s : Span V) (v : V) → Around l s v → l.le v s.high ≡ true
  above s v h = (and_parts _ _ h).1

  pub around_kept : Keeps (spans l) l (Around l) (Around l)
  around_kept = record {
    top = and_from _ _ (law.reflexive _) (law.reflexive _);
    bottom = and_from _ _ (law.reflexive _) (law.reflexive _);
    meet = λ s t x y p q. and_from _ _ (meet_rises _ _ _ _ (below s x p) (below t y q)) (meet_rises _ _ _ _ (above s x p) (above t y q));
    join = λ s t x y p q. and_from _ _ (join_rises _ _ _ _ (below s x p) (below t y q)) (join_rises _ _ _ _ (above s x p) (above t y q));
    flip = λ s x p. and_from _ _ (flip_falls _ _ (above s x p)) (flip_falls _ _ (below s x p));
  }

  low_in : (s t : Span V) → Within l s t → Around l t s.low
  low_in s t h = (and_parts _ _ h).0

  high_in : (s t : Span V) → Within l s t → Around l t s.high
  high_in s t h = (and_parts _ _ h).1

  pub within_kept : Keeps (spans l) (spans l) (Within l) (Within l)
  within_kept = record {
    top = and_from _ _ around_kept.top around_kept.top;
    bottom = and_from _ _ around_kept.bottom around_kept.bottom;
    meet = λ s t s' t' p q. and_from _ _ (around_kept.meet s' t' s.low t.low (low_in s s' p) (low_in t t' q)) (around_kept.meet s' t' s.high t.high (high_in s s' p) (high_in t t' q));
    join = λ s t s' t' p q. and_from _ _ (around_kept.join s' t' s.low t.low (low_in s s' p) (low_in t t' q)) (around_kept.join s' t' s.high t.high (high_in s s' p) (high_in t t' q));
    flip = λ s s' p. and_from _ _ (around_kept.flip s' s.high (high_in s s' p)) (around_kept.flip s' s.low (low_in s s' p));
  }
