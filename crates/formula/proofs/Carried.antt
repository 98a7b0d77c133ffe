-- Translations carry grades, and a grade rests on the frames up to the horizon alone. Assumes nothing.
use Rattle.std.proofs.Common.{◌≡◌, ℕ, ◌+◌, ◌≤◌, refl, ap, ◌∙◌, ap₂}
use Rattle.grade.specs.Lattice.{Lattice}
use Rattle.formula.specs.Formula.{Formula, horizon}
use Rattle.formula.specs.Grades.{Trace, grade}
use Rattle.grade.specs.Spans.{spans, exact}
use Rattle.grade.specs.Translations.{Carries}
use Rattle.grade.specs.SpanLaws.{ends_carry}
use Rattle.formula.specs.Laws.{TranslationsCarry}
use Rattle.formula.proofs.Related.{Keeps, related_by}

module _ {V W : Type 0} {l : Lattice V} {m : Lattice W} {h : V → W} (hom : Carries l m h) where
  -- y is what x is translated to
  abbrev Becomes : V → W → Type 0
  Becomes x y = h x ≡ y

  becomes_kept : Keeps l m Becomes Becomes
  becomes_kept = record {
    top = hom.top;
    bottom = hom.bottom;
    meet = λ x y x' y' p q. hom.meet x y ∙ ap₂ m.meet p q;
    join = λ x y x' y' p q. hom.join x y ∙ ap₂ m.join p q;
    flip = λ x x' p. hom.flip x ∙ ap m.flip p;
  }

  pub carried : (w : Trace V) (φ : Formula) (s : ℕ) → h (grade l w φ s) ≡ grade m (λ t f. h (w t f)) φ s
  carried w φ s = related_by l m Becomes becomes_kept w (λ t f. h (w t f)) φ s (λ t f _ _. refl)

-- a value that is known, as a span
exact_kept : {V : Type 0} (l : Lattice V) → Carries l (spans l) exact
exact_kept l = record { top = refl; bottom = refl; meet = λ x y. refl; join = λ x y. refl; flip = λ x. refl }

pub translations_carry : {V W : Type 0} (l : Lattice V) (m : Lattice W) → TranslationsCarry l m
translations_carry l m h hom = record { values = carried hom; ends = carried (ends_carry hom) }

pub carried_exact : {V : Type 0} (l : Lattice V) (w : Trace V) (φ : Formula) (s : ℕ) → exact (grade l w φ s) ≡ grade (spans l) (λ t f. exact (w t f)) φ s
carried_exact l w φ s = carried (exact_kept l) w φ s

-- every operation keeps equality
pub equal_kept : {V : Type 0} (l : Lattice V) → Keeps l l ◌≡◌ ◌≡◌
equal_kept l = record {
  top = refl;
  bottom = refl;
  meet = λ x y x' y' p q. ap₂ l.meet p q;
  join = λ x y x' y' p q. ap₂ l.join p q;
  flip = λ x x' p. ap l.flip p;
}

-- Traces that are the same from the start to the horizon give the same grade.
pub local : {V : Type 0} (l : Lattice V) (w w' : Trace V) (φ : Formula) (s : ℕ)
    → ((t f : ℕ) → s ≤ t → t ≤ s + horizon φ → w t f ≡ w' t f) → grade l w φ s ≡ grade l w' φ s
local l w w' φ s same = related_by l l ◌≡◌ (equal_kept l) w w' φ s same
