-- The two ends of what is known are grades of takes, where no fact is read from both sides. Assumes nothing of the lattice.
use Rattle.std.proofs.Common.{◌≡◌, ℕ, Bool, true, false, cond, ltb, sym, refl, ap, ap₂}
use Rattle.std.proofs.lemmas.Bool.{lt-ltb}
use Rattle.grade.specs.Lattice.{Lattice}
use Rattle.formula.specs.Formula.{Formula}
use Rattle.formula.specs.Grades.{Trace}
use Rattle.grade.specs.Spans.{spans, exact, unknown}
use Rattle.grade.specs.declared.span.Span.{Span}
use Rattle.formula.specs.Known.{known, Agree}
use Rattle.formula.specs.Sides.{reaches, OneSided, filled, worst, best}
use Rattle.formula.specs.Laws.{Reached}
use Rattle.formula.proofs.Related.{Keeps, related}

module _ {V : Type 0} (l : Lattice V) where
  abbrev Low : Span V → V → Type 0
  Low x v = x.low ≡ v

  abbrev High : Span V → V → Type 0
  High x v = x.high ≡ v

  -- each end is worked by itself, until a flip turns to the other
  low_kept : Keeps (spans l) l Low High
  low_kept = record {
    top = refl;
    bottom = refl;
    meet = λ x y x' y' p q. ap₂ l.meet p q;
    join = λ x y x' y' p q. ap₂ l.join p q;
    flip = λ x x' p. ap l.flip p;
  }

  high_kept : Keeps (spans l) l High Low
  high_kept = record {
    top = refl;
    bottom = refl;
    meet = λ x y x' y' p q. ap₂ l.meet p q;
    join = λ x y x' y' p q. ap₂ l.join p q;
    flip = λ x x' p. ap l.flip p;
  }

  -- a fact that is not raised has the low end of what is known of it, and one that is raised the high end
  unraised : (v : V) (fed raised : Bool) → (raised ≡ true → ⊥) → (cond fed (exact v) (unknown l)).low ≡ cond fed v (cond raised l.top l.bottom)
  unraised v true raised h = refl
  unraised v false true h = absurd (h refl)
  unraised v false false h = refl

  raised : (v : V) (fed raised : Bool) → raised ≡ true → (cond fed (exact v) (unknown l)).high ≡ cond fed v (cond raised l.top l.bottom)
  raised v true r h = refl
  raised v false r h = ap (λ (b : Bool). cond b l.top l.bottom) (sym h)

  filled_agrees : (n : ℕ) (w : Trace V) (up : ℕ → Bool) → Agree n w (filled l n w up)
  filled_agrees n w up t f fed = ap (λ (b : Bool). cond b (w t f) (cond (up f) l.top l.bottom)) (sym (lt-ltb t n fed))

  pub reached : (φ : Formula) (n : ℕ) (w : Trace V) → OneSided φ → Reached l φ n w
  reached φ n w one = record {
    worst_agrees = filled_agrees n w (reaches true φ);
    worst_is_low = sym (related (spans l) l Low High low_kept high_kept (known l n w) (worst l n w φ) φ 0 (record {
      plain = λ t f r _ _. unraised (w t f) (ltb t n) (reaches true φ f) (one f r);
      turned = λ t f r _ _. raised (w t f) (ltb t n) (reaches true φ f) r;
    }));
    best_agrees = filled_agrees n w (reaches false φ);
    best_is_high = sym (related (spans l) l High Low high_kept low_kept (known l n w) (best l n w φ) φ 0 (record {
      plain = λ t f r _ _. raised (w t f) (ltb t n) (reaches false φ f) r;
      turned = λ t f r _ _. unraised (w t f) (ltb t n) (reaches false φ f) (λ p. one f p r);
    }));
  }
