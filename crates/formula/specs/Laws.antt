-- What is true of every formula: the statements that the functions of this crate promise.
use Rattle.std.specs.Prelude.{◌≡◌, ℕ, ◌+◌, ◌-◌, ◌<◌, ◌≤◌, Bool, true, ◌↔◌}
use Rattle.grade.specs.Lattice.{Lattice}
use Rattle.formula.specs.Formula.{Formula, horizon}
use Rattle.formula.specs.Grades.{Trace, grade}
use Rattle.grade.specs.YesNo.{yes_no}
use Rattle.formula.specs.Published.{Met, Proper, ProperInner}
use Rattle.grade.specs.Spans.{spans, exact, encloses, lies_within}
use Rattle.grade.specs.declared.span.Span.{Span}
use Rattle.formula.specs.Known.{known, Agree}
use Rattle.formula.specs.Sides.{OneSided, worst, best}
use Rattle.grade.specs.Translations.{Carries, by_ends}

-- The grade over no and yes is the published meaning.
pub record PublishedMeaning : Type 0 where
  -- inside, a formula is met on s to e exactly when it fits and its grade at s is yes
  pub inner : (w : Trace Bool) (φ : Formula) (s e : ℕ) → ProperInner φ → s ≤ e → Met w φ s e ↔ ((horizon φ ≤ e - s) × (grade yes_no w φ s ≡ true))
  -- anywhere else, once it fits
  pub outer : (w : Trace Bool) (φ : Formula) (s e : ℕ) → Proper φ → s ≤ e → horizon φ ≤ e - s → Met w φ s e ↔ (grade yes_no w φ s ≡ true)
  -- so a whole rule is met on its frames exactly when its grade is yes
  pub whole : (w : Trace Bool) (φ : Formula) → Proper φ → Met w φ 0 (horizon φ) ↔ (grade yes_no w φ 0 ≡ true)

-- A grade rests on the frames from its start to its horizon, and on no other.
abbrev pub Local : {V : Type 0} → Lattice V → Type 0
Local {V} l =
    (w w' : Trace V) (φ : Formula) (s : ℕ) → ((t f : ℕ) → s ≤ t → t ≤ s + horizon φ → w t f ≡ w' t f) → grade l w φ s ≡ grade l w' φ s

-- Grades worked in spans.
pub record Enclosure {V : Type 0} (l : Lattice V) : Type 0 where
  -- spans around the facts give a span around the grade
  pub enclosing : (k : Trace (Span V)) (w : Trace V) (φ : Formula) (s : ℕ)
      → ((t f : ℕ) → encloses l (k t f) (w t f) ≡ true) → encloses l (grade (spans l) k φ s) (grade l w φ s) ≡ true
  -- narrower spans give a narrower span
  pub nesting : (k k' : Trace (Span V)) (φ : Formula) (s : ℕ)
      → ((t f : ℕ) → lies_within l (k t f) (k' t f) ≡ true) → lies_within l (grade (spans l) k φ s) (grade (spans l) k' φ s) ≡ true
  -- facts that are known up to the horizon give the grade at both ends
  pub settled : (k : Trace (Span V)) (w : Trace V) (φ : Formula) (s : ℕ)
      → ((t f : ℕ) → s ≤ t → t ≤ s + horizon φ → k t f ≡ exact (w t f)) → grade (spans l) k φ s ≡ exact (grade l w φ s)

-- What the first n frames tell of the grade of a take.
pub record Narrowing {V : Type 0} (l : Lattice V) : Type 0 where
  -- whatever comes, the grade ends up in the span
  pub enclosing : (n : ℕ) (w w' : Trace V) (φ : Formula) → Agree n w w' → encloses l (grade (spans l) (known l n w) φ 0) (grade l w' φ 0) ≡ true
  -- more frames never widen the span
  pub nesting : (n m : ℕ) (w : Trace V) (φ : Formula) → n ≤ m → lies_within l (grade (spans l) (known l m w) φ 0) (grade (spans l) (known l n w) φ 0) ≡ true
  -- and past the horizon it is the grade
  pub settled : (n : ℕ) (w : Trace V) (φ : Formula) → horizon φ < n → grade (spans l) (known l n w) φ 0 ≡ exact (grade l w φ 0)

-- The span is no wider than it must be: each of its ends is the grade of a take that begins as this one.
pub record Reached {V : Type 0} (l : Lattice V) (φ : Formula) (n : ℕ) (w : Trace V) : Type 0 where
  pub worst_agrees : Agree n w (worst l n w φ)
  pub worst_is_low : grade l (worst l n w φ) φ 0 ≡ (grade (spans l) (known l n w) φ 0).low
  pub best_agrees : Agree n w (best l n w φ)
  pub best_is_high : grade l (best l n w φ) φ 0 ≡ (grade (spans l) (known l n w) φ 0).high

-- Both ends are reached where no fact is read from both sides.
abbrev pub EndsReached : {V : Type 0} → Lattice V → Type 0
EndsReached {V} l = (φ : Formula) (n : ℕ) (w : Trace V) → OneSided φ → Reached l φ n w

-- A map carries grades where grading and mapping can change places, for values and for spans.
pub record CarriesGrades {V W : Type 0} (l : Lattice V) (m : Lattice W) (h : V → W) : Type 0 where
  pub values : (w : Trace V) (φ : Formula) (s : ℕ) → h (grade l w φ s) ≡ grade m (λ t f. h (w t f)) φ s
  pub ends : (k : Trace (Span V)) (φ : Formula) (s : ℕ) → by_ends h (grade (spans l) k φ s) ≡ grade (spans m) (λ t f. by_ends h (k t f)) φ s

-- Every translation does.
abbrev pub TranslationsCarry : {V W : Type 0} → Lattice V → Lattice W → Type 0
TranslationsCarry {V} {W} l m = (h : V → W) → Carries l m h → CarriesGrades l m h
