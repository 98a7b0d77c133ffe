-- The life of a watch: the feeds and marks after its start, and what is promised of them all.
use Rattle.std.specs.Prelude.{◌≡◌, ℕ, ◌-◌, ◌*◌, ◌/◌, ◌%◌, ◌≤◌, true, ◌⊎◌, List, [], ◌∷◌, ◌++◌, map, length, take, Some, None, Ok, Err, Decides, Result}
use Rattle.refusal.specs.declared.Refusal.{Refusal}
use Rattle.grade.specs.Lattice.{Lattice}
use Rattle.grade.specs.Spans.{encloses, lies_within}
use Rattle.grade.specs.Translations.{by_ends}
use Rattle.grade.specs.declared.span.Span.{Span}
use Rattle.formula.specs.Grades.{grade}
use Rattle.sheet.specs.Rules.{Written}
use Rattle.sheet.specs.Sides.{OneSided}
use Rattle.rule.specs.Trees.{rule_of}
use Rattle.watch.specs.declared.outcome.Mark.{Mark}
use Rattle.watch.specs.Feeding.{Progress, progress, begun, take_length, feed_answer, accepted_by, advanced, logged}
use Rattle.watch.specs.Marking.{log_trace, mark_span, mark_refusal, Marked}

-- A call with the answer that it got.
pub data Event (V : Type 0) : Type 0 where
  fed : (strip : List V) → Result ℕ Refusal → Event V
  marked : (chart : List (Span V)) → Result (Mark V) Refusal → Event V

-- Any list of feeds and marks after a start, the newest first, each answered as its call promises; and what they leave:
-- how many frames the watch counts, and its log, which held anything at first and is changed by these feeds alone.
pub data Life {V : Type 0} (l : Lattice V) (w : Written) : List (Event V) → ℕ → List V → Type 0 where
  begins : (log : List V) → Life l w [] (begun w).count log
  feeds : {es : List (Event V)} {n : ℕ} {log : List V} → Life l w es n log
      → (strip : List V) (r : Result ℕ Refusal) → r ≡ feed_answer (progress w n) (length log) (length strip)
      → Life l w (fed strip r ∷ es) (advanced (progress w n) (accepted_by r)).count (logged (progress w n) (accepted_by r) strip log)
  marks : {es : List (Event V)} {n : ℕ} {log : List V} → Life l w es n log
      → (before after : List (Span V)) (r : Result (Mark V) Refusal) → Marked l (progress w n) log before after r
      → Life l w (marked before r ∷ es) n log

-- how many grades a take has
abbrev pub take_size : Written → ℕ
take_size w = w.facts * take_length w

-- The accepted frames, grade by grade, follow from the calls alone: at the start there are none; a granted feed adds
-- the first frames of its strip, all of them or as many as complete the take; a refused feed and every mark add none.
abbrev pub accepted : {V : Type 0} → Written → List (Event V) → List V
accepted w [] = []
accepted w (fed strip (Ok n) ∷ es) = accepted w es ++ take (take_size w - length (accepted w es)) strip
accepted w (fed strip (Err r) ∷ es) = accepted w es
accepted w (marked chart r ∷ es) = accepted w es

-- how far a watch is that has accepted these frames
abbrev pub having : {V : Type 0} → Written → List V → Progress
having w frames = progress w (length frames / w.facts)

-- A take begins with the accepted frames when its first frames are these, in this order.
pub record Begins {V : Type 0} (w : Written) (frames whole : List V) : Type 0 where
  pub size : length whole ≡ take_size w
  pub front : take (length frames) whole ≡ frames

-- the rule's grade on a take
abbrev pub rule_on : {V : Type 0} → Lattice V → Written → List V → V
rule_on l w whole = grade l (log_trace l w.facts whole) (rule_of w) 0

-- the answer of a granted mark among these calls
abbrev pub Earlier : {V : Type 0} → Mark V → List (Event V) → Type 0
Earlier m [] = ⊥
Earlier m (fed strip r ∷ es) = Earlier m es
Earlier m (marked chart (Ok n) ∷ es) = (m ≡ n) ⊎ Earlier m es
Earlier m (marked chart (Err r) ∷ es) = Earlier m es

-- The calls are the feeds of these strips, of whole frames each, both the newest first.
abbrev pub Feeds : {V : Type 0} → Written → List (Event V) → List (List V) → Type 0
Feeds w [] [] = Unit {0}
Feeds w [] (s ∷ ss) = ⊥
Feeds w (fed strip r ∷ es) [] = ⊥
Feeds w (fed strip r ∷ es) (s ∷ ss) = (strip ≡ s) × (length s % w.facts ≡ 0) × Feeds w es ss
Feeds w (marked chart r ∷ es) ss = ⊥

abbrev pub joined_back : {V : Type 0} → List (List V) → List V
joined_back [] = []
joined_back (s ∷ ss) = joined_back ss ++ s

abbrev pub NoneRefused : {V : Type 0} → List (Event V) → Type 0
NoneRefused [] = Unit {0}
NoneRefused (fed strip (Ok n) ∷ es) = NoneRefused es
NoneRefused (fed strip (Err r) ∷ es) = ⊥
NoneRefused (marked chart r ∷ es) = NoneRefused es

-- the refusals among these calls
abbrev pub refusals : {V : Type 0} → List (Event V) → List Refusal
refusals [] = []
refusals (fed strip (Ok n) ∷ es) = refusals es
refusals (fed strip (Err r) ∷ es) = r ∷ refusals es
refusals (marked chart (Ok answer) ∷ es) = refusals es
refusals (marked chart (Err r) ∷ es) = r ∷ refusals es

-- A second watch of the sheet, in another grade, fed these strips with a log that is long enough, refuses none of
-- them, and its mark with a chart that is long enough is this span.
abbrev pub SecondMarks : {W : Type 0} → Lattice W → Written → List (List W) → Span W → Type 0
SecondMarks {W} m w strips span =
    (es : List (Event W)) (n : ℕ) (log : List W) → Life m w es n log → Feeds w es strips → take_size w ≤ length log
    → NoneRefused es
    × ((before after : List (Span W)) (r : Result (Mark W) Refusal) → Marked m (progress w n) log before after r → length w.rows * take_length w ≤ length before
    → (answer : Mark W) × (r ≡ Ok answer) × (answer.span ≡ span))

-- What a granted mark promises, after calls that accepted these frames.
pub record Kept {V W : Type 0} (l : Lattice V) (m : Lattice W) (h : V → W) (w : Written) (es : List (Event V)) (answer : Mark V) : Type 0 where
  -- it is the rule's span for the frames accepted by then, and says whether its ends are equal
  pub span : answer.span ≡ mark_span l (having w (accepted w es)) (accepted w es)
  pub settled : Decides answer.settled (answer.span.low ≡ answer.span.high)
  -- it encloses the rule's grade on every take that begins with them, and lies within every earlier mark
  pub encloses_takes : (whole : List V) → Begins w (accepted w es) whole → encloses l answer.span (rule_on l w whole) ≡ true
  pub within_earlier : (old : Mark V) → Earlier old es → lies_within l answer.span old.span ≡ true
  -- on a one-sided sheet each end is the rule's grade on some such take
  pub low_reached : OneSided w → (whole : List V) × Begins w (accepted w es) whole × (rule_on l w whole ≡ answer.span.low)
  pub high_reached : OneSided w → (whole : List V) × Begins w (accepted w es) whole × (rule_on l w whole ≡ answer.span.high)
  -- a second watch, fed these frames translated in any strips, marks the translated span
  pub translated : (strips : List (List W)) → joined_back strips ≡ map h (accepted w es) → SecondMarks m w strips (by_ends h answer.span)

-- The whole life: each call is granted or refused by the frames accepted before it, and each granted mark is kept.
abbrev pub WholeLife : {V W : Type 0} → Lattice V → Lattice W → (V → W) → Written → (log : ℕ) → List (Event V) → Type 0
WholeLife l m h w log [] = Unit {0}
WholeLife l m h w log (fed strip r ∷ es) = (r ≡ feed_answer (having w (accepted w es)) log (length strip)) × WholeLife l m h w log es
WholeLife l m h w log (marked chart (Ok answer) ∷ es) =
    (mark_refusal (having w (accepted w es)) log (length chart) ≡ None) × Kept l m h w es answer × WholeLife l m h w log es
WholeLife l m h w log (marked chart (Err r) ∷ es) = (mark_refusal (having w (accepted w es)) log (length chart) ≡ Some r) × WholeLife l m h w log es

-- Whatever life led to this watch and this log, with this call it is one of which all that is promised.
abbrev pub Lived : {V W : Type 0} → Lattice V → Lattice W → (V → W) → Progress → List V → Event V → Type 0
Lived {V} l m h p log call = (es : List (Event V)) → Life l p.sheet es p.count log → WholeLife l m h p.sheet (length log) (call ∷ es)
