-- Two readings that lie close and are wrong, and a take on which each says yes where the grade says no.
use Rattle.std.specs.Prelude.{◌≡◌, ℕ, ◌+◌, ◌-◌, Bool, true, false, List, [], ◌∷◌, slice_index_or}
use Rattle.grade.specs.Lattice.{Lattice}
use Rattle.formula.specs.Formula.{Formula, hold, then, within, horizon}
use Rattle.formula.specs.Grades.{Trace, grade, join_over}
use Rattle.grade.specs.YesNo.{yes_no}

-- Wrong: the second part starts on the very frame on which the first ended.
abbrev pub overlapping : {V : Type 0} → Lattice V → Trace V → Formula → Formula → ℕ → V
overlapping l w φ ψ s = l.meet (grade l w φ s) (grade l w ψ (s + horizon φ))

-- Wrong: a part that starts in its window may end after it.
abbrev pub outliving : {V : Type 0} → Lattice V → Trace V → ℕ → ℕ → Formula → ℕ → V
outliving l w a b φ s = join_over l (λ t. grade l w φ t) (s + a) (b + 1)

-- The same with the starts of the window alone, from a to b.
abbrev pub outliving_from : {V : Type 0} → Lattice V → Trace V → ℕ → ℕ → Formula → ℕ → V
outliving_from l w a b φ s = join_over l (λ t. grade l w φ t) (s + a) (b + 1 - a)

-- A take of two facts from its frames; what is not there is off.
abbrev pub take_of : List (List Bool) → Trace Bool
take_of frames t f = slice_index_or (slice_index_or frames t []) f false

-- Fact 0 on, then fact 1 on.
abbrev pub one_then_other : Formula
one_then_other = then (hold 0 0) (hold 0 1)

abbrev pub no_overlap : Trace Bool
no_overlap = take_of ((true ∷ true ∷ []) ∷ (true ∷ false ∷ []) ∷ [])

-- Fact 1 comes on in the third frame, after the window of two frames.
abbrev pub too_late : Trace Bool
too_late = take_of ((false ∷ false ∷ []) ∷ (true ∷ false ∷ []) ∷ (false ∷ true ∷ []) ∷ [])

-- Fact 0 comes on in frame 5, fact 1 in frame 6: a window of the frames 4 and 5 sees the first and not the second.
abbrev pub quiet : List Bool
quiet = false ∷ false ∷ []

abbrev pub later : Trace Bool
later = take_of (quiet ∷ quiet ∷ quiet ∷ quiet ∷ quiet ∷ (true ∷ false ∷ []) ∷ (false ∷ true ∷ []) ∷ [])

pub record NeighboursDiffer : Type 0 where
  pub next_frame : grade yes_no no_overlap one_then_other 0 ≡ false
  pub same_frame : overlapping yes_no no_overlap (hold 0 0) (hold 0 1) 0 ≡ true
  pub in_window : grade yes_no too_late (within 0 1 one_then_other) 0 ≡ false
  pub past_window : outliving yes_no too_late 0 1 one_then_other 0 ≡ true
  pub in_later_window : grade yes_no later (within 1 2 one_then_other) 3 ≡ false
  pub past_later_window : outliving_from yes_no later 1 2 one_then_other 3 ≡ true
  -- where nothing is on they say no as well
  pub off_together : overlapping yes_no no_overlap (hold 0 0) (hold 0 1) 1 ≡ false
  pub off_later : overlapping yes_no no_overlap (hold 1 0) (hold 0 1) 0 ≡ false
  pub not_begun : outliving_from yes_no later 1 2 one_then_other 2 ≡ false
  pub begun_after : outliving_from yes_no later 0 1 one_then_other 3 ≡ false
  pub off_past_the_end : grade yes_no no_overlap one_then_other 1 ≡ false
