-- The grade of a formula: what it comes to in a lattice, given the grades of the facts frame by frame.
use Rattle.std.specs.Prelude.{ℕ, zero, suc, ◌+◌, ◌-◌}
use Rattle.grade.specs.Lattice.{Lattice}
use Rattle.formula.specs.Formula.{Formula, always, hold, hold_off, both, either, not, then, within, horizon}

-- A trace grades each fact in each frame: the frame comes first, then the fact.
abbrev pub Trace : Type 0 → Type 0
Trace V = ℕ → ℕ → V

-- The meet of the values at `count` frames from `start` on; of none it is top.
abbrev pub meet_over : {V : Type 0} → Lattice V → (ℕ → V) → ℕ → ℕ → V
meet_over l at start zero = l.top
meet_over l at start (suc count) = l.meet (at start) (meet_over l at (suc start) count)

-- The join of the values at `count` frames from `start` on; of none it is bottom.
abbrev pub join_over : {V : Type 0} → Lattice V → (ℕ → V) → ℕ → ℕ → V
join_over l at start zero = l.bottom
join_over l at start (suc count) = l.join (at start) (join_over l at (suc start) count)

-- grade l w φ s: the grade of φ at the start s.
abbrev pub grade : {V : Type 0} → Lattice V → Trace V → Formula → ℕ → V
grade l w always s = l.top
grade l w (hold d f) s = meet_over l (λ t. w t f) s (suc d)
grade l w (hold_off d f) s = meet_over l (λ t. l.flip (w t f)) s (suc d)
grade l w (both φ ψ) s = l.meet (grade l w φ s) (grade l w ψ s)
grade l w (either φ ψ) s = l.join (grade l w φ s) (grade l w ψ s)
grade l w (not φ) s = l.flip (grade l w φ s)
-- the second part starts on the frame after the first part's horizon
grade l w (then φ ψ) s = l.meet (grade l w φ s) (grade l w ψ (s + horizon φ + 1))
-- the part starts at any frame from s + a on from which it still ends by s + b; where it is too long there is none
grade l w (within a b φ) s = join_over l (λ t. grade l w φ t) (s + a) (b + 1 - (a + horizon φ))
