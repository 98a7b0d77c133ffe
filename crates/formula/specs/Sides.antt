-- The side from which a formula reads its facts, and the traces that reach the two ends of what is known.
use Rattle.std.specs.Prelude.{◌≡◌, ℕ, Bool, true, false, cond, not as opposite, ◌&&◌, ◌||◌, ◌==◌, ◌≢◌, nat_lt}
use Rattle.grade.specs.Lattice.{Lattice}
use Rattle.formula.specs.Formula.{Formula, always, hold, hold_off, both, either, not, then, within}
use Rattle.formula.specs.Grades.{Trace}

-- Does the formula reach the fact, plain or turned? A `hold` under an even number of `not`s reaches its fact plain,
-- and so does a `hold_off` under an odd number; the others reach it turned.
abbrev pub reaches : (turned : Bool) → Formula → ℕ → Bool
reaches turned always fact = false
reaches turned (hold d f) fact = opposite turned && f == fact
reaches turned (hold_off d f) fact = turned && f == fact
reaches turned (both φ ψ) fact = reaches turned φ fact || reaches turned ψ fact
reaches turned (either φ ψ) fact = reaches turned φ fact || reaches turned ψ fact
reaches turned (not φ) fact = reaches (opposite turned) φ fact
reaches turned (then φ ψ) fact = reaches turned φ fact || reaches turned ψ fact
reaches turned (within a b φ) fact = reaches turned φ fact

-- No fact is reached both plain and turned.
abbrev pub OneSided : Formula → Type 0
OneSided φ = (fact : ℕ) → reaches false φ fact ≡ true → reaches true φ fact ≢ true

-- The first `n` frames of a trace, and after them top for the facts that `raised` names, and bottom for the others.
abbrev pub filled : {V : Type 0} → Lattice V → ℕ → Trace V → (raised : ℕ → Bool) → Trace V
filled l n w raised t f = cond (nat_lt t n) (w t f) (cond (raised f) l.top l.bottom)

-- The worst that may come: the turned facts at top, the plain ones at bottom.
abbrev pub worst : {V : Type 0} → Lattice V → ℕ → Trace V → Formula → Trace V
worst l n w φ = filled l n w (reaches true φ)

-- The best that may come: the plain facts at top, the turned ones at bottom.
abbrev pub best : {V : Type 0} → Lattice V → ℕ → Trace V → Formula → Trace V
best l n w φ = filled l n w (reaches false φ)
