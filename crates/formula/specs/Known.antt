-- What is known of a take once its first frames have been fed.
use Rattle.std.specs.Prelude.{◌≡◌, ℕ, ◌<◌, cond, nat_lt}
use Rattle.grade.specs.Lattice.{Lattice}
use Rattle.formula.specs.Grades.{Trace}
use Rattle.grade.specs.Spans.{exact, unknown}
use Rattle.grade.specs.declared.span.Span.{Span}

-- The first n frames are known, and of the later ones nothing is.
abbrev pub known : {V : Type 0} → Lattice V → ℕ → Trace V → Trace (Span V)
known l n w t f = cond (nat_lt t n) (exact (w t f)) (unknown l)

-- Two traces agree below n: their first n frames are the same.
abbrev pub Agree : {V : Type 0} → ℕ → Trace V → Trace V → Type 0
Agree n w w' = (t f : ℕ) → t < n → w t f ≡ w' t f
