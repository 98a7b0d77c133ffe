-- The published meaning of a formula: when it is met on the frames s to e, for facts that are on or off.
use Rattle.std.specs.Prelude.{◌≡◌, ℕ, ◌+◌, ◌<◌, ◌≤◌, Bool, true, false, ◌⊎◌}
use Rattle.formula.specs.Formula.{Formula, always, hold, hold_off, both, either, not, then, within, horizon}
use Rattle.formula.specs.Grades.{Trace}

-- Met w φ s e: the trace w meets φ on the frames s to e.
abbrev pub Met : Trace Bool → Formula → ℕ → ℕ → Type 0
Met w always s e = Unit {0}
-- s to e has room for the duration, and the fact is on, or off, in each frame from s to s + d
Met w (hold d f) s e = (s + d ≤ e) × ((t : ℕ) → s ≤ t → t ≤ s + d → w t f ≡ true)
Met w (hold_off d f) s e = (s + d ≤ e) × ((t : ℕ) → s ≤ t → t ≤ s + d → w t f ≡ false)
Met w (both φ ψ) s e = Met w φ s e × Met w ψ s e
Met w (either φ ψ) s e = Met w φ s e ⊎ Met w ψ s e
Met w (not φ) s e = Met w φ s e → ⊥
-- the first part is met on s to t, for a t before e and for no sooner one, and the second on t + 1 to e
Met w (then φ ψ) s e = (t : ℕ) × (s ≤ t) × (t < e) × Met w φ s t × ((u : ℕ) → s ≤ u → u < t → Met w φ s u → ⊥) × Met w ψ (t + 1) e
-- s to e has room for the window, and the part is met from some t of the window to the window's end
Met w (within a b φ) s e = (s + b ≤ e) × ((t : ℕ) × (s + a ≤ t) × (t ≤ s + b) × Met w φ t (s + b))

-- Where a formula may stand. The part of a `within` and the first part of a `then` stand inside, with all below them;
-- inside there is no `not`, and the two sides of an `either` have one horizon.
abbrev pub Stands : (inside : Bool) → Formula → Type 0
Stands inside always = Unit {0}
Stands inside (hold d f) = Unit {0}
Stands inside (hold_off d f) = Unit {0}
Stands inside (both φ ψ) = Stands inside φ × Stands inside ψ
Stands inside (either φ ψ) = (inside ≡ true → horizon φ ≡ horizon ψ) × Stands inside φ × Stands inside ψ
Stands inside (not φ) = (inside ≡ false) × Stands inside φ
Stands inside (then φ ψ) = Stands true φ × Stands inside ψ
Stands inside (within a b φ) = Stands true φ

-- It may stand anywhere.
abbrev pub Proper : Formula → Type 0
Proper φ = Stands false φ

-- It may stand inside.
abbrev pub ProperInner : Formula → Type 0
ProperInner φ = Stands true φ
