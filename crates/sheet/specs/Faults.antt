-- Which of a run of rows is the lowest with a fault.
use Rattle.std.specs.Prelude.{◌≡◌, ℕ, ◌<◌, Some, None, Option, MatchOption}
use Rattle.refusal.specs.declared.Refusal.{Refusal}

abbrev pub Faultless : (ℕ → Option Refusal) → ℕ → Type 0
Faultless fault n = (j : ℕ) → j < n → fault j ≡ None

-- row k is refused with r, and no lower row with anything
pub record Lowest (fault : ℕ → Option Refusal) (n : ℕ) (r : Refusal) (k : ℕ) : Type 0 where
  pub among : k < n
  pub here : fault k ≡ Some r
  pub before : Faultless fault k

-- a search among the first n rows finds the lowest with a fault, which is r, or that none has one
abbrev pub FindsLowest : (ℕ → Option Refusal) → ℕ → Refusal → Option ℕ → Type 0
FindsLowest fault n r o = MatchOption o (Faultless fault n) (Lowest fault n r)
