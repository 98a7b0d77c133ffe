-- Folds of values that stand side by side.
use Rattle.std.specs.Prelude.{◌≡◌, ℕ, zero, suc, ◌<◌, List, length, slice_index_or}

-- What is asked of a way to make one value of two, and of the value that is the fold of none.
pub record Folding {V : Type 0} (none : V) (combine : V → V → V) : Type 0 where
  pub none_left : (x : V) → combine none x ≡ x
  pub none_right : (x : V) → combine x none ≡ x
  pub assoc : (x y z : V) → combine (combine x y) z ≡ combine x (combine y z)

-- the fold of the values at `count` places from `start` on
abbrev pub over : {V : Type 0} → V → (V → V → V) → (ℕ → V) → ℕ → ℕ → V
over none combine at start zero = none
over none combine at start (suc count) = combine (at start) (over none combine at (suc start) count)

-- Place for place, a list holds what `at` says.
abbrev pub Holds : {V : Type 0} → (ℕ → V) → List V → Type 0
Holds at xs = (s : ℕ) (d : _) → s < length xs → slice_index_or xs s d ≡ at s
