-- A rule as a tree: what it is made of, and how many frames it looks ahead.
use Rattle.std.specs.Prelude.{ℕ, ◌+◌, max}

-- A formula is asked at a start, a frame. Facts, durations and windows are counted by numbers.
pub data Formula : Type 0 where
  -- nothing is asked
  always : Formula
  -- the fact stays on, from the start until `duration` frames later
  hold : (duration fact : ℕ) → Formula
  -- the fact stays off as long
  hold_off : (duration fact : ℕ) → Formula
  -- the two parts at the same start, or one of them
  both : Formula → Formula → Formula
  either : Formula → Formula → Formula
  -- the part fails
  not : Formula → Formula
  -- the first part, and once it has ended the second, from the next frame on
  then : Formula → Formula → Formula
  -- the part, begun no sooner than `earliest` frames after the start and ended no later than `latest` frames after it
  within : (earliest latest : ℕ) → Formula → Formula

-- The horizon of a formula: how many frames after its start the last frame is that its grade may rest on.
abbrev pub horizon : Formula → ℕ
horizon always = 0
horizon (hold duration fact) = duration
horizon (hold_off duration fact) = duration
horizon (both φ ψ) = max (horizon φ) (horizon ψ)
horizon (either φ ψ) = max (horizon φ) (horizon ψ)
horizon (not φ) = horizon φ
horizon (then φ ψ) = horizon φ + horizon ψ + 1
horizon (within earliest latest φ) = latest
