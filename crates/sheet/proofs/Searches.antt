-- What a search among the rows finds.
use Rattle.std.proofs.Common.{◌≡◌, ℕ, ◌<◌, ◌≤◌, Some, None, Option, MatchOption, arith}
use Rattle.refusal.specs.declared.Refusal.{Refusal}
use Rattle.sheet.specs.Faults.{FindsLowest}

-- the first of the first n rows with a fault is the lowest
module _ (fault : ℕ → Option Refusal) (n : ℕ) (r : Refusal) (Wrong Right : ℕ → Type 0) (wrong : (k : ℕ) → Wrong k → fault k ≡ Some r) (fine : (k : ℕ) → Right k → fault k ≡ None) where
  pub lowest_of : (o : Option ℕ) → MatchOption o ((k : ℕ) → 0 ≤ k → k < n → Right k) (λ i. (0 ≤ i) × (i < n) × Wrong i × ((k : ℕ) → 0 ≤ k → k < i → Right k)) → FindsLowest fault n r o
  lowest_of None h = λ k lt. fine k (h k (omega arith) lt)
  lowest_of (Some i) h = record { among = h.1; here = wrong i h.2; before = λ k lt. fine k (h.3 k (omega arith) lt) }
