use Rattle.std.proofs.Common.{◌≡◌, ℕ, false, slice_index_or}
use Rattle.sheet.specs.Rules.{row_at}
use Rattle.sheet.specs.Loading.{inner_from, is_inner}
use Rattle.sheet.proofs.draft.Draft.inner.Given as goal

-- what is raised by now and by the rows below k are the inner rows
abbrev pub invariant-loop-k : goal.invariant-loop-k
invariant-loop-k l = (j : ℕ) → inner_from (row_at l.self.rows) l.k (λ i. slice_index_or l.inner i false) j ≡ is_inner (row_at l.self.rows) l.self.count j
