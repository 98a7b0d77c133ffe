use Rattle.std.proofs.Common.{◌≡◌, ℕ, false, slice_index_or}
use Rattle.sheet.specs.Rules.{named, row_at}
use Rattle.sheet.proofs.draft.Draft.named.Given as goal

-- the flags are those of the rows that a row so far names
abbrev pub invariant-loop-k : goal.invariant-loop-k
invariant-loop-k l = (j : ℕ) → slice_index_or l.named j false ≡ named (row_at l.self.rows) l.k j
