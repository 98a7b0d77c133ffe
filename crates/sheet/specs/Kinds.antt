-- How a row follows from its kind and operands.
use Rattle.std.specs.Prelude.{◌≡◌, ℕ, ◌<◌, ◌≤◌, List, Result, MatchResult, slice_index, slice_index_or}
use Rattle.refusal.specs.declared.Refusal.{Refusal}
use Rattle.refusal.specs.declared.Refusal.TheVariants.{Kind}
use Rattle.sheet.specs.declared.row.Row.{Row}
use Rattle.sheet.specs.declared.row.Row.TheVariants.{Always}
use Rattle.sheet.specs.Bytes.{kinds}

-- the row of this kind with these operands, or no row where there is no such kind
abbrev pub OfKind : (ℕ × List ℕ) → Result Row Refusal → Type 0
OfKind (kind, operands) r =
    MatchResult r
    (λ row. (kind < 8) × (row ≡ slice_index_or (kinds (slice_index operands 0) (slice_index operands 1) (slice_index operands 2)) kind Always))
    (λ e. (8 ≤ kind) × (e ≡ Kind))
