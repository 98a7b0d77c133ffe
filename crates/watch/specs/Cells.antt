-- What a chart holds while its rows are written, one after the other.
use Rattle.std.specs.Prelude.{◌≡◌, ℕ, ◌+◌, ◌*◌, ◌<◌, ◌≤◌, List, length, ◌≢◌, slice_index_or}
use Rattle.grade.specs.Lattice.{Lattice}
use Rattle.grade.specs.declared.span.Span.{Span}
use Rattle.sheet.specs.Rules.{row_at, length_of, Keeps}
use Rattle.sheet.specs.Sheets.{rule_length}
use Rattle.watch.specs.Feeding.{Progress, take_length}
use Rattle.watch.specs.Marking.{row_span}

-- how long row k is
abbrev pub long : Progress → ℕ → ℕ
long p k = length_of (row_at p.sheet.rows) k

-- The log has room, row k is one of the sheet's, and the cells of the rows below it hold their grades.
pub record Ready {V : Type 0} (l : Lattice V) (p : Progress) (log : List V) (k : ℕ) (chart : List (Span V)) : Type 0 where
  pub keeps : Keeps p.sheet
  pub log_room : p.sheet.facts * take_length p.sheet ≤ length log
  pub among : k < length p.sheet.rows
  pub rows_room : k * take_length p.sheet ≤ length chart
  pub cells : (j s : ℕ) (d : Span V) → j < k → s + long p j ≤ rule_length p.sheet → slice_index_or chart (j * take_length p.sheet + s) d ≡ row_span l p log j s

-- The cells of row k are written, and no other place.
pub record RowCharted {V : Type 0} (l : Lattice V) (p : Progress) (log : List V) (k : ℕ) (before after : List (Span V)) : Type 0 where
  pub size : length after ≡ length before
  pub cells : (s : ℕ) (d : Span V) → s + long p k ≤ rule_length p.sheet → slice_index_or after (k * take_length p.sheet + s) d ≡ row_span l p log k s
  pub others : (i : ℕ) (d : Span V) → ((s : ℕ) → s + long p k ≤ rule_length p.sheet → k * take_length p.sheet + s ≢ i) → slice_index_or after i d ≡ slice_index_or before i d
