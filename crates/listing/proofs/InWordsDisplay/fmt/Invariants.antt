use Rattle.std.proofs.Common.{length}
use Rattle.std.specs.Fmt.{HasWritten, IsPlainFormatter}
use Rattle.sheet.specs.Rules.{row_at, length_of}
use Rattle.sheet.specs.Sheets.{sheet_of}
use Rattle.listing.specs.Words.{lines_of}
use Rattle.listing.proofs.InWordsDisplay.fmt.Given as goal

-- the lines of the rows so far have been written
abbrev pub invariant-loop-index : goal.invariant-loop-index
invariant-loop-index g l =
    let rows = row_at (sheet_of l.self.sheet.now).rows in
    IsPlainFormatter l.initial.f → HasWritten g.W.Write.write_str_gives l.initial.f (lines_of rows (length_of rows) (length l.yielded)) l.f
