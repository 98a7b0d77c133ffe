-- The lines of a take, by the bytes that its frames are read from; and all that is printed for an input.
use Rattle.std.specs.Prelude.{ℕ, zero, suc, ◌*◌, ◌/◌, min, List, [], ◌++◌, length, drop}
use Rattle.sheet.specs.Rules.{Written}
use Rattle.sheet.specs.Loading.{Verdict, accepted, refused, load_result}
use Rattle.report.specs.Texts.{notice_text}
use Rattle.watch.specs.Feeding.{progress, take_length}
use Rattle.bench.specs.Reading.{sheet_in, after_sheet}
use Rattle.bench.specs.Steps.{line_after}
use Rattle.bench.specs.Words.{words}

-- the line of the mark after the first n frames
abbrev pub line_of : Written → List ℕ → ℕ → List ℕ
line_of w bytes n = line_after (progress w n) (words bytes (n * w.facts))

-- the lines after each of the first n frames
abbrev pub lines_of : Written → List ℕ → ℕ → List ℕ
lines_of w bytes zero = []
lines_of w bytes (suc n) = lines_of w bytes n ++ line_of w bytes (suc n)

-- how many frames are judged: as many as are whole, and no more than a take has
abbrev pub frames_in : Written → List ℕ → ℕ
frames_in w bytes = min (length bytes / (2 * w.facts)) (take_length w)

-- a line after each of them
abbrev pub take_lines : Written → List ℕ → List ℕ
take_lines w bytes = lines_of w bytes (frames_in w bytes)

-- what a take leaves of the bytes: all that comes after its last frame
abbrev pub after_take : Written → List ℕ → List ℕ
after_take w bytes = drop (take_length w * (2 * w.facts)) bytes

-- what is printed for a verdict on the sheet: the lines of the bytes that follow, or the notice of why it is none
abbrev pub printed_for : Verdict → List ℕ → List ℕ
printed_for (accepted w) frames = take_lines w frames
printed_for (refused number row) frames = notice_text number row

-- what is printed for an input: a sheet, and then its frames
abbrev pub printed : List ℕ → List ℕ
printed input = printed_for (load_result (sheet_in input)) (after_sheet input)

-- what is left of the input after that: for a sheet all that comes after the take's last frame, for none all that comes after its bytes
abbrev pub left_for : Verdict → List ℕ → List ℕ
left_for (accepted w) frames = after_take w frames
left_for (refused number row) frames = frames

abbrev pub left_of : List ℕ → List ℕ
left_of input = left_for (load_result (sheet_in input)) (after_sheet input)
