-- Worked cases as one table: a question to the definitions on each line, with its answer.
use Rattle.std.specs.Prelude.{ℕ, zero, suc, Bool, true, false, not, ◌&&◌, List, [], ◌∷◌, map, length, ℤ, pos, negsuc, Ok, Err, codes, Result, ◌==◌, int_le}
use Rattle.refusal.specs.declared.Refusal.{Refusal}
use Rattle.refusal.specs.Numbers.{number_of}
use Rattle.grade.specs.Margins.{margin, margins}
use Rattle.grade.specs.Voices.{word, voices}
use Rattle.grade.specs.YesNo.{yes_no}
use Rattle.formula.specs.Sides.{reaches}
use Rattle.sheet.specs.Loading.{Verdict, accepted, refused, load_result, same}
use Rattle.sheet.specs.Rules.{Written}
use Rattle.sheet.specs.Sheets.{smallest, check_number}
use Rattle.rule.specs.Trees.{rule_of}
use Rattle.watch.specs.Feeding.{progress, feed_answer}
use Rattle.watch.specs.Life.{rule_on}
use Rattle.watch.specs.Marking.{mark_span}
use Rattle.report.specs.Texts.{line_text}

-- Questions, each about a sheet that is given as bytes, with the answer that is expected.
pub data Case : Type 0 where
  -- check of the bytes
  checks : (sheet : List ℕ) (answer : ℕ) → Case
  -- the mark after these words of voices, and the line that is written of it
  hears : (sheet words : List ℕ) (low high : ℕ) (text : List ℕ) → Case
  -- the mark after these margins
  measures : (sheet : List ℕ) (frames : List ℤ) (low high : ℤ) → Case
  -- the mark after these frames of yes and no
  marks : (sheet : List ℕ) (frames : List Bool) (count : ℕ) (low high : Bool) → Case
  -- the rule's grade on a take of yes and no
  grades : (sheet : List ℕ) (frames : List Bool) (answer : Bool) → Case
  -- whether this fact is reached plain, and whether turned
  reads : (sheet : List ℕ) (fact : ℕ) (plain turned : Bool) → Case
  -- the flip of a margin
  flips : (of to : ℤ) → Case
  -- a feed of so many grades to a watch that counts so many frames, with a log of so many grades: accepted, or the refusal's number
  feeds : (sheet : List ℕ) (count log strip : ℕ) (accepts refuses : ℕ) → Case

-- the sheet that the bytes are
abbrev pub sheet_in : Verdict → Written
sheet_in (accepted w) = w
sheet_in (refused number row) = smallest

abbrev pub the_sheet : List ℕ → Written
the_sheet bytes = sheet_in (load_result bytes)

abbrev pub equal_bool : Bool → Bool → Bool
equal_bool true b = b
equal_bool false b = not b

abbrev pub equal_int : ℤ → ℤ → Bool
equal_int a b = int_le a b && int_le b a

abbrev pub answers : Result ℕ Refusal → (accepts refuses : ℕ) → Bool
answers (Ok n) accepts refuses = n == accepts && refuses == 0
answers (Err r) accepts refuses = number_of r == refuses

-- Does the definition give the answer of the line?
abbrev pub right : Case → Bool
right (checks sheet answer) = check_number (load_result sheet) == answer
right (hears sheet words low high text) =
    let s = mark_span voices (progress (the_sheet sheet) (length words)) (map word words) in
    (s.low.bits == low && s.high.bits == high) && same (line_text (length words) low high) text
right (measures sheet frames low high) =
    let s = mark_span margins (progress (the_sheet sheet) (length frames)) (map margin frames) in
    equal_int s.low.value low && equal_int s.high.value high
right (marks sheet frames count low high) =
    let s = mark_span yes_no (progress (the_sheet sheet) count) frames in
    equal_bool s.low low && equal_bool s.high high
right (grades sheet frames answer) = equal_bool (rule_on yes_no (the_sheet sheet) frames) answer
right (reads sheet fact plain turned) =
    equal_bool (reaches false (rule_of (the_sheet sheet)) fact) plain && equal_bool (reaches true (rule_of (the_sheet sheet)) fact) turned
right (flips of to) = equal_int (margins.flip (margin of)).value to
right (feeds sheet count log strip accepts refuses) = answers (feed_answer (progress (the_sheet sheet) count) log strip) accepts refuses

abbrev pub all_right : List Case → Bool
all_right [] = true
all_right (c ∷ cs) = right c && all_right cs

abbrev pub other_int : ℤ → ℤ
other_int (pos n) = negsuc n
other_int (negsuc n) = pos n

-- The same question with one part of its answer changed, for each part that its answer rests on.
abbrev pub changed : Case → List Case
changed (checks sheet answer) = checks sheet (suc answer) ∷ []
changed (hears sheet words low high text) = hears sheet words (suc low) high text ∷ hears sheet words low (suc high) text ∷ hears sheet words low high (0 ∷ text) ∷ []
changed (measures sheet frames low high) = measures sheet frames (other_int low) high ∷ measures sheet frames low (other_int high) ∷ []
changed (marks sheet frames count low high) = marks sheet frames count (not low) high ∷ marks sheet frames count low (not high) ∷ []
changed (grades sheet frames answer) = grades sheet frames (not answer) ∷ []
changed (reads sheet fact plain turned) = reads sheet fact (not plain) turned ∷ reads sheet fact plain (not turned) ∷ []
changed (flips of to) = flips of (other_int to) ∷ []
changed (feeds sheet count log strip accepts zero) = feeds sheet count log strip (suc accepts) 0 ∷ feeds sheet count log strip accepts 1 ∷ []
changed (feeds sheet count log strip accepts (suc n)) = feeds sheet count log strip accepts (suc (suc n)) ∷ []

abbrev pub none_right : List Case → Bool
none_right [] = true
none_right (c ∷ cs) = not (right c) && none_right cs

-- A feed that is refused accepts nothing, and its line says so.
abbrev pub nothing_accepted : Case → Bool
nothing_accepted (feeds sheet count log strip accepts (suc n)) = accepts == 0
nothing_accepted _ = true

-- no line would stand with a part of its answer changed
abbrev pub all_exact : List Case → Bool
all_exact [] = true
all_exact (c ∷ cs) = (nothing_accepted c && none_right (changed c)) && all_exact cs

-- hold 1 within 0 to 3
abbrev pub window : List ℕ
window = 1 ∷ 2 ∷ 1 ∷ 7 ∷ 1 ∷ 0 ∷ 0 ∷ 0 ∷ 3 ∷ 0 ∷ []

-- hold 0 of fact 0 then hold 0 of fact 1, and that within 0 to 1
abbrev pub one_then_other : List ℕ
one_then_other = 2 ∷ 3 ∷ 1 ∷ 1 ∷ 6 ∷ 0 ∷ 0 ∷ 0 ∷ 0 ∷ 1 ∷ 0 ∷ 0 ∷ 1 ∷ 0 ∷ []

abbrev pub one_then_other_in_time : List ℕ
one_then_other_in_time = 2 ∷ 4 ∷ 1 ∷ 1 ∷ 6 ∷ 7 ∷ 0 ∷ 0 ∷ 0 ∷ 0 ∷ 1 ∷ 0 ∷ 0 ∷ 1 ∷ 0 ∷ 0 ∷ 1 ∷ 2 ∷ []

-- hold 3 within 0 to 2, which nothing fits into
abbrev pub too_narrow : List ℕ
too_narrow = 1 ∷ 2 ∷ 1 ∷ 7 ∷ 3 ∷ 0 ∷ 0 ∷ 0 ∷ 2 ∷ 0 ∷ []

-- both of hold 0 and hold-off 0 on one fact
abbrev pub on_and_off : List ℕ
on_and_off = 1 ∷ 3 ∷ 1 ∷ 2 ∷ 3 ∷ 0 ∷ 0 ∷ 0 ∷ 0 ∷ 0 ∷ 0 ∷ 0 ∷ 1 ∷ 0 ∷ []

-- a then over two holds
abbrev pub after : (first second : ℕ) → List ℕ
after first second = 1 ∷ 3 ∷ 1 ∷ 1 ∷ 6 ∷ first ∷ 0 ∷ 0 ∷ second ∷ 0 ∷ 0 ∷ 0 ∷ 1 ∷ 0 ∷ []

-- an either of hold 0 and hold 1, as the rule and below a within
abbrev pub one_or_other : List ℕ
one_or_other = 1 ∷ 3 ∷ 1 ∷ 1 ∷ 4 ∷ 0 ∷ 0 ∷ 0 ∷ 1 ∷ 0 ∷ 0 ∷ 0 ∷ 1 ∷ 0 ∷ []

abbrev pub one_or_other_inside : List ℕ
one_or_other_inside = 1 ∷ 4 ∷ 1 ∷ 1 ∷ 4 ∷ 7 ∷ 0 ∷ 0 ∷ 0 ∷ 1 ∷ 0 ∷ 0 ∷ 0 ∷ 1 ∷ 0 ∷ 0 ∷ 1 ∷ 2 ∷ []

abbrev pub table : List Case
table =
    -- the marks of a take of voices, and their lines
    hears window (3 ∷ []) 0 65535 (codes "001 0000 ffff open\n")
    ∷ hears window (3 ∷ 1 ∷ []) 1 65535 (codes "002 0001 ffff open\n")
    ∷ hears window (3 ∷ 1 ∷ 6 ∷ []) 1 7 (codes "003 0001 0007 open\n")
    ∷ hears window (3 ∷ 1 ∷ 6 ∷ 6 ∷ []) 7 7 (codes "004 0007 0007 shut\n")
    -- and of margins: 5, 3, and -2
    ∷ measures window (pos 5 ∷ pos 3 ∷ []) (pos 3) (pos 2147483647)
    ∷ measures window (pos 5 ∷ pos 3 ∷ negsuc 1 ∷ []) (pos 3) (pos 3)
    -- the right side of a then starts on the frame after the left side's end
    ∷ grades one_then_other (true ∷ true ∷ true ∷ false ∷ []) false
    -- a task begun in a window does not outlive it
    ∷ grades one_then_other_in_time (false ∷ false ∷ true ∷ false ∷ []) false
    -- a window that nothing fits into is bottom before any frame
    ∷ marks too_narrow [] 0 false false
    ∷ measures too_narrow [] (negsuc 2147483647) (negsuc 2147483647)
    ∷ hears too_narrow [] 0 0 (codes "000 0000 0000 shut\n")
    -- a fact that is held on and off is reached both ways; unfed the mark is open, yet every take is no
    ∷ reads on_and_off 0 true true
    ∷ marks on_and_off [] 0 false true
    ∷ grades on_and_off (true ∷ []) false
    ∷ grades on_and_off (false ∷ []) false
    -- flips at the ends and in the middle
    ∷ flips (negsuc 2147483647) (pos 2147483647)
    ∷ flips (pos 0) (negsuc 0)
    -- only a then makes a length pass 255
    ∷ checks (after 127 127) 0
    ∷ checks (after 127 128) 1026
    -- an inner either has sides of equal length
    ∷ checks one_or_other 0
    ∷ checks one_or_other_inside 1538
    -- five frames in one strip, then one more, then none
    ∷ feeds window 0 4 5 4 0
    ∷ feeds window 4 4 1 0 9
    ∷ feeds window 4 4 0 0 0
    ∷ []
