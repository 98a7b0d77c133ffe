-- The words that a listing is made of.
use Rattle.std.specs.Prelude.{◌≡◌, ℕ, zero, suc, Bool, true, false, List, [], ◌++◌, length, codes, decimal, Decides}
use Rattle.sheet.specs.Rules.{Written, row_at, length_of}
use Rattle.sheet.specs.Sheets.{rule_length}
use Rattle.sheet.specs.Sides.{OneSided}
use Rattle.sheet.specs.Loading.{Verdict, accepted, refused}
use Rattle.report.specs.Texts.{notice_text}
use Rattle.sheet.specs.declared.row.Row.{Row}
use Rattle.sheet.specs.declared.row.Row.TheVariants.{Always, Hold, HoldOff, Both, Either, Not, Then, Within}

-- what a row asks for
abbrev pub task_text : Row → List ℕ
task_text Always = codes "always"
task_text (Hold duration fact) = codes "hold " ++ (decimal duration ++ (codes " of fact " ++ decimal fact))
task_text (HoldOff duration fact) = codes "hold-off " ++ (decimal duration ++ (codes " of fact " ++ decimal fact))
task_text (Both left right) = codes "both row " ++ (decimal left ++ (codes " and row " ++ decimal right))
task_text (Either left right) = codes "either row " ++ (decimal left ++ (codes " or row " ++ decimal right))
task_text (Not row) = codes "not row " ++ decimal row
task_text (Then left right) = codes "row " ++ (decimal left ++ (codes " then row " ++ decimal right))
task_text (Within from to row) = codes "within " ++ (decimal from ++ (codes " to " ++ (decimal to ++ (codes " of row " ++ decimal row))))

-- a line for each row
abbrev pub row_line : ℕ → Row → ℕ → List ℕ
row_line k row length = decimal k ++ (codes "  " ++ (task_text row ++ (codes ", length " ++ (decimal length ++ codes "\n"))))

-- and one in front
abbrev pub sides_text : Bool → List ℕ
sides_text true = codes "one-sided"
sides_text false = codes "not one-sided"

abbrev pub head_line : ℕ → ℕ → ℕ → Bool → List ℕ
head_line facts rows length sided = codes "facts " ++ (decimal facts ++ (codes ", rows " ++ (decimal rows ++ (codes ", length " ++ (decimal length ++ (codes ", " ++ (sides_text sided ++ codes "\n")))))))

-- the lines of the first n rows
abbrev pub lines_of : (ℕ → Row) → (ℕ → ℕ) → ℕ → List ℕ
lines_of row len zero = []
lines_of row len (suc n) = lines_of row len n ++ row_line n (row n) (len n)

abbrev pub listing_text : Written → Bool → List ℕ
listing_text w sided = head_line w.facts (length w.rows) (rule_length w) sided ++ lines_of (row_at w.rows) (length_of (row_at w.rows)) (length w.rows)

-- what is told of bytes, by what they come to
abbrev pub Tells : Verdict → List ℕ → Type 0
Tells (accepted w) text = (sided : Bool) × Decides sided (OneSided w) × (text ≡ listing_text w sided)
Tells (refused number row) text = text ≡ notice_text number row
