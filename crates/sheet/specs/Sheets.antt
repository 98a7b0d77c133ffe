-- What a sheet record says, and what load answers.
use Rattle.std.specs.Prelude.{ℕ, ◌+◌, ◌-◌, ◌*◌, [], ◌∷◌, length, take, Ok, Err, Result}
use Rattle.refusal.specs.Numbers.{number_of}
use Rattle.sheet.specs.declared.fault.Fault.{Fault}
use Rattle.sheet.specs.declared.record.Sheet.{Sheet}
use Rattle.sheet.specs.declared.row.Row.TheVariants.{Always}
use Rattle.sheet.specs.Rules.{Written, row_at, length_of}
use Rattle.sheet.specs.Loading.{Verdict, accepted, refused}

abbrev pub sheet_of : Sheet → Written
sheet_of s = record { facts = s.facts; rows = take s.count s.rows }

abbrev pub smallest : Written
smallest = record { facts = 1; rows = Always ∷ [] }

-- the length of the rule, which is the last row
abbrev pub rule_length : Written → ℕ
rule_length w = length_of (row_at w.rows) (length w.rows - 1)

-- the sheet that was read, or why there is none
abbrev pub judged_as : Result Sheet Fault → Verdict
judged_as (Ok s) = accepted (sheet_of s)
judged_as (Err f) = refused (number_of f.refusal) f.row

-- load's answer, with the record as it is then
abbrev pub verdict_of : Result (Unit {0}) Fault → Sheet → Verdict
verdict_of (Ok done) s = accepted (sheet_of s)
verdict_of (Err f) s = refused (number_of f.refusal) f.row

-- what check answers
abbrev pub check_number : Verdict → ℕ
check_number (accepted w) = 0
check_number (refused number row) = 256 * number + row
