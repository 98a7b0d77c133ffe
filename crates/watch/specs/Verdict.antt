-- A complete take of yes and no: kept or broken, by the published meaning.
use Rattle.std.specs.Prelude.{◌≡◌, Bool, true, ◌↔◌, List, Ok, Err, Result}
use Rattle.refusal.specs.declared.Refusal.{Refusal}
use Rattle.grade.specs.YesNo.{yes_no}
use Rattle.sheet.specs.Sheets.{rule_length}
use Rattle.rule.specs.Meaning.{RowMet, rule_row}
use Rattle.watch.specs.declared.outcome.Mark.{Mark}
use Rattle.watch.specs.Feeding.{Progress, take_length}
use Rattle.watch.specs.Marking.{log_trace}

-- the frames in the log meet the rule, on frames 0 to its length
abbrev pub Meets : Progress → List Bool → Type 0
Meets p log = RowMet (log_trace yes_no p.sheet.facts log) p.sheet (rule_row p.sheet) 0 (rule_length p.sheet)

-- Once the take is complete, both ends of a mark are yes exactly where it meets the rule.
abbrev pub Settles : Progress → List Bool → Result (Mark Bool) Refusal → Type 0
Settles p log (Ok m) = p.count ≡ take_length p.sheet → ((m.span.low ≡ true) × (m.span.high ≡ true)) ↔ Meets p log
Settles p log (Err r) = Unit {0}
