-- How far a watch has come, and what feeding it does.
use Rattle.std.specs.Prelude.{ℕ, ◌+◌, ◌-◌, ◌*◌, ◌/◌, ◌%◌, min, cond, ◌&&◌, List, ◌++◌, take, drop, Ok, Err, Result, ◌==◌, nat_le, nat_lt}
use Rattle.refusal.specs.declared.Refusal.{Refusal}
use Rattle.refusal.specs.declared.Refusal.TheVariants.{ShortLog, BrokenStrip, TakeComplete}
use Rattle.sheet.specs.Rules.{Written}
use Rattle.sheet.specs.Sheets.{sheet_of, rule_length}
use Rattle.watch.specs.declared.record.Watch.{Watch}

-- the sheet, and how many frames are accepted
pub record Progress : Type 0 where
  pub sheet : Written
  pub count : ℕ

abbrev pub progress : Written → ℕ → Progress
progress w n = record { sheet = w; count = n }

abbrev pub progress_of : Watch → Progress
progress_of w = progress (sheet_of w.sheet) w.accepted

abbrev pub begun : Written → Progress
begun w = progress w 0

-- the frames of a take
abbrev pub take_length : Written → ℕ
take_length w = rule_length w + 1

-- What a feed answers, by the sizes of the log and the strip: how many frames it accepts, or why none.
abbrev pub feed_answer : Progress → (log strip : ℕ) → Result ℕ Refusal
feed_answer p log strip =
    cond (nat_lt log (p.sheet.facts * take_length p.sheet)) (Err ShortLog)
    (cond (strip % p.sheet.facts == 0)
    (cond (nat_le (take_length p.sheet) p.count && nat_lt 0 strip) (Err TakeComplete) (Ok (min (strip / p.sheet.facts) (take_length p.sheet - p.count))))
    (Err BrokenStrip))

-- the frames that an answer accepts
abbrev pub accepted_by : Result ℕ Refusal → ℕ
accepted_by (Ok n) = n
accepted_by (Err r) = 0

abbrev pub advanced : Progress → ℕ → Progress
advanced p n = progress p.sheet (p.count + n)

-- n frames of the strip stand in the log after those that were there, and the rest of it is as before
abbrev pub logged : {V : Type 0} → Progress → ℕ → List V → List V → List V
logged p n strip log = take (p.count * p.sheet.facts) log ++ (take (n * p.sheet.facts) strip ++ drop ((p.count + n) * p.sheet.facts) log)
