-- A sheet's refusal always fits its notice.
use Rattle.std.proofs.Common.{◌≡◌, ℕ, ◌<◌, ◌≤◌, List, length, Ok, Err, Result, ◌∙◌, arith}
use Rattle.refusal.specs.declared.Refusal.{Refusal}
use Rattle.refusal.specs.declared.Refusal.TheVariants.{Sizes, Kind, Operand, Length, Unnamed, Inner, ShortLog, BrokenStrip, TakeComplete, ShortChart, UnequalStrips, Place}
use Rattle.refusal.specs.Numbers.{number_of}
use Rattle.report.specs.Texts.{notice_text}
use Rattle.report.specs.Places.{WrittenInto}
use Rattle.report.proofs.Filled.{just_filled}
use Rattle.sheet.specs.Conditions.{RefusedFor}

-- the row that a refusal names is one of the 32
pub small_row : (bytes : List ℕ) (r : Refusal) (k : ℕ) → RefusedFor bytes r k → k ≤ 99
small_row bytes Sizes k h = omega (arith, h.0)
small_row bytes Kind k (at, wrong) = omega (arith, at.among, at.sized.few_rows)
small_row bytes Operand k (at, kind, wrong) = omega (arith, at.among, at.sized.few_rows)
small_row bytes Length k (at, kind, operands, wrong) = omega (arith, at.among, at.sized.few_rows)
small_row bytes Unnamed k (all, among, wrong, before) = omega (arith, among, all.sized.few_rows)
small_row bytes Inner k (all, names, among, wrong, before) = omega (arith, among, all.sized.few_rows)
small_row bytes ShortLog k h = absurd h
small_row bytes BrokenStrip k h = absurd h
small_row bytes TakeComplete k h = absurd h
small_row bytes ShortChart k h = absurd h
small_row bytes UnequalStrips k h = absurd h
small_row bytes Place k h = absurd h

pub small_number : (r : Refusal) → number_of r ≤ 99
small_number Sizes = omega arith
small_number Kind = omega arith
small_number Operand = omega arith
small_number Length = omega arith
small_number Unnamed = omega arith
small_number Inner = omega arith
small_number ShortLog = omega arith
small_number BrokenStrip = omega arith
small_number TakeComplete = omega arith
small_number ShortChart = omega arith
small_number UnequalStrips = omega arith
small_number Place = omega arith

-- a place of just its size holds the notice and nothing else
pub just_noticed : (number row : ℕ) (before after : List ℕ) (r : Result ℕ Refusal) → length before ≡ 14 → number ≤ 99 → row ≤ 99 → WrittenInto (notice_text number row) ((14 ≤ length before) × (number ≤ 99) × (row ≤ 99)) before after r → after ≡ notice_text number row
just_noticed number row before after (Ok n) size low lower w = let fits : length before ≤ 14 = omega arith in w.2 ∙ just_filled (notice_text number row) before fits
just_noticed number row before after (Err e) size low lower w = absurd (w.0 (omega arith, low, lower))

-- and one of a row that has no notice stays as it was
pub not_noticed : (number row : ℕ) (before after : List ℕ) (r : Result ℕ Refusal) → 99 < row → WrittenInto (notice_text number row) ((14 ≤ length before) × (number ≤ 99) × (row ≤ 99)) before after r → after ≡ before
not_noticed number row before after (Ok n) over w = absurd (omega (arith, over, w.0.2))
not_noticed number row before after (Err e) over w = w.2
