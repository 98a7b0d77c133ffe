-- The number of each refusal. Every promise that names a refusal means it by this number.
use Rattle.std.specs.Prelude.{ℕ}
use Rattle.refusal.specs.declared.Refusal.{Refusal}
use Rattle.refusal.specs.declared.Refusal.TheVariants.{Sizes, Kind, Operand, Length, Unnamed, Inner, ShortLog, BrokenStrip, TakeComplete, ShortChart, UnequalStrips, Place}

abbrev pub number_of : Refusal → ℕ
-- of a sheet's bytes
number_of Sizes = 1
number_of Kind = 2
number_of Operand = 3
number_of Length = 4
number_of Unnamed = 5
number_of Inner = 6
-- of a watch's memory and strips
number_of ShortLog = 7
number_of BrokenStrip = 8
number_of TakeComplete = 9
number_of ShortChart = 10
-- of a carry
number_of UnequalStrips = 11
-- of a text
number_of Place = 12
