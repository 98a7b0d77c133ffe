-- A margin is its value, and a word of voices is its bits: the fact that they fit has one proof.
use Rattle.std.specs.Prelude.{◌≡◌, ◌^◌, ◌<◌}
use mathlib.Core.HLevel.{is_prop→PathP}
use Rattle.std.proofs.Math.Bridge.{le_prop}
use Rattle.std.specs.Int.Signed.{mag}
use Rattle.grade.specs.declared.margin.Margin.{Margin}
use Rattle.grade.specs.declared.voices.Voices.{Voices as Word}

pub same_margin : (a b : Margin) → a.value ≡ b.value → a ≡ b
same_margin a b e = λ i. record { value = e i; fits = is_prop→PathP (λ j. mag (e j) < 2 ^ 31) (λ j. le_prop) a.fits b.fits i }

pub same_word : (a b : Word) → a.bits ≡ b.bits → a ≡ b
same_word a b e = λ i. record { bits = e i; fits = is_prop→PathP (λ j. e j < 2 ^ 16) (λ j. le_prop) a.fits b.fits i }
