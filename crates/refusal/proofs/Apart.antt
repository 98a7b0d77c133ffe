-- No two refusals have one number: each is found again by its number in the list of all.
use mathlib.Core.Path.{◌≡◌, refl, sym, ap, ◌∙◌}
use mathlib.Core.List.{List, [], ◌∷◌}
use lib.ListN.{get_or}
use Rattle.refusal.specs.declared.Refusal.{Refusal}
use Rattle.refusal.specs.declared.Refusal.TheVariants.{Sizes, Kind, Operand, Length, Unnamed, Inner, ShortLog, BrokenStrip, TakeComplete, ShortChart, UnequalStrips, Place}
use Rattle.refusal.specs.Numbers.{number_of}

-- at each place the refusal of that number; there is none of number 0
abbrev numbered : List Refusal
numbered = Sizes ∷ Sizes ∷ Kind ∷ Operand ∷ Length ∷ Unnamed ∷ Inner ∷ ShortLog ∷ BrokenStrip ∷ TakeComplete ∷ ShortChart ∷ UnequalStrips ∷ Place ∷ []

found : (r : Refusal) → get_or numbered (number_of r) Sizes ≡ r
found Sizes = refl
found Kind = refl
found Operand = refl
found Length = refl
found Unnamed = refl
found Inner = refl
found ShortLog = refl
found BrokenStrip = refl
found TakeComplete = refl
found ShortChart = refl
found UnequalStrips = refl
found Place = refl

pub same_number : (r s : Refusal) → number_of r ≡ number_of s → r ≡ s
same_number r s e = sym (found r) ∙ ap (λ n. get_or numbered n Sizes) e ∙ found s
