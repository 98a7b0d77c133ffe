-- A life that was played: one hold in a window, over voices.
use Rattle.std.specs.Prelude.{◌≡◌, ℕ, ◌&&◌, List, [], ◌∷◌, replicate, Ok, Err}
use Rattle.refusal.specs.declared.Refusal.TheVariants.{TakeComplete}
use Rattle.grade.specs.Lattice.{Lattice}
use Rattle.grade.specs.Spans.{unknown}
use Rattle.grade.specs.Voices.{word, voices, heard}
use Rattle.grade.specs.YesNo.{yes_no}
use Rattle.grade.specs.declared.voices.Voices.{Voices}
use Rattle.grade.specs.declared.span.Span.{Span}
use Rattle.sheet.specs.Rules.{Written}
use Rattle.sheet.specs.declared.row.Row.TheVariants.{Hold, Within}
use Rattle.watch.specs.declared.outcome.Mark.{Mark}
use Rattle.watch.specs.Feeding.{Progress, progress}
use Rattle.watch.specs.Marking.{mark_span}
use Rattle.watch.specs.Life.{Event, fed, marked, Life, accepted, refusals, WholeLife}

-- the answer of a mark
abbrev pub mark_of : {V : Type 0} → Lattice V → Progress → List V → Mark V
mark_of l p log = let s = mark_span l p log in record { span = s; settled = l.le s.low s.high && l.le s.high s.low }

-- fact 0 holds for two frames in a row, somewhere in frames 0 to 3
abbrev pub window : Written
window = record { facts = 1; rows = Hold 1 0 ∷ Within 0 3 0 ∷ [] }

-- a log that held anything, and how it fills
abbrev pub log_of : (a b c d : ℕ) → List Voices
log_of a b c d = word a ∷ word b ∷ word c ∷ word d ∷ []

abbrev pub chart : List (Span Voices)
chart = replicate 8 (unknown voices)

abbrev pub mark_after : ℕ → List Voices → Mark Voices
mark_after n log = mark_of voices (progress window n) log

-- The words 3, 1, 6 and 6 are fed one by one with a mark after each; then a fifth frame, which is refused. The newest first.
abbrev pub played : List (Event Voices)
played =
    fed (word 9 ∷ []) (Err TakeComplete)
    ∷ marked chart (Ok (mark_after 4 (log_of 3 1 6 6))) ∷ fed (word 6 ∷ []) (Ok 1)
    ∷ marked chart (Ok (mark_after 3 (log_of 3 1 6 8))) ∷ fed (word 6 ∷ []) (Ok 1)
    ∷ marked chart (Ok (mark_after 2 (log_of 3 1 8 8))) ∷ fed (word 1 ∷ []) (Ok 1)
    ∷ marked chart (Ok (mark_after 1 (log_of 3 8 8 8))) ∷ fed (word 3 ∷ []) (Ok 1)
    ∷ []

-- the two ends of a mark's span, as words
abbrev pub ends : Mark Voices → List ℕ
ends m = m.span.low.bits ∷ m.span.high.bits ∷ []

-- It is a life, with these frames accepted and this refusal; the promise holds of it, here for the translation to voice 0; and
-- these are its marks.
pub record PlayedLife : Type 0 where
  pub lived : Life voices window played 4 (log_of 3 1 6 6)
  pub frames : accepted window played ≡ log_of 3 1 6 6
  pub refused : refusals played ≡ TakeComplete ∷ []
  pub promised : WholeLife voices yes_no (heard 0) window 4 played
  pub first : ends (mark_after 1 (log_of 3 8 8 8)) ≡ 0 ∷ 65535 ∷ []
  pub second : ends (mark_after 2 (log_of 3 1 8 8)) ≡ 1 ∷ 65535 ∷ []
  pub third : ends (mark_after 3 (log_of 3 1 6 8)) ≡ 1 ∷ 7 ∷ []
  pub fourth : ends (mark_after 4 (log_of 3 1 6 6)) ≡ 7 ∷ 7 ∷ []
