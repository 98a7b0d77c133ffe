-- What becomes of one frame of voices: it is fed, the watch is marked, and the mark is told.
use Rattle.std.specs.Prelude.{ℕ, List, length, Some, None, Ok, Err, Option, Result}
use Rattle.refusal.specs.declared.Refusal.{Refusal}
use Rattle.grade.specs.Voices.{voices}
use Rattle.grade.specs.declared.voices.Voices.{Voices}
use Rattle.report.specs.Texts.{line_text}
use Rattle.watch.specs.Feeding.{Progress, advanced, logged}
use Rattle.watch.specs.Marking.{mark_span, mark_refusal}

-- the line of a mark
abbrev pub line_after : Progress → List Voices → List ℕ
line_after p log = line_text p.count (mark_span voices p log).low.bits (mark_span voices p log).high.bits

-- a mark is told by its line, or by why there is none
abbrev pub told : Option Refusal → List ℕ → Result (List ℕ) Refusal
told None text = Ok text
told (Some r) text = Err r

-- a frame that the feed refuses is told by its refusal, any other by the mark after it
abbrev pub step_answer : Result ℕ Refusal → Progress → (log frame : List Voices) → (chart : ℕ) → Result (List ℕ) Refusal
step_answer (Err e) p log frame chart = Err e
step_answer (Ok n) p log frame chart =
    let grades = logged p n frame log in told (mark_refusal (advanced p n) (length grades) chart) (line_after (advanced p n) grades)
