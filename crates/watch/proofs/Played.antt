-- The played life is a life, and what the promise says of it.
use Rattle.std.proofs.Common.{ℕ, List, [], ◌∷◌, Ok, Err, refl, arith}
use Rattle.refusal.specs.declared.Refusal.TheVariants.{TakeComplete}
use Rattle.grade.specs.Voices.{word, voices}
use Rattle.grade.specs.declared.voices.Voices.{Voices}
use Rattle.grade.specs.VoicesLaws.{voices_lawful}
use Rattle.grade.specs.HeardLaws.{heard_carries}
use Rattle.sheet.specs.Bytes.{bytes_of}
use Rattle.sheet.specs.Rules.{Written, Keeps}
use Rattle.sheet.specs.Loading.{accepted}
use Rattle.sheet.proofs.Outcome.{Outcome, is_sheet, outcome_of}
use Rattle.watch.specs.Feeding.{progress}
use Rattle.watch.specs.Life.{Event, marked, Life, begins, feeds, marks}
use Rattle.watch.specs.Played.{window, log_of, chart, mark_after, PlayedLife}
use Rattle.watch.proofs.Answered.{after, answered}
use Rattle.watch.proofs.Living.{whole_life}

kept_by : {bytes : List ℕ} {w : Written} → Outcome bytes (accepted w) → Keeps w
kept_by (is_sheet w same keeps) = keeps

window_keeps : Keeps window
window_keeps = kept_by (outcome_of (bytes_of window))

abbrev marked_at : (n a b c d : ℕ) {es : List (Event Voices)} → Life voices window es n (log_of a b c d) → Life voices window (marked chart (Ok (mark_after n (log_of a b c d))) ∷ es) n (log_of a b c d)
marked_at n a b c d life = marks life chart (after voices (progress window n) (log_of a b c d) chart (omega arith)) (Ok (mark_after n (log_of a b c d))) (answered voices (progress window n) (log_of a b c d) chart (omega arith) voices_lawful refl)

pub played_life : PlayedLife
played_life =
    let one = marked_at 1 3 8 8 8 (feeds (begins (log_of 8 8 8 8)) (word 3 ∷ []) (Ok 1) refl) in
    let two = marked_at 2 3 1 8 8 (feeds one (word 1 ∷ []) (Ok 1) refl) in
    let three = marked_at 3 3 1 6 8 (feeds two (word 6 ∷ []) (Ok 1) refl) in
    let four = marked_at 4 3 1 6 6 (feeds three (word 6 ∷ []) (Ok 1) refl) in
    let last = feeds four (word 9 ∷ []) (Err TakeComplete) refl in
    record {
      lived = last;
      frames = refl;
      refused = refl;
      promised = whole_life voices_lawful window window_keeps (heard_carries 0 (omega arith)) last 4 refl;
      first = refl;
      second = refl;
      third = refl;
      fourth = refl;
    }
