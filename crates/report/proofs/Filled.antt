-- A place that a text was written into.
use Rattle.std.proofs.Common.{◌≡◌, ℕ, ◌≤◌, List, ◌++◌, length, drop, Ok, Err, sym, ap, ◌∙◌, append-nil}
use Rattle.std.proofs.lemmas.List.{drop_all}
use Rattle.report.specs.Places.{OneOutcome}

-- a place of just its text's size holds the text and nothing else
pub just_filled : (text before : List ℕ) → length before ≤ length text → text ++ drop (length text) before ≡ text
just_filled text before h = ap (λ rest. text ++ rest) (drop_all (length text) before h) ∙ append-nil text

pub one_outcome : OneOutcome
one_outcome text before one other (Ok n) (Ok m) room h k = (ap Ok (h.1 ∙ sym k.1), h.2 ∙ sym k.2)
one_outcome text before one other (Ok n) (Err q) room h k = absurd (k.0 h.0)
one_outcome text before one other (Err r) (Ok m) room h k = absurd (h.0 k.0)
one_outcome text before one other (Err r) (Err q) room h k = (ap Err (h.1 ∙ sym k.1), h.2 ∙ sym k.2)
