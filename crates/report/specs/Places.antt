-- What becomes of a lent place that a text is to be written into.
use Rattle.std.specs.Prelude.{◌≡◌, ℕ, ◌≤◌, List, ◌++◌, length, drop, Result, MatchResult}
use Rattle.refusal.specs.declared.Refusal.{Refusal}
use Rattle.refusal.specs.declared.Refusal.TheVariants.{Place}

-- Ok says that it was granted: the answer is the text's length, the text stands at the front, and the rest is as before.
-- Err says that it was not: the refusal is Place, and nothing is changed.
abbrev pub WrittenInto : List ℕ → Type 0 → List ℕ → List ℕ → Result ℕ Refusal → Type 0
WrittenInto text granted before after r =
    MatchResult r
    (λ n. granted × (n ≡ length text) × (after ≡ text ++ drop (length text) before))
    (λ e. (granted → ⊥) × (e ≡ Place) × (after ≡ before))

-- where a text is granted a place that has room for it, there is one outcome
abbrev pub OneOutcome : Type 0
OneOutcome =
    (text before one other : List ℕ) (r q : Result ℕ Refusal) (room : ℕ)
    → WrittenInto text (room ≤ length before) before one r → WrittenInto text (room ≤ length before) before other q → (r ≡ q) × (one ≡ other)
