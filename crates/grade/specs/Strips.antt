-- What carrying one strip of grades into another answers, and what it leaves in the second.
use Rattle.std.specs.Prelude.{◌≡◌, ℕ, cond, List, map, length, Ok, Err, MatchBool, Result, ◌==◌}
use Rattle.refusal.specs.declared.Refusal.{Refusal}
use Rattle.refusal.specs.declared.Refusal.TheVariants.{UnequalStrips}

-- on strips of one length every grade arrives translated; on others nothing changes
abbrev pub Carried : {V W : Type 0} → (V → W) → List V → List W → List W → Result (Unit {0}) Refusal → Type 0
Carried f from to after answer =
    MatchBool (length from == length to) ((answer ≡ Ok tt) × (after ≡ map f from)) ((answer ≡ Err UnequalStrips) × (after ≡ to))

-- a strip of one length is carried into one of the same, and into no other
abbrev pub carried_answer : (sent room : ℕ) → Result (Unit {0}) Refusal
carried_answer sent room = cond (sent == room) (Ok tt) (Err UnequalStrips)

-- into a strip of the same length every grade arrives translated; any other stays as it is
abbrev pub carried : {V W : Type 0} → (V → W) → List V → List W → List W
carried f from to = cond (length from == length to) (map f from) to
