-- A frame of voices as bytes: a word for each fact, its low byte first.
use Rattle.std.specs.Prelude.{◌≡◌, ℕ, zero, suc, ◌+◌, ◌*◌, ◌<◌, List, [], ◌∷◌, ◌++◌, drop, slice_index, slice_index_or}
use Rattle.grade.specs.Voices.{word}
use Rattle.grade.specs.declared.voices.Voices.{Voices}

abbrev pub word_at : List ℕ → ℕ → Voices
word_at bytes f = word (slice_index bytes (2 * f) + 256 * slice_index bytes (2 * f + 1))

-- the first n facts of the frame are the words of the bytes
abbrev pub Decoded : List ℕ → List Voices → ℕ → Type 0
Decoded bytes frame n = (f : ℕ) (d : Voices) → f < n → slice_index_or frame f d ≡ word_at bytes f

-- the words of the first n facts
abbrev pub words : List ℕ → ℕ → List Voices
words bytes zero = []
words bytes (suc n) = words bytes n ++ word_at bytes n ∷ []

-- a frame whose first n facts are these words, and the others as before
abbrev pub decoded : List ℕ → List Voices → ℕ → List Voices
decoded bytes before n = words bytes n ++ drop n before
