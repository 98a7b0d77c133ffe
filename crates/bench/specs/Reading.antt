-- What is read from the input, and what is left of it.
use Rattle.std.specs.Prelude.{◌≡◌, ℕ, ◌*◌, ◌<◌, ◌≤◌, List, [], ◌∷◌, length, take, drop, Some, Option, IfSome}
use Rattle.std.specs.Io.KnownBytes.{Consumes, IsAtEnd}
use Rattle.grade.specs.declared.voices.Voices.{Voices}
use Rattle.bench.specs.Words.{Decoded, decoded}

-- The bytes are the next of the input and no more than so many, and fewer only where it then ends.
pub record ReadsUpTo (most : ℕ) (before after : Option (List ℕ)) (bytes : List ℕ) : Type 0 where
  pub bound : length bytes ≤ most
  pub taken : Consumes before after bytes
  pub ended : length bytes < most → IsAtEnd after

-- the bytes of the sheet that an input begins with: as many as its first byte says, or as many as there are
abbrev pub sheet_in : List ℕ → List ℕ
sheet_in [] = []
sheet_in (size ∷ rest) = take size rest

-- and what comes after them
abbrev pub after_sheet : List ℕ → List ℕ
after_sheet [] = []
after_sheet (size ∷ rest) = drop size rest

-- The bytes are those of a sheet, where the input's are known, and no more than 255 in any case.
pub record ReadsSheet (before after : Option (List ℕ)) (bytes : List ℕ) : Type 0 where
  pub bound : length bytes ≤ 255
  pub sheet : IfSome before (λ input. (bytes ≡ sheet_in input) × (after ≡ Some (after_sheet input)))

-- The input ends before so many bytes have come.
pub record FallsShort (wanted : ℕ) (before after : Option (List ℕ)) : Type 0 where
  pub bytes : List ℕ
  pub short : length bytes < wanted
  pub taken : Consumes before after bytes
  pub ended : IsAtEnd after

-- The next bytes of the input are a whole frame, which is their words.
pub record ReadsFrame (facts : ℕ) (before after : Option (List ℕ)) (frame : List Voices) : Type 0 where
  pub bytes : List ℕ
  pub size : length bytes ≡ 2 * facts
  pub taken : Consumes before after bytes
  pub each : Decoded bytes frame facts
  pub whole : frame ≡ decoded bytes [] facts
