-- Voices as grades: words of sixteen bits, each bit a yes or a no of its own.
use Rattle.std.specs.Prelude.{◌≡◌, ℕ, ◌-◌, ◌/◌, ◌%◌, ◌^◌, ◌<◌, Bool, true, Decides, ◌==◌, bit_and, bit_or}
use Rattle.std.proofs.Common.{mod-lt, lit<}
use Rattle.grade.specs.Lattice.{Lattice}
use Rattle.grade.specs.declared.voices.Voices.{Voices as Word}

-- the lowest sixteen bits of n
abbrev pub word : ℕ → Word
word n = record { bits = n % 2 ^ 16; fits = mod-lt n (lit< tt) }

abbrev pub voices : Lattice Word
voices = record {
  top = word 65535;
  bottom = word 0;
  le = λ x y. (bit_and x.bits y.bits == x.bits);
  meet = λ x y. word (bit_and x.bits y.bits);
  join = λ x y. word (bit_or x.bits y.bits);
  flip = λ x. word (65535 - x.bits);
}

-- yes where bit i of the word is set
abbrev pub heard : ℕ → Word → Bool
heard i w = w.bits / 2 ^ i % 2 == 1

-- every voice of x is one of y's
abbrev pub Among : Word → Word → Type 0
Among x y = (i : ℕ) → i < 16 → heard i x ≡ true → heard i y ≡ true

-- which is what the order asks
abbrev pub OrderByVoices : Type 0
OrderByVoices = (x y : Word) → Decides (voices.le x y) (Among x y)
