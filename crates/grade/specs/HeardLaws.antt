-- One voice of sixteen, heard alone, is a translation into yes and no.
use Rattle.std.specs.Prelude.{◌≡◌, ℕ, ◌-◌, ◌%◌, ◌^◌, ◌<◌, false, not, bit_and, bit_or, nat_eq}
use Rattle.std.proofs.Common.{ap, ◌∙◌, mod-eq_of_lt, lt_of_le_of_lt, arith, lit<}
use Rattle.std.proofs.Math.Nat.{zero-div}
use Rattle.std.proofs.lemmas.Nat.{and_le_l, or_lt}
use Rattle.grade.specs.Translations.{Carries}
use Rattle.grade.specs.Voices.{heard, voices}
use Rattle.grade.specs.YesNo.{yes_no}
use Rattle.grade.specs.declared.voices.Voices.{Voices as Word}
use Rattle.grade.specs.VoiceBits.{voice, voice_and, voice_or, voice_complement}

-- the operations leave sixteen bits, so that `word` cuts nothing off
pub meet_bits : (x y : Word) → (voices.meet x y).bits ≡ bit_and x.bits y.bits
meet_bits x y = mod-eq_of_lt (lt_of_le_of_lt (and_le_l x.bits y.bits) x.fits)

join_bits : (x y : Word) → (voices.join x y).bits ≡ bit_or x.bits y.bits
join_bits x y = mod-eq_of_lt (or_lt 16 x.bits y.bits x.fits y.fits)

flip_bits : (x : Word) → (voices.flip x).bits ≡ 65535 - x.bits
flip_bits x = mod-eq_of_lt (omega arith)

silent : (i : ℕ) → voice i 0 ≡ false
silent i = ap (λ m. nat_eq (m % 2) 1) (zero-div (2 ^ i))

pub heard_carries : (i : ℕ) → i < 16 → Carries voices yes_no (heard i)
heard_carries i h = record {
  top = voice_complement 16 i 0 h (lit< tt) ∙ ap not (silent i);
  bottom = silent i;
  meet = λ x y. ap (voice i) (meet_bits x y) ∙ voice_and i x.bits y.bits;
  join = λ x y. ap (voice i) (join_bits x y) ∙ voice_or i x.bits y.bits;
  flip = λ x. ap (voice i) (flip_bits x) ∙ voice_complement 16 i x.bits h x.fits;
}
