-- What and, or and the complement do to one bit, and that a number is its bits.
use Rattle.std.specs.Prelude.{◌≡◌, ℕ, zero, suc, ◌-◌, ◌/◌, ◌%◌, ◌^◌, ◌<◌, Bool, not, ◌&&◌, ◌||◌, ◌==◌, bit_and, bit_or, nat_eq}
use Rattle.std.proofs.Common.{sym, ap, ◌∙◌, pow-suc, one-add, arith}
use Rattle.std.specs.Int.Bits.{and_step, or_step}
use Rattle.std.proofs.lemmas.Nat.{shr-shr, and_shr, or_shr}
use Rattle.std.proofs.lemmas.Bool.Decides.{nat_tests}

-- whether bit i of n is set
abbrev pub voice : ℕ → ℕ → Bool
voice i n = n / 2 ^ i % 2 == 1

voice_suc : (i n : ℕ) → voice (suc i) n ≡ voice i (n / 2)
voice_suc i n = ap (λ m. nat_eq (m % 2) 1) (rw one-add at (sym (shr-shr n 1 i)))

pub voice_and : (i a b : ℕ) → voice i (bit_and a b) ≡ (voice i a && voice i b)
voice_and i a b = rw (and_shr a b i, and_step (a / 2 ^ i) (b / 2 ^ i)) (grind (arith, nat_tests))

pub voice_or : (i a b : ℕ) → voice i (bit_or a b) ≡ (voice i a || voice i b)
voice_or i a b = rw (or_shr a b i, or_step (a / 2 ^ i) (b / 2 ^ i)) (grind (arith, nat_tests))

-- 2 ^ w - 1 has every bit below w set
pub voice_complement : (w i a : ℕ) → i < w → a < 2 ^ w → voice i (2 ^ w - 1 - a) ≡ not (voice i a)
voice_complement zero i a h f = absurd (omega arith)
voice_complement (suc w) zero a h f = let p = pow-suc 2 w in grind (arith, nat_tests)
voice_complement (suc w) (suc i) a h f =
    let p = pow-suc 2 w in
    let half : (2 ^ suc w - 1 - a) / 2 ≡ 2 ^ w - 1 - a / 2 = omega arith in
    voice_suc i (2 ^ suc w - 1 - a) ∙ ap (voice i) half ∙ voice_complement w i (a / 2) (omega arith) (omega arith) ∙ ap not (sym (voice_suc i a))

pub same_voices : (w a b : ℕ) → a < 2 ^ w → b < 2 ^ w → ((i : ℕ) → i < w → voice i a ≡ voice i b) → a ≡ b
same_voices zero a b f g h = omega arith
same_voices (suc w) a b f g h =
    let p = pow-suc 2 w in
    let halves : a / 2 ≡ b / 2 = same_voices w (a / 2) (b / 2) (omega arith) (omega arith) (λ i k. sym (voice_suc i a) ∙ h (suc i) (omega arith) ∙ voice_suc i b) in
    let first = h 0 (omega arith) in
    let lowest : a % 2 ≡ b % 2 = grind (arith, nat_tests) in
    omega arith
