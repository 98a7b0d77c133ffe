-- Digits of a number: what the texts call them, and that they read back as the number that they were made from.
use Rattle.std.proofs.Common.{◌≡◌, ℕ, zero, suc, ◌+◌, ◌-◌, ◌*◌, length, drop, set, append_assoc, ◌/◌, ◌%◌, ◌^◌, ◌<◌, ◌≤◌, List, [], ◌∷◌, ◌++◌, refl, ap, sym, ◌∙◌, arith}
use Rattle.std.proofs.lemmas.Bool.Decides.{nat_tests}
use Rattle.std.proofs.lemmas.Nat.{div_below}
use Rattle.std.proofs.lemmas.List.{drop-set}
use Rattle.std.proofs.Math.Nat.{div-add-mod, mul_comm, pow-suc, pow-zero}
use Rattle.report.specs.Texts.{digit, digit_value, value_from, digits_in, two_digits, three_digits, two_hex, four_hex, SameDigits, DigitsReadBack, ReadBack}

two_digits_are : (n : ℕ) → n < 100 → digits_in 10 2 n ≡ two_digits n
two_digits_are n h = let tens : n / 10 % 10 ≡ n / 10 = omega arith in rw tens

pub three_digits_are : (n : ℕ) → n < 1000 → digits_in 10 3 n ≡ three_digits n
three_digits_are n h =
    let hundreds : n / 10 / 10 % 10 ≡ n / 100 = omega arith in
    let tens : n / 10 % 10 ≡ n % 100 / 10 = omega arith in
    let ones : n % 10 ≡ n % 100 % 10 = omega arith in
    (λ i. digit (hundreds i) ∷ digit (tens i) ∷ digit (ones i) ∷ [])

two_hex_are : (n : ℕ) → n < 256 → digits_in 16 2 n ≡ two_hex n
two_hex_are n h = let first : n / 16 % 16 ≡ n / 16 = omega arith in rw first

pub four_hex_are : (n : ℕ) → n < 65536 → digits_in 16 4 n ≡ four_hex n
four_hex_are n h =
    let a : n / 16 / 16 / 16 % 16 ≡ n / 256 / 16 = omega arith in
    let b : n / 16 / 16 % 16 ≡ n / 256 % 16 = omega arith in
    let c : n / 16 % 16 ≡ n % 256 / 16 = omega arith in
    let d : n % 16 ≡ n % 256 % 16 = omega arith in
    (λ i. digit (a i) ∷ digit (b i) ∷ digit (c i) ∷ digit (d i) ∷ [])

worth : (d : ℕ) → d < 16 → digit_value (digit d) ≡ d
worth d h = grind (arith, nat_tests)

value_more : (base v : ℕ) (cs : List ℕ) (c : ℕ) → value_from base v (cs ++ c ∷ []) ≡ value_from base v cs * base + digit_value c
value_more base v [] c = refl
value_more base v (x ∷ xs) c = value_more base (v * base + digit_value x) xs c

pub digits_back : DigitsReadBack
digits_back base zero n low high h = let one = pow-zero base in omega (arith, one)
digits_back base (suc k) n low high h =
    let front = digits_back base k (n / base) low high (div_below n base (base ^ k) (omega arith) (rw pow-suc at h)) in
    let last : n % base < base = omega arith in
    value_more base 0 (digits_in base k (n / base)) (digit (n % base))
    ∙ ap (λ v. v * base + digit_value (digit (n % base))) front
    ∙ ap (λ d. n / base * base + d) (worth (n % base) (omega arith))
    ∙ ap (λ v. v + n % base) (mul_comm (n / base) base)
    ∙ div-add-mod n base

-- one more digit in front of those that are there, when n is the number that is left
pub digit_more : (base p n d : ℕ) (whole digits : List ℕ) → 0 < p → p ≤ length digits → d ≡ digit (n % base) → whole ≡ digits_in base p n ++ drop p digits → whole ≡ digits_in base (p - 1) (n / base) ++ drop (p - 1) (set digits (p - 1) d)
digit_more base zero n d whole digits some inside is so_far = absurd (omega arith)
digit_more base (suc k) n d whole digits some inside is so_far =
    let back : suc k - 1 ≡ k = omega arith in
    let next : suc k ≡ k + 1 = omega arith in
    so_far
    ∙ append_assoc (digits_in base k (n / base)) (digit (n % base) ∷ []) (drop (suc k) digits)
    ∙ (λ i. digits_in base k (n / base) ++ sym is i ∷ drop (next i) digits)
    ∙ ap (λ l. digits_in base k (n / base) ++ l) (sym (drop-set digits k d (omega arith)))
    ∙ (λ i. digits_in base (sym back i) (n / base) ++ drop (sym back i) (set digits (sym back i) d))

pub same_digits : SameDigits
same_digits = (two_digits_are, three_digits_are, two_hex_are, four_hex_are)

pub read_back : ReadBack
read_back = (
  (λ n h. ap (value_from 10 0) (sym (two_digits_are n h)) ∙ digits_back 10 2 n (omega arith) (omega arith) h),
  (λ n h. ap (value_from 10 0) (sym (three_digits_are n h)) ∙ digits_back 10 3 n (omega arith) (omega arith) h),
  (λ n h. ap (value_from 16 0) (sym (four_hex_are n h)) ∙ digits_back 16 4 n (omega arith) (omega arith) h),
)
