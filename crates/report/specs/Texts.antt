-- The two texts of fixed form, byte by byte.
use Rattle.std.specs.Prelude.{◌≡◌, ℕ, zero, suc, ◌+◌, ◌-◌, ◌*◌, ◌/◌, ◌%◌, ◌^◌, ◌<◌, ◌≤◌, cond, List, [], ◌∷◌, ◌++◌, length, codes, ◌==◌, nat_lt}

-- the digit of a value below 16: 0 to 9, then a to f
abbrev pub digit : ℕ → ℕ
digit d = cond (nat_lt d 10) (48 + d) (87 + d)

-- the last digits of a number in a base, in so many places
abbrev pub digits_in : (base places n : ℕ) → List ℕ
digits_in base zero n = []
digits_in base (suc k) n = digits_in base k (n / base) ++ digit (n % base) ∷ []

abbrev pub two_digits : ℕ → List ℕ
two_digits n = digit (n / 10) ∷ digit (n % 10) ∷ []

abbrev pub three_digits : ℕ → List ℕ
three_digits n = digit (n / 100) ∷ two_digits (n % 100)

abbrev pub two_hex : ℕ → List ℕ
two_hex n = digit (n / 16) ∷ digit (n % 16) ∷ []

abbrev pub four_hex : ℕ → List ℕ
four_hex n = two_hex (n / 256) ++ two_hex (n % 256)

-- `refused NN RR`, the number and the row
abbrev pub notice_text : ℕ → ℕ → List ℕ
notice_text number row = codes "refused " ++ (two_digits number ++ (codes " " ++ (two_digits row ++ codes "\n")))

-- two ends that are equal are shut
abbrev pub state_text : ℕ → ℕ → List ℕ
state_text low high = cond (low == high) (codes "shut") (codes "open")

-- `CCC LLLL HHHH open`, or `shut`: the count, the low and the high end. No abbrev, so that goals show it by its name
unfoldable pub line_text : ℕ → ℕ → ℕ → List ℕ
line_text count low high = three_digits count ++ (codes " " ++ (four_hex low ++ (codes " " ++ (four_hex high ++ (codes " " ++ (state_text low high ++ codes "\n"))))))

-- the texts at some values
abbrev pub Examples : Type 0
Examples =
    (notice_text 4 2 ≡ codes "refused 04 02\n")
    × (line_text 2 1 65535 ≡ codes "002 0001 ffff open\n")
    × (line_text 4 7 7 ≡ codes "004 0007 0007 shut\n")

-- each text has one size
abbrev pub Sizes : Type 0
Sizes = ((number row : ℕ) → length (notice_text number row) ≡ 14) × ((count low high : ℕ) → length (line_text count low high) ≡ 19)

-- what a digit is worth, and a row of digits in a base
abbrev pub digit_value : ℕ → ℕ
digit_value c = cond (nat_lt c 58) (c - 48) (c - 87)

abbrev pub value_from : ℕ → ℕ → List ℕ → ℕ
value_from base v [] = v
value_from base v (c ∷ cs) = value_from base (v * base + digit_value c) cs

-- the digits of a number that has room are worth that number
abbrev pub ReadBack : Type 0
ReadBack =
    ((n : ℕ) → n < 100 → value_from 10 0 (two_digits n) ≡ n)
    × ((n : ℕ) → n < 1000 → value_from 10 0 (three_digits n) ≡ n)
    × ((n : ℕ) → n < 65536 → value_from 16 0 (four_hex n) ≡ n)

-- the rows of digits that the texts have are the last digits in their base
abbrev pub SameDigits : Type 0
SameDigits =
    ((n : ℕ) → n < 100 → digits_in 10 2 n ≡ two_digits n)
    × ((n : ℕ) → n < 1000 → digits_in 10 3 n ≡ three_digits n)
    × ((n : ℕ) → n < 256 → digits_in 16 2 n ≡ two_hex n)
    × ((n : ℕ) → n < 65536 → digits_in 16 4 n ≡ four_hex n)

-- the last digits of a number that has room are worth that number, in each base up to 16
abbrev pub DigitsReadBack : Type 0
DigitsReadBack = (base places n : ℕ) → 2 ≤ base → base ≤ 16 → n < base ^ places → value_from base 0 (digits_in base places n) ≡ n
