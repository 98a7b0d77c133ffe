-- How a line is put together, and how long it is.
use Rattle.std.proofs.Common.{◌≡◌, ℕ, Bool, true, false, cond, eqb, List, ◌++◌, length, codes, refl}
use borrow.Rule.Slice.PartMut.{put_mid}
use Rattle.report.specs.Texts.{three_digits, four_hex, state_text, line_text}

-- a line from its form and its four parts
pub line_made : (count low high : ℕ) (c l h s : List ℕ) → c ≡ three_digits count → l ≡ four_hex low → h ≡ four_hex high → s ≡ state_text low high → put_mid 14 4 (put_mid 9 4 (put_mid 4 4 (put_mid 0 3 (codes "000 0000 0000 open\n") c) l) h) s ≡ line_text count low high
unfolding line_text
line_made count low high c l h s p q o t = rw (p, q, o, t)

state_size : (b : Bool) → length (cond b (codes "shut") (codes "open") ++ codes "\n") ≡ 5
state_size true = refl
state_size false = refl

pub line_size : (count low high : ℕ) → length (line_text count low high) ≡ 19
unfolding line_text
line_size count low high = rw (state_size (eqb low high))
