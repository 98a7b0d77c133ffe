-- What is in a list of rows or facts: in one that is written out, and in one of lower numbers.
use Rattle.std.proofs.Common.{◌≡◌, ℕ, ◌<◌, ◌≤◌, true, false, List, [], ◌∷◌, refl, arith}
use Rattle.std.proofs.lemmas.Bool.Decides.{nat_tests}
use Rattle.sheet.specs.declared.row.Row.{Row}
use Rattle.sheet.specs.declared.row.Row.TheVariants.{Always, Hold, HoldOff, Both, Either, Not, Then, Within}
use Rattle.sheet.specs.Rows.{named_by, made_inner_by}
use Rattle.sheet.specs.Rules.{has, all_under}

-- alone, as the left of two, or as the right
pub has_one : (x : ℕ) → has (x ∷ []) x ≡ true
has_one x = grind (arith, nat_tests)

pub has_left : (x y : ℕ) → has (x ∷ y ∷ []) x ≡ true
has_left x y = grind (arith, nat_tests)

pub has_right : (x y : ℕ) → has (x ∷ y ∷ []) y ≡ true
has_right x y = grind (arith, nat_tests)

pub only : (x i : ℕ) → has (x ∷ []) i ≡ true → x ≡ i
only x i e = grind (arith, nat_tests)

-- no list of lower numbers has j
pub has_under : (n j : ℕ) (xs : List ℕ) → all_under n xs ≡ true → n ≤ j → has xs j ≡ false
has_under n j [] h le = refl
has_under n j (x ∷ xs) h le = grind (arith, nat_tests, has_under n j xs)

-- so what is in one is lower
pub has_lower : (n : ℕ) (xs : List ℕ) (i : ℕ) → all_under n xs ≡ true → has xs i ≡ true → i < n
has_lower n [] i h e = grind arith
has_lower n (x ∷ xs) i h e = grind (arith, nat_tests, has_lower n xs i)

pub all_under_more : (m n : ℕ) (xs : List ℕ) → m ≤ n → all_under m xs ≡ true → all_under n xs ≡ true
all_under_more m n [] le h = refl
all_under_more m n (x ∷ xs) le h = grind (arith, nat_tests, all_under_more m n xs)

-- a row that is made inner is named
pub made_named : (r : Row) (i : ℕ) → has (made_inner_by r) i ≡ true → has (named_by r) i ≡ true
made_named Always i e = e
made_named (Hold duration fact) i e = e
made_named (HoldOff duration fact) i e = e
made_named (Both left right) i e = cc
made_named (Either left right) i e = cc
made_named (Not row) i e = cc
made_named (Then left right) i e = grind arith
made_named (Within from to row) i e = e
