-- The sweep finds exactly the inner rows.
use Rattle.std.proofs.Common.{◌≡◌, ℕ, zero, suc, ◌<◌, ◌≤◌, Bool, true, false, ◌&&◌, ◌||◌, List, get_or, sym, refl, ap, ◌∙◌, ⊎_elim, arith}
use mathlib.Core.Path.{fun_ext}
use mathlib.Core.Bool.{or-false}
use Rattle.std.proofs.lemmas.Bool.{or_cases, or_left, or_right, and_parts, and_from, cases_eq, false≢true}
use Rattle.sheet.specs.declared.row.Row.{Row}
use Rattle.sheet.specs.Rows.{named_by, made_inner_by}
use Rattle.sheet.specs.Rules.{has, all_under, IsInner, made, passed}
use Rattle.sheet.specs.Loading.{passes, inner_from, is_inner}
use Rattle.sheet.proofs.Has.{has_under, made_named}

module _ (row : ℕ → Row) (count : ℕ) (lower : (k : ℕ) → k < count → all_under k (named_by (row k)) ≡ true) where
  -- the rows up to j do not pass it on to row j
  pub inner_settled : (n j : ℕ) (found : ℕ → Bool) → n ≤ count → n ≤ suc j → inner_from row n found j ≡ found j
  inner_settled zero j found few le = refl
  inner_settled (suc m) j found few le =
      inner_settled m j (λ k. found k || passes (row m) (found m) k) (omega arith) (omega arith)
      ∙ ap (λ t. found j || t) (not_passed (found m)) ∙ or-false (found j)
    where
      not_passed : (inner : Bool) → passes (row m) inner j ≡ false
      not_passed inner = let unnamed = has_under m j (named_by (row m)) (lower m few) (omega arith) in grind (arith, made_named (row m) j)

module _ (row : ℕ → Row) (count : ℕ) where
  found_from : (n : ℕ) (found : ℕ → Bool) → n ≤ count → ((j : ℕ) → found j ≡ true → IsInner row count j) → (k : ℕ) → inner_from row n found k ≡ true → IsInner row count k
  found_from zero found few so k e = so k e
  found_from (suc m) found few so k e = found_from m (λ j. found j || passes (row m) (found m) j) (omega arith) more k e
    where
      more : (j : ℕ) → (found j || passes (row m) (found m) j) ≡ true → IsInner row count j
      more j t =
          ⊎_elim (so j)
          (λ p. ⊎_elim (made m few) (λ b. let both = and_parts (found m) (has (named_by (row m)) j) b in passed m few (so m both.0) both.1) (or_cases (has (made_inner_by (row m)) j) (found m && has (named_by (row m)) j) p))
          (or_cases (found j) (passes (row m) (found m) j) t)

  pub inner_sound : (k : ℕ) → is_inner row count k ≡ true → IsInner row count k
  inner_sound = found_from count (λ _. false) (omega arith) (λ j e. absurd (false≢true e))

  -- one row more is passed: row i, given as the code has it
  pub inner_more : (i k : ℕ) (flags next : List Bool) (r : Row) (at : ℕ) → k ≡ suc i → r ≡ row i → at ≡ i →
      ((j : ℕ) → get_or next j false ≡ (get_or flags j false || passes r (get_or flags at false) j)) → inner_from row k (λ j. get_or flags j false) ≡ inner_from row i (λ j. get_or next j false)
  inner_more i k flags next r at up same here raised =
      ap (λ n. inner_from row n (λ j. get_or flags j false)) up
      ∙ ap (inner_from row i) (fun_ext (λ j. (λ t. get_or flags j false || passes (sym same t) (get_or flags (sym here t) false) j) ∙ sym (raised j)))

  kept : (n : ℕ) (found : ℕ → Bool) (k : ℕ) → found k ≡ true → inner_from row n found k ≡ true
  kept zero found k e = e
  kept (suc m) found k e = kept m (λ j. found j || passes (row m) (found m) j) k (grind arith)

  -- the sweep as it comes to row j
  stage : (n j : ℕ) (found : ℕ → Bool) → j < n → (f : ℕ → Bool) × (inner_from row n found ≡ inner_from row (suc j) f)
  stage zero j found h = absurd (omega arith)
  stage (suc m) j found h =
      ⊎_elim
      (λ same. (found, ap (λ i. inner_from row (suc i) found) (sym same)))
      (λ other. stage m j (λ k. found k || passes (row m) (found m) k) (omega (arith, other)))
      (cases_eq j m)

  module _ (lower : (k : ℕ) → k < count → all_under k (named_by (row k)) ≡ true) where
    passed_on : (j k : ℕ) → j < count → passes (row j) (is_inner row count j) k ≡ true → is_inner row count k ≡ true
    passed_on j k h e =
        let (f, at) = stage count j (λ _. false) h in
        let here = sym (inner_settled row count lower (suc j) j f h (omega arith)) ∙ sym (ap (λ g. g j) at) in
        ap (λ g. g k) at ∙ kept j (λ i. f i || passes (row j) (f j) i) k (or_right (f k) (passes (row j) (f j) k) (ap (λ t. passes (row j) t k) here ∙ e))

    pub inner_complete : {k : ℕ} → IsInner row count k → is_inner row count k ≡ true
    inner_complete {k} (made j h e) = passed_on j k h (or_left (has (made_inner_by (row j)) k) _ e)
    inner_complete {k} (passed j h i e) = passed_on j k h (or_right (has (made_inner_by (row j)) k) (is_inner row count j && has (named_by (row j)) k) (and_from (is_inner row count j) (has (named_by (row j)) k) (inner_complete i) e))
