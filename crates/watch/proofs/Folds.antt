-- A fold over a window is one over two windows, the one after the other.
use Rattle.std.proofs.Common.{◌≡◌, ℕ, zero, suc, ◌+◌, ◌-◌, ◌<◌, ◌≤◌, sym, refl, ap, ◌∙◌, ap₂, add-zero, zero-add, arith}
use Rattle.grade.specs.Lattice.{Lattice}
use Rattle.formula.specs.Grades.{meet_over, join_over}
use Rattle.watch.specs.Windows.{Folding, over}

-- the folds of a grade, of values that are the same place for place
module _ {V : Type 0} (l : Lattice V) where
  pub meets : (a b : ℕ → V) → ((t : ℕ) → a t ≡ b t) → (s n : ℕ) → over l.top l.meet a s n ≡ meet_over l b s n
  meets a b same s zero = refl
  meets a b same s (suc n) = ap₂ l.meet (same s) (meets a b same (suc s) n)

  pub joins : (a b : ℕ → V) (s s' n : ℕ) → ((i : ℕ) → i < n → a (s + i) ≡ b (s' + i)) → over l.bottom l.join a s n ≡ join_over l b s' n
  joins a b s s' zero same = refl
  joins a b s s' (suc n) same =
      ap₂ l.join
      (ap a (sym (add-zero s)) ∙ same 0 (omega arith) ∙ ap b (add-zero s'))
      (joins a b (suc s) (suc s') n (λ i lt. ap a (omega arith) ∙ same (suc i) (omega arith) ∙ ap b (omega arith)))

module _ {V : Type 0} (none : V) (combine : V → V → V) where
  -- it rests on the values in the window
  pub over_same : (a b : ℕ → V) (s s' n : ℕ) → ((i : ℕ) → i < n → a (s + i) ≡ b (s' + i)) → over none combine a s n ≡ over none combine b s' n
  over_same a b s s' zero same = refl
  over_same a b s s' (suc n) same =
      ap₂ combine
      (ap a (sym (add-zero s)) ∙ same 0 (omega arith) ∙ ap b (add-zero s'))
      (over_same a b (suc s) (suc s') n (λ i lt. ap a (omega arith) ∙ same (suc i) (omega arith) ∙ ap b (omega arith)))

  -- one value more before it
  pub over_more : (at : ℕ → V) (start j end : ℕ) → j < end → combine (at (start + j)) (over none combine at (start + (j + 1)) (end - (j + 1))) ≡ over none combine at (start + j) (end - j)
  over_more at start j end less =
      let next : start + (j + 1) ≡ suc (start + j) = omega arith in
      let size : suc (end - (j + 1)) ≡ end - j = omega arith in
      ap (λ i. combine (at (start + j)) (over none combine at i (end - (j + 1)))) next ∙ ap (over none combine at (start + j)) size

  module _ (law : Folding none combine) (at : ℕ → V) where
    -- one window after the other
    pub over_split : (m s n : ℕ) → over none combine at s (m + n) ≡ combine (over none combine at s m) (over none combine at (s + m) n)
    over_split zero s n =
        ap₂ (over none combine at) (sym (add-zero s)) (zero-add n) ∙ sym (law.none_left _)
    over_split (suc m) s n =
        let size : suc m + n ≡ suc (m + n) = omega arith in
        let next : suc s + m ≡ s + suc m = omega arith in
        ap (over none combine at s) size
        ∙ ap (combine (at s)) (over_split m (suc s) n ∙ ap (λ i. combine (over none combine at (suc s) m) (over none combine at i n)) next)
        ∙ sym (law.assoc _ _ _)

    -- one value more after it
    pub over_next : (s n : ℕ) → combine (over none combine at s n) (at (s + n)) ≡ over none combine at s (n + 1)
    over_next s n = ap (combine (over none combine at s n)) (sym (law.none_right (at (s + n)))) ∙ sym (over_split n s 1)

    -- the rest of a block, and a beginning of what comes next
    pub over_joined : (start j width : ℕ) → j ≤ width → combine (over none combine at (start + j) (width - j)) (over none combine at (start + width) j) ≡ over none combine at (start + j) width
    over_joined start j width within =
        let next : start + width ≡ start + j + (width - j) = omega arith in
        let size : width - j + j ≡ width = omega arith in
        ap (λ i. combine (over none combine at (start + j) (width - j)) (over none combine at i j)) next
        ∙ sym (over_split (width - j) (start + j) j) ∙ ap (over none combine at (start + j)) size
