-- The grade over no and yes is the published meaning. Assumes nothing.
use Rattle.std.proofs.Common.{◌≡◌, ℕ, suc, ◌+◌, ◌-◌, ◌<◌, ◌≤◌, max, Bool, true, false, not as opposite, ◌⊎◌, ◌↔◌, refl, ap, subst, inl, inr, true≢false, arith}
use Rattle.std.proofs.lemmas.Bool.{and_parts, and_from, or_left, or_right, or_cases, not-true, both_ways}
use Rattle.std.proofs.lemmas.Bool.Decides.{leb_tells}
use Rattle.formula.specs.Formula.{Formula, always, hold, hold_off, both, either, not, then, within, horizon}
use Rattle.formula.specs.Grades.{Trace, grade}
use Rattle.grade.specs.YesNo.{yes_no}
use Rattle.formula.specs.Published.{Met, Stands}
use Rattle.formula.specs.Laws.{PublishedMeaning}
use Rattle.formula.proofs.YesNo.{all_of, all_in, some_of, some_in}

-- The formula fits into s to e, and its grade is yes.
abbrev Graded : Trace Bool → Formula → ℕ → ℕ → Type 0
Graded w φ s e = (s + horizon φ ≤ e) × (grade yes_no w φ s ≡ true)

-- One statement for both places: a formula that stands inside, and any other that fits, is met exactly when it is so graded.
abbrev Means : Trace Bool → Bool → Formula → Type 0
Means w inside φ = (s e : ℕ) → Stands inside φ → s ≤ e → (inside ≡ false → s + horizon φ ≤ e) → Met w φ s e ↔ Graded w φ s e

no_grade : (g : Bool) → (g ≡ true → ⊥) → opposite g ≡ true
no_grade true h = absurd (h refl)
no_grade false h = refl

-- inside, the sides of an `either` have one horizon, so that the whole fits where one of them does
whole_fits : (inside : Bool) (s e a b c : ℕ) → (inside ≡ true → a ≡ b) → (inside ≡ false → s + max a b ≤ e) → (c ≡ a) ⊎ (c ≡ b) → s + c ≤ e → s + max a b ≤ e
whole_fits true s e a b c same fits one h = omega (arith, same refl)
whole_fits false s e a b c same fits one h = fits refl

module _ (w : Trace Bool) where
  always_means : (inside : Bool) → Means w inside always
  always_means inside s e stands ordered fits = (λ met. (omega arith, refl), λ graded. tt)

  hold_means : (inside : Bool) (d f : ℕ) → Means w inside (hold d f)
  hold_means inside d f s e stands ordered fits = (
    λ met. (met.0, all_in (λ t. w t f) s (suc d) (λ t from below. met.1 t from (omega arith))),
    λ graded. (graded.0, λ t from to. all_of (λ t. w t f) s (suc d) graded.1 t from (omega arith)),
  )

  hold_off_means : (inside : Bool) (d f : ℕ) → Means w inside (hold_off d f)
  hold_off_means inside d f s e stands ordered fits = (
    λ met. (met.0, all_in (λ t. opposite (w t f)) s (suc d) (λ t from below. ap opposite (met.1 t from (omega arith)))),
    λ graded. (graded.0, λ t from to. not-true _ (all_of (λ t. opposite (w t f)) s (suc d) graded.1 t from (omega arith))),
  )

  both_means : (inside : Bool) (φ ψ : Formula) → Means w inside φ → Means w inside ψ → Means w inside (both φ ψ)
  both_means inside φ ψ hφ hψ s e stands ordered fits = (towards, back)
    where
      left : Met w φ s e ↔ Graded w φ s e
      left = hφ s e stands.0 ordered (λ o. omega (arith, fits o))

      right : Met w ψ s e ↔ Graded w ψ s e
      right = hψ s e stands.1 ordered (λ o. omega (arith, fits o))

      towards : Met w (both φ ψ) s e → Graded w (both φ ψ) s e
      towards met = let a = left.0 met.0 in let b = right.0 met.1 in (omega arith, and_from _ _ a.1 b.1)

      back : Graded w (both φ ψ) s e → Met w (both φ ψ) s e
      back graded = let parts = and_parts _ _ graded.1 in (left.1 (omega arith, parts.0), right.1 (omega arith, parts.1))

  either_means : (inside : Bool) (φ ψ : Formula) → Means w inside φ → Means w inside ψ → Means w inside (either φ ψ)
  either_means inside φ ψ hφ hψ s e stands ordered fits = (towards, back)
    where
      left : Met w φ s e ↔ Graded w φ s e
      left = hφ s e stands.1 ordered (λ o. omega (arith, fits o))

      right : Met w ψ s e ↔ Graded w ψ s e
      right = hψ s e stands.2 ordered (λ o. omega (arith, fits o))

      towards : Met w φ s e ⊎ Met w ψ s e → Graded w (either φ ψ) s e
      towards (inl met) = let a = left.0 met in (whole_fits inside s e _ _ _ stands.0 fits (inl refl) a.0, or_left _ _ a.1)
      towards (inr met) = let b = right.0 met in (whole_fits inside s e _ _ _ stands.0 fits (inr refl) b.0, or_right _ _ b.1)

      back : Graded w (either φ ψ) s e → Met w φ s e ⊎ Met w ψ s e
      back graded = elim (or_cases _ _ graded.1) [ inl g ↦ inl (left.1 (omega arith, g)) | inr g ↦ inr (right.1 (omega arith, g)) ]

  -- no `not` stands inside, so it fits
  not_means : (inside : Bool) (φ : Formula) → Means w inside φ → Means w inside (not φ)
  not_means inside φ hφ s e stands ordered fits =
      let part = hφ s e stands.1 ordered fits in (
        λ unmet. (fits stands.0, no_grade _ (λ g. unmet (part.1 (fits stands.0, g)))),
        λ graded met. both_ways _ (not-true _ graded.1) (part.0 met).1,
      )

  -- the first part stands inside, so it is first met at its horizon
  then_means : (inside : Bool) (φ ψ : Formula) → Means w true φ → Means w inside ψ → Means w inside (then φ ψ)
  then_means inside φ ψ hφ hψ s e stands ordered fits = (towards, back)
    where
      first : (t : ℕ) → s ≤ t → Met w φ s t ↔ Graded w φ s t
      first t from = hφ s t stands.0 from (λ o. absurd (true≢false o))

      second : s + horizon φ < e → Met w ψ (s + horizon φ + 1) e ↔ Graded w ψ (s + horizon φ + 1) e
      second room = hψ (s + horizon φ + 1) e stands.1 (omega arith) (λ o. omega (arith, fits o))

      towards : Met w (then φ ψ) s e → Graded w (then φ ψ) s e
      towards met =
          let a = (first met.0 met.1).0 met.3 in
          let ends : met.0 ≡ s + horizon φ = elim (leb_tells met.0 (s + horizon φ)) [
            | inl h ↦ omega (arith, h.1, a.0)
            | inr h ↦ absurd (met.4 (s + horizon φ) (omega arith) h.1 ((first (s + horizon φ) (omega arith)).1 (omega arith, a.1)))
          ] in
          let b = (second (omega (arith, met.2))).0 (subst (λ (t : ℕ). Met w ψ (t + 1) e) ends met.5) in
          (omega (arith, b.0), and_from _ _ a.1 b.1)

      back : Graded w (then φ ψ) s e → Met w (then φ ψ) s e
      back graded = (
        s + horizon φ,
        omega arith,
        omega (arith, graded.0),
        (first (s + horizon φ) (omega arith)).1 (omega arith, (and_parts _ _ graded.1).0),
        (λ u from before met. let a = (first u from).0 met in omega (arith, a.0)),
        (second (omega (arith, graded.0))).1 (omega (arith, graded.0), (and_parts (grade yes_no w φ s) _ graded.1).1),
      )

  -- the starts from which the part ends in the window are those at which it is met up to the window's end
  within_means : (inside : Bool) (a b : ℕ) (φ : Formula) → Means w true φ → Means w inside (within a b φ)
  within_means inside a b φ hφ s e stands ordered fits = (towards, back)
    where
      part : (t : ℕ) → t ≤ s + b → Met w φ t (s + b) ↔ Graded w φ t (s + b)
      part t to = hφ t (s + b) stands to (λ o. absurd (true≢false o))

      towards : Met w (within a b φ) s e → Graded w (within a b φ) s e
      towards met =
          let start = met.1 in
          let p = (part start.0 start.2).0 start.3 in
          (met.0, some_in (λ t. grade yes_no w φ t) (s + a) (b + 1 - (a + horizon φ)) start.0 start.1 (omega (arith, p.0)) p.1)

      back : Graded w (within a b φ) s e → Met w (within a b φ) s e
      back graded =
          let start = some_of (λ t. grade yes_no w φ t) (s + a) (b + 1 - (a + horizon φ)) graded.1 in
          let room : start.0 + horizon φ ≤ s + b = omega (arith, start.1, start.2) in
          (graded.0, (start.0, start.1, omega arith, (part start.0 (omega arith)).1 (room, start.3)))

  means : (inside : Bool) (φ : Formula) → Means w inside φ
  means inside always = always_means inside
  means inside (hold d f) = hold_means inside d f
  means inside (hold_off d f) = hold_off_means inside d f
  means inside (both φ ψ) = both_means inside φ ψ (means inside φ) (means inside ψ)
  means inside (either φ ψ) = either_means inside φ ψ (means inside φ) (means inside ψ)
  means inside (not φ) = not_means inside φ (means inside φ)
  means inside (then φ ψ) = then_means inside φ ψ (means true φ) (means inside ψ)
  means inside (within a b φ) = within_means inside a b φ (means true φ)

pub published : PublishedMeaning
published = record {
  inner = λ w φ s e proper ordered.
      let m = means w true φ s e proper ordered (λ o. absurd (true≢false o)) in
      (λ met. let g = m.0 met in (omega arith, g.1), λ graded. m.1 (omega arith, graded.1));
  outer = λ w φ s e proper ordered fits.
      let m = means w false φ s e proper ordered (λ _. omega arith) in
      (λ met. (m.0 met).1, λ graded. m.1 (omega arith, graded));
  whole = λ w φ proper.
      let m = means w false φ 0 (horizon φ) proper (omega arith) (λ _. omega arith) in
      (λ met. (m.0 met).1, λ graded. m.1 (omega arith, graded));
}
