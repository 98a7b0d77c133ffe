-- What meets and joins over many frames say of yes and no. Assumes nothing.
use Rattle.std.proofs.Common.{◌≡◌, ℕ, zero, suc, ◌+◌, ◌<◌, ◌≤◌, Bool, true, ◌⊎◌, refl, subst, inl, inr, arith}
use mathlib.Core.Bool.{false≢true}
use Rattle.std.proofs.lemmas.Bool.{and_parts, and_from, or_left, or_right, or_cases}
use Rattle.std.proofs.lemmas.Bool.Decides.{leb_tells}
use Rattle.formula.specs.Grades.{meet_over, join_over}
use Rattle.grade.specs.YesNo.{yes_no}

-- a frame from s on is s, or comes later
first_or_later : (P : ℕ → Type 0) (s t : ℕ) → s ≤ t → P s → (suc s ≤ t → P t) → P t
first_or_later P s t from here later = elim (leb_tells (suc s) t) [ inl h ↦ later h.1 | inr h ↦ subst P (omega (arith, h.1)) here ]

pub all_of : (at : ℕ → Bool) (s n : ℕ) → meet_over yes_no at s n ≡ true → (t : ℕ) → s ≤ t → t < s + n → at t ≡ true
all_of at s zero e t from below = let none : ⊥ = omega arith in absurd none
all_of at s (suc n) e t from below =
    first_or_later (λ u. at u ≡ true) s t from (and_parts _ _ e).0 (λ later. all_of at (suc s) n (and_parts (at s) _ e).1 t later (omega arith))

pub all_in : (at : ℕ → Bool) (s n : ℕ) → ((t : ℕ) → s ≤ t → t < s + n → at t ≡ true) → meet_over yes_no at s n ≡ true
all_in at s zero h = refl
all_in at s (suc n) h = and_from _ _ (h s (omega arith) (omega arith)) (all_in at (suc s) n (λ t from below. h t (omega arith) (omega arith)))

pub some_of : (at : ℕ → Bool) (s n : ℕ) → join_over yes_no at s n ≡ true → (t : ℕ) × (s ≤ t) × (t < s + n) × (at t ≡ true)
some_of at s zero e = absurd (false≢true e)
some_of at s (suc n) e = found (or_cases _ _ e) (some_of at (suc s) n)
  where
    found : (at s ≡ true) ⊎ (join_over yes_no at (suc s) n ≡ true)
        → (join_over yes_no at (suc s) n ≡ true → (t : ℕ) × (suc s ≤ t) × (t < suc s + n) × (at t ≡ true))
        → (t : ℕ) × (s ≤ t) × (t < s + suc n) × (at t ≡ true)
    found (inl here) more = (s, omega arith, omega arith, here)
    found (inr later) more = let m = more later in (m.0, omega arith, omega arith, m.3)

pub some_in : (at : ℕ → Bool) (s n t : ℕ) → s ≤ t → t < s + n → at t ≡ true → join_over yes_no at s n ≡ true
some_in at s zero t from below e = let none : ⊥ = omega arith in absurd none
some_in at s (suc n) t from below e =
    elim (leb_tells (suc s) t) [
      | inl h ↦ or_right _ _ (some_in at (suc s) n t h.1 (omega arith) e)
      | inr h ↦ or_left _ _ (subst (λ (u : ℕ). at u ≡ true) (omega (arith, h.1)) e)
    ]
