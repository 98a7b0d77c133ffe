-- What is known of a take encloses whatever it may become, and narrows as it is fed.
use Rattle.std.proofs.Common.{◌≡◌, ℕ, ◌<◌, ◌≤◌, Bool, true, false, cond, ltb, sym, refl, ap, ◌∙◌, subst, ⊎_elim, arith}
use mathlib.Core.Path.{fun_ext}
use Rattle.std.proofs.lemmas.Bool.{ltb-true, ltb-false, lt-ltb, le-ltb, and_from, cond-false, cases_lt}
use Rattle.grade.specs.Lattice.{Lattice, Lawful}
use Rattle.formula.specs.Grades.{Trace}
use Rattle.grade.specs.Spans.{exact, unknown, encloses, lies_within}
use Rattle.formula.specs.Known.{known, Agree}
use Rattle.formula.specs.Laws.{Narrowing}
use Rattle.formula.proofs.Enclose.{enclosure}

known_fed : {V : Type 0} (l : Lattice V) (n : ℕ) (w : Trace V) (t f : ℕ) → t < n → known l n w t f ≡ exact (w t f)
known_fed l n w t f fed = ap (λ (b : Bool). cond b (exact (w t f)) (unknown l)) (lt-ltb t n fed)

-- what is known of a take rests on its first frames alone
pub known_by : {V : Type 0} (l : Lattice V) (n : ℕ) (a b : Trace V) → Agree n a b → known l n a ≡ known l n b
known_by l n a b same = fun_ext (λ t. fun_ext (λ f. ⊎_elim
    (λ early. known_fed l n a t f early ∙ ap exact (same t f early) ∙ sym (known_fed l n b t f early))
    (λ late. cond-false (ltb t n) (exact (a t f)) (unknown l) (le-ltb t n late) ∙ sym (cond-false (ltb t n) (exact (b t f)) (unknown l) (le-ltb t n late)))
    (cases_lt t n)))

module _ {V : Type 0} {l : Lattice V} (law : Lawful l) where
  exact_encloses : (v : V) → encloses l (exact v) v ≡ true
  exact_encloses v = and_from _ _ (law.reflexive v) (law.reflexive v)

  unknown_encloses : (v : V) → encloses l (unknown l) v ≡ true
  unknown_encloses v = and_from _ _ (law.least v) (law.greatest v)

  -- a fed frame holds what every such take has there, and an unfed one leaves all open
  around : (n : ℕ) (w w' : Trace V) → Agree n w w' → (t f : ℕ) → encloses l (known l n w t f) (w' t f) ≡ true
  around n w w' agree t f = go (ltb t n) (ltb-true t n)
    where
      go : (fed : Bool) → (fed ≡ true → t < n) → encloses l (cond fed (exact (w t f)) (unknown l)) (w' t f) ≡ true
      go true h = subst (λ (v : V). encloses l (exact (w t f)) v ≡ true) (agree t f (h refl)) (exact_encloses (w t f))
      go false h = unknown_encloses (w' t f)

  -- a frame that is fed later is known no less then
  narrower : (n m : ℕ) (w : Trace V) → n ≤ m → (t f : ℕ) → lies_within l (known l m w t f) (known l n w t f) ≡ true
  narrower n m w more t f = go (ltb t m) (ltb t n) (ltb-false t m) (ltb-true t n)
    where
      go : (later sooner : Bool) → (later ≡ false → m ≤ t) → (sooner ≡ true → t < n)
          → lies_within l (cond later (exact (w t f)) (unknown l)) (cond sooner (exact (w t f)) (unknown l)) ≡ true
      go true true a b = and_from _ _ (exact_encloses (w t f)) (exact_encloses (w t f))
      go true false a b = and_from _ _ (unknown_encloses (w t f)) (unknown_encloses (w t f))
      go false true a b = let never : ⊥ = omega (arith, a refl, b refl) in absurd never
      go false false a b = and_from _ _ (unknown_encloses l.bottom) (unknown_encloses l.top)

  pub narrowing : Narrowing l
  narrowing = record {
    enclosing = λ n w w' φ agree. (enclosure law).enclosing (known l n w) w' φ 0 (around n w w' agree);
    nesting = λ n m w φ more. (enclosure law).nesting (known l m w) (known l n w) φ 0 (narrower n m w more);
    settled = λ n w φ past. (enclosure law).settled (known l n w) w φ 0 (λ t f from to. known_fed l n w t f (omega arith));
  }
