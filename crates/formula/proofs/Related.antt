-- What the operations of two lattices keep, the grades of every formula keep. This one induction over formulas is behind
-- the translations, the spans and the reached ends. Assumes nothing, not even the laws of a lattice.
use Rattle.std.proofs.Common.{◌≡◌, ℕ, zero, suc, ◌+◌, ◌<◌, ◌≤◌, Bool, true, false, refl, arith}
use Rattle.std.proofs.lemmas.Bool.{eq-eqb, or_left, or_right}
use Rattle.grade.specs.Lattice.{Lattice}
use Rattle.formula.specs.Formula.{Formula, always, hold, hold_off, both, either, not, then, within, horizon}
use Rattle.formula.specs.Grades.{Trace, meet_over, join_over, grade}
use Rattle.formula.specs.Sides.{reaches}

-- Values of l and m are compared by P, and where a flip stands between them and the whole, by N.
pub record Keeps {V W : Type 0} (l : Lattice V) (m : Lattice W) (P N : V → W → Type 0) : Type 0 where
  pub top : P l.top m.top
  pub bottom : P l.bottom m.bottom
  pub meet : (x y : V) (x' y' : W) → P x x' → P y y' → P (l.meet x y) (m.meet x' y')
  pub join : (x y : V) (x' y' : W) → P x x' → P y y' → P (l.join x y) (m.join x' y')
  pub flip : (x : V) (x' : W) → N x x' → P (l.flip x) (m.flip x')

-- Two traces are compared only where the formula looks: at the facts that it reaches, in the frames up to its horizon.
pub record Alike {V W : Type 0} (P N : V → W → Type 0) (w : Trace V) (w' : Trace W) (φ : Formula) (s : ℕ) : Type 0 where
  pub plain : (t f : ℕ) → reaches false φ f ≡ true → s ≤ t → t ≤ s + horizon φ → P (w t f) (w' t f)
  pub turned : (t f : ℕ) → reaches true φ f ≡ true → s ≤ t → t ≤ s + horizon φ → N (w t f) (w' t f)

module _ {V W : Type 0} (l : Lattice V) (m : Lattice W) where
  meet_over_kept : (P N : V → W → Type 0) → Keeps l m P N → (at : ℕ → V) (at' : ℕ → W) (s n : ℕ)
      → ((t : ℕ) → s ≤ t → t < s + n → P (at t) (at' t)) → P (meet_over l at s n) (meet_over m at' s n)
  meet_over_kept P N k at at' s zero h = k.top
  meet_over_kept P N k at at' s (suc n) h =
      k.meet _ _ _ _ (h s (omega arith) (omega arith)) (meet_over_kept P N k at at' (suc s) n (λ t from below. h t (omega arith) (omega arith)))

  join_over_kept : (P N : V → W → Type 0) → Keeps l m P N → (at : ℕ → V) (at' : ℕ → W) (s n : ℕ)
      → ((t : ℕ) → s ≤ t → t < s + n → P (at t) (at' t)) → P (join_over l at s n) (join_over m at' s n)
  join_over_kept P N k at at' s zero h = k.bottom
  join_over_kept P N k at at' s (suc n) h =
      k.join _ _ _ _ (h s (omega arith) (omega arith)) (join_over_kept P N k at at' (suc s) n (λ t from below. h t (omega arith) (omega arith)))

  -- Where a part looks, the whole looks too.
  part : (P N : V → W → Type 0) (w : Trace V) (w' : Trace W) (φ ψ : Formula) (s u : ℕ)
      → ((turned : Bool) (f : ℕ) → reaches turned ψ f ≡ true → reaches turned φ f ≡ true) → s ≤ u → u + horizon ψ ≤ s + horizon φ
      → Alike P N w w' φ s → Alike P N w w' ψ u
  part P N w w' φ ψ s u reached from to alike = record {
    plain = λ t f r a b. alike.plain t f (reached false f r) (omega arith) (omega arith);
    turned = λ t f r a b. alike.turned t f (reached true f r) (omega arith) (omega arith);
  }

  pub related : (P N : V → W → Type 0) → Keeps l m P N → Keeps l m N P → (w : Trace V) (w' : Trace W) (φ : Formula) (s : ℕ)
      → Alike P N w w' φ s → P (grade l w φ s) (grade m w' φ s)
  related P N k k' w w' always s alike = k.top
  related P N k k' w w' (hold d f) s alike =
      meet_over_kept P N k _ _ s (suc d) (λ t from below. alike.plain t f (eq-eqb f f refl) from (omega arith))
  related P N k k' w w' (hold_off d f) s alike =
      meet_over_kept P N k _ _ s (suc d) (λ t from below. k.flip _ _ (alike.turned t f (eq-eqb f f refl) from (omega arith)))
  related P N k k' w w' (both φ ψ) s alike =
      k.meet _ _ _ _
      (related P N k k' w w' φ s (part P N w w' (both φ ψ) φ s s (λ side f. or_left _ _) (omega arith) (omega arith) alike))
      (related P N k k' w w' ψ s (part P N w w' (both φ ψ) ψ s s (λ side f. or_right _ _) (omega arith) (omega arith) alike))
  related P N k k' w w' (either φ ψ) s alike =
      k.join _ _ _ _
      (related P N k k' w w' φ s (part P N w w' (either φ ψ) φ s s (λ side f. or_left _ _) (omega arith) (omega arith) alike))
      (related P N k k' w w' ψ s (part P N w w' (either φ ψ) ψ s s (λ side f. or_right _ _) (omega arith) (omega arith) alike))
  -- under a `not` the two relations change places
  related P N k k' w w' (not φ) s alike =
      k.flip _ _ (related N P k' k w w' φ s (record { plain = alike.turned; turned = alike.plain }))
  related P N k k' w w' (then φ ψ) s alike =
      k.meet _ _ _ _
      (related P N k k' w w' φ s (part P N w w' (then φ ψ) φ s s (λ side f. or_left _ _) (omega arith) (omega arith) alike))
      (related P N k k' w w' ψ (s + horizon φ + 1) (part P N w w' (then φ ψ) ψ s _ (λ side f. or_right _ _) (omega arith) (omega arith) alike))
  -- a start of the window leaves its part room to end in it
  related P N k k' w w' (within a b φ) s alike =
      join_over_kept P N k _ _ (s + a) _
      (λ t from below. related P N k k' w w' φ t (part P N w w' (within a b φ) φ s t (λ side f r. r) (omega arith) (omega arith) alike))

  -- One relation on both sides of a flip, on all facts.
  pub related_by : (R : V → W → Type 0) → Keeps l m R R → (w : Trace V) (w' : Trace W) (φ : Formula) (s : ℕ)
      → ((t f : ℕ) → s ≤ t → t ≤ s + horizon φ → R (w t f) (w' t f)) → R (grade l w φ s) (grade m w' φ s)
  related_by R k w w' φ s h = related R R k k w w' φ s (record { plain = λ t f _. h t f; turned = λ t f _. h t f })
