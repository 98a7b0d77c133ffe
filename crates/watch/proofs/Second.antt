-- A second watch that is fed the same frames in any strips: it refuses none of them and accepts them all.
use Rattle.std.proofs.Common.{◌≡◌, ℕ, ◌+◌, ◌-◌, ◌*◌, ◌/◌, ◌%◌, ◌≤◌, min, Bool, true, false, cond, ◌&&◌, eqb, ltb, leb, List, [], ◌∷◌, ◌++◌, length, take, Ok, Err, refl, ap, ◌∙◌, ⊎_elim, mul-le-mul_right, mul_comm, arith}
use Rattle.std.proofs.lemmas.List.{length-append, take_all}
use Rattle.std.proofs.lemmas.Bool.{le-ltb, eq-eqb, cases_Bool, and_left, and_right, leb-true}
use Rattle.refusal.specs.declared.Refusal.{Refusal}
use Rattle.refusal.specs.declared.Refusal.TheVariants.{ShortLog, BrokenStrip, TakeComplete}
use Rattle.grade.specs.Lattice.{Lattice}
use Rattle.sheet.specs.Rules.{Written}
use Rattle.watch.specs.Feeding.{progress, take_length, feed_answer}
use Rattle.watch.specs.Life.{Event, Life, begins, feeds, marks, take_size, accepted, Feeds, joined_back, NoneRefused}
use Rattle.watch.proofs.Frames.{in_step, size_kept}

no_refusal : (x y z : Bool) (m : ℕ) (r : Refusal) → x ≡ false → y ≡ true → z ≡ false → Err r ≡ cond x (Err ShortLog) (cond y (cond z (Err TakeComplete) (Ok m)) (Err BrokenStrip)) → ⊥
no_refusal x y z m r p q s h = let e : ◌≡◌ {A = ℕ} 0 1 = cc in omega arith

module _ {V : Type 0} (l : Lattice V) (w : Written) (some : 1 ≤ w.facts) where
  -- a strip that does not pass the end of the take is not refused
  granted : (c : ℕ) (log strip : List V) (r : Refusal) → take_size w ≤ length log → length strip % w.facts ≡ 0 → c * w.facts + length strip ≤ take_size w
      → Err r ≡ feed_answer (progress w c) (length log) (length strip) → ⊥
  granted c log strip r long whole fits =
      no_refusal (ltb (length log) (w.facts * take_length w)) (eqb (length strip % w.facts) 0) (leb (take_length w) c && ltb 0 (length strip)) (min (length strip / w.facts) (take_length w - c)) r
      (le-ltb (length log) (take_size w) long) (eq-eqb _ 0 whole)
      (⊎_elim
      (λ full. and_right (leb (take_length w) c) (ltb 0 (length strip)) (le-ltb 0 (length strip) (omega (arith, mul-le-mul_right w.facts (leb-true (take_length w) c full), mul_comm (take_length w) w.facts))))
      (λ open_yet. and_left (leb (take_length w) c) (ltb 0 (length strip)) open_yet)
      (cases_Bool (leb (take_length w) c)))

  -- the strips that were fed, as far as they go, are what was accepted
  pub all_accepted : {es : List (Event V)} {n : ℕ} {log : List V} → Life l w es n log → (strips : List (List V)) → Feeds w es strips → take_size w ≤ length log → length (joined_back strips) ≤ take_size w
      → NoneRefused es × (accepted w es ≡ joined_back strips)
  all_accepted (begins first) [] f long fits = (tt, refl)
  all_accepted (begins first) (s ∷ ss) f long fits = absurd f
  all_accepted (feeds life strip (Ok m) h) [] f long fits = absurd f
  all_accepted (feeds {es = es} {n = c} {log = before} life strip (Ok m) h) (s ∷ ss) f long fits =
      let size = length-append (joined_back ss) s in
      let kept = size_kept w some c strip before (Ok m) (in_step w some life).few h in
      let rest = all_accepted life ss f.2 (omega (arith, kept)) (omega arith) in
      let all : take (take_size w - length (accepted w es)) strip ≡ strip = take_all (take_size w - length (accepted w es)) strip (omega (arith, ap length rest.1, ap length f.0)) in
      (rest.0, (λ i. rest.1 i ++ all i) ∙ ap (λ x. joined_back ss ++ x) f.0)
  all_accepted (feeds life strip (Err r) h) [] f long fits = absurd f
  all_accepted (feeds {es = es} {n = c} {log = before} life strip (Err r) h) (s ∷ ss) f long fits =
      let size = length-append (joined_back ss) s in
      let kept = size_kept w some c strip before (Err r) (in_step w some life).few h in
      let rest = all_accepted life ss f.2 (omega (arith, kept)) (omega arith) in
      let even = ap (λ x. length x % w.facts) f.0 ∙ f.1 in
      absurd (granted c before strip r (omega (arith, kept)) even (omega (arith, (in_step w some life).count, ap length rest.1, ap length f.0)) h)
  all_accepted (marks life before after r h) ss f long fits = absurd f
