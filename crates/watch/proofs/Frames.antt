-- The accepted frames, as the calls alone have them, against the watch's count and log.
use Rattle.std.proofs.Common.{◌≡◌, ℕ, ◌+◌, ◌-◌, ◌*◌, ◌/◌, ◌%◌, ◌≤◌, min, ◌&&◌, eqb, ltb, leb, List, ◌∷◌, ◌++◌, length, take, drop, Ok, Err, Result, sym, refl, ap, ◌∙◌, ⊎_elim, append_assoc, add-zero, mul-le-mul_right, mul_comm, add-mul, div-add-mod', arith}
use native.Mathlib.Nat.{mul-div_left}
use Rattle.std.proofs.lemmas.List.{length-append, length-take-le, length-drop, take_all, take_at}
use Rattle.std.proofs.lemmas.Bool.{eqb-true, cases_lt}
use Rattle.refusal.specs.declared.Refusal.{Refusal}
use Rattle.grade.specs.Lattice.{Lattice}
use Rattle.sheet.specs.Rules.{Written}
use Rattle.watch.specs.Feeding.{progress, take_length, feed_answer, accepted_by, logged}
use Rattle.watch.specs.Life.{Event, fed, Life, begins, feeds, marks, take_size, accepted}
use Rattle.watch.proofs.Feeding.{choice, Fits, granted_fits, logged_none}

module _ {V : Type 0} (w : Written) (some : 1 ≤ w.facts) where
  -- The watch counts the accepted frames, and its log begins with them.
  pub record InStep (es : List (Event V)) (n : ℕ) (log : List V) : Type 0 where
    pub count : n * w.facts ≡ length (accepted w es)
    pub few : n ≤ take_length w
    pub front : take (length (accepted w es)) log ≡ accepted w es

  -- the frames that a strip adds, by the count of them
  module _ (n c : ℕ) (strip : List V) (whole : length strip % w.facts ≡ 0) (is : n ≡ min (length strip / w.facts) (take_length w - c)) (few : c ≤ take_length w) where
    strip_size : length strip / w.facts * w.facts ≡ length strip
    strip_size = omega (arith, div-add-mod' (length strip) w.facts)

    left_size : c * w.facts + (take_length w - c) * w.facts ≡ take_size w
    left_size = sym (add-mul c (take_length w - c) w.facts) ∙ ap (λ m. m * w.facts) (omega arith) ∙ mul_comm (take_length w) w.facts

    pub added_there : n * w.facts ≤ length strip
    added_there = let less : n ≤ length strip / w.facts = omega (arith, is) in omega (arith, mul-le-mul_right w.facts less, strip_size)

    pub added_is : take (take_size w - c * w.facts) strip ≡ take (n * w.facts) strip
    added_is = ⊎_elim
        (λ short.
        let same : n ≡ length strip / w.facts = omega (arith, is) in
        let size : n * w.facts ≡ length strip = ap (λ m. m * w.facts) same ∙ strip_size in
        let less : length strip / w.facts ≤ take_length w - c = omega arith in
        take_all (take_size w - c * w.facts) strip (omega (arith, mul-le-mul_right w.facts less, left_size, strip_size)) ∙ sym (take_all (n * w.facts) strip (omega arith)))
        (λ long.
        let same : n ≡ take_length w - c = omega (arith, is) in
        ap (λ m. take m strip) (omega (arith, left_size, ap (λ m. m * w.facts) same)))
        (cases_lt (length strip / w.facts) (take_length w - c))

  -- one granted feed more
  granted_step : (es : List (Event V)) (c : ℕ) (log strip : List V) (n : ℕ) → InStep es c log → Ok n ≡ feed_answer (progress w c) (length log) (length strip)
      → InStep (fed strip (Ok n) ∷ es) (c + n) (logged (progress w c) n strip log)
  granted_step es c log strip n s h =
      let said = choice (ltb (length log) (w.facts * take_length w)) (eqb (length strip % w.facts) 0) (leb (take_length w) c && ltb 0 (length strip)) (min (length strip / w.facts) (take_length w - c)) n h in
      let whole = eqb-true (length strip % w.facts) 0 said.1 in
      let old = accepted w es in
      let some_more = take (n * w.facts) strip in
      let rest = drop ((c + n) * w.facts) log in
      let added : take (take_size w - length old) strip ≡ some_more = ap (λ m. take (take_size w - m) strip) (sym s.count) ∙ added_is n c strip whole said.2 s.few in
      let now : old ++ take (take_size w - length old) strip ≡ old ++ some_more = ap (λ m. old ++ m) added in
      let size : length (old ++ some_more) ≡ c * w.facts + n * w.facts = length-append old some_more ∙ omega (arith, s.count, length-take-le (n * w.facts) strip (added_there n c strip whole said.2 s.few)) in
      let log_is : logged (progress w c) n strip log ≡ (old ++ some_more) ++ rest =
      ap (λ m. take m log ++ (some_more ++ rest)) s.count ∙ ap (λ m. m ++ (some_more ++ rest)) s.front ∙ sym (append_assoc old some_more rest) in
      record {
        count = add-mul c n w.facts ∙ sym size ∙ ap length (sym now);
        few = omega (arith, said.2, s.few);
        front = ap (λ m. take (length m) (logged (progress w c) n strip log)) now ∙ ap (take (length (old ++ some_more))) log_is ∙ take_at (old ++ some_more) rest _ refl ∙ sym now;
      }

  pub in_step : {l : Lattice V} {es : List (Event V)} {n : ℕ} {log : List V} → Life l w es n log → InStep es n log
  in_step (begins first) = record { count = omega arith; few = omega arith; front = refl }
  in_step (feeds life strip (Ok m) h) = granted_step _ _ _ strip m (in_step life) h
  in_step (feeds {n = c} {log = before} life strip (Err r) h) =
      let s = in_step life in
      record {
        count = ap (λ m. m * w.facts) (add-zero c) ∙ s.count;
        few = omega (arith, s.few);
        front = ap (take _) (logged_none (progress w c) strip before) ∙ s.front;
      }
  in_step (marks life before after r h) = let s = in_step life in record { count = s.count; few = s.few; front = s.front }

  -- how many frames, from how many grades
  pub frames_in : (n : ℕ) (frames : List V) → n * w.facts ≡ length frames → length frames / w.facts ≡ n
  frames_in n frames size = ap (λ x. x / w.facts) (sym size) ∙ mul-div_left n some

  -- the count is that of the accepted frames
  pub count_is : {es : List (Event V)} {n : ℕ} {log : List V} → InStep es n log → length (accepted w es) / w.facts ≡ n
  count_is {es} {n} s = frames_in n (accepted w es) s.count

  -- a feed leaves the log as long as it was
  logged_size : (c n : ℕ) (strip log : List V) → Fits (progress w c) (length log) (length strip) n → length (logged (progress w c) n strip log) ≡ length log
  logged_size c n strip log fits =
      let front = take (c * w.facts) log in
      let middle = take (n * w.facts) strip in
      let rest = drop ((c + n) * w.facts) log in
      length-append front (middle ++ rest)
      ∙ omega (arith, length-append middle rest, length-take-le (c * w.facts) log (omega (arith, fits.room)), length-take-le (n * w.facts) strip fits.there, length-drop ((c + n) * w.facts) log, add-mul c n w.facts, fits.room)

  pub size_kept : (c : ℕ) (strip log : List V) (r : Result ℕ Refusal) → c ≤ take_length w → r ≡ feed_answer (progress w c) (length log) (length strip) → length (logged (progress w c) (accepted_by r) strip log) ≡ length log
  size_kept c strip log (Ok n) few h = logged_size c n strip log (granted_fits (progress w c) (length log) (length strip) n few (sym h))
  size_kept c strip log (Err r) few h = ap length (logged_none (progress w c) strip log)
