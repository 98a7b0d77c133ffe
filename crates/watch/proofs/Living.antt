-- The promise over the whole life of a watch, from what start, feed and mark promise by themselves.
use Rattle.std.proofs.Common.{◌≡◌, ℕ, ◌-◌, ◌*◌, ◌/◌, ◌≤◌, true, List, ◌++◌, map, length, take, Some, None, Ok, Err, Result, sym, refl, ap, ◌∙◌, subst, ⊎_elim, mul-le-mul_right, mul_comm, arith}
use Rattle.std.proofs.lemmas.List.{length-map, length-append, take_all, take-take, take_at}
use Rattle.refusal.specs.declared.Refusal.{Refusal}
use Rattle.grade.specs.Lattice.{Lattice, Lawful}
use Rattle.grade.specs.Spans.{spans, encloses, lies_within}
use Rattle.grade.specs.Translations.{Carries, by_ends}
use Rattle.grade.specs.declared.span.Span.{Span}
use Rattle.sheet.specs.Rules.{Written, Keeps}
use Rattle.rule.specs.Meaning.{rule_span, rule_grade}
use Rattle.formula.proofs.Known.{known_by}
use Rattle.rule.proofs.Rules.{enclosed, narrows, ends_can_come, rule_carried}
use Rattle.watch.specs.declared.outcome.Mark.{Mark}
use Rattle.watch.specs.Feeding.{progress, take_length, feed_answer}
use Rattle.watch.specs.Marking.{log_trace, mark_span, mark_refusal, Marked}
use Rattle.watch.specs.Life.{Event, Life, begins, feeds, marks, take_size, accepted, having, rule_on, Earlier, Kept, WholeLife}
use Rattle.watch.proofs.Frames.{InStep, in_step, frames_in, count_is, size_kept}
use Rattle.watch.proofs.Marks.{no_refusal}
use Rattle.watch.proofs.Takes.{traces_agree, trace_carried}
use Rattle.watch.proofs.Laid.{laid, rule_laid, laid_begins}
use Rattle.watch.proofs.Second.{all_accepted}

module _ {V : Type 0} (l : Lattice V) (w : Written) (keeps : Keeps w) where
  -- the rule's span for a list of frames
  abbrev span_for : List V → Span V
  span_for frames = mark_span l (having w frames) frames

  -- two lists of frames that begin alike tell the same of the first frames
  same_known : (n : ℕ) (a b : List V) → take (n * w.facts) a ≡ take (n * w.facts) b → rule_span l n (log_trace l w.facts a) w ≡ rule_span l n (log_trace l w.facts b) w
  same_known n a b same = ap (λ k. rule_grade (spans l) k w) (known_by l n (log_trace l w.facts a) (log_trace l w.facts b) (traces_agree l w.facts n a b same))

  -- what the watch marks is the span for the accepted frames
  span_of_accepted : {es : List (Event V)} {n : ℕ} {log : List V} → InStep w keeps.some_fact es n log → mark_span l (progress w n) log ≡ span_for (accepted w es)
  span_of_accepted {es} {n} {log} s =
      same_known n log (accepted w es) (ap (λ m. take m log) s.count ∙ s.front ∙ sym (take_all (n * w.facts) (accepted w es) (omega (arith, s.count))))
      ∙ ap (λ m. rule_span l m (log_trace l w.facts (accepted w es)) w) (sym (count_is w keeps.some_fact s))

module _ {V : Type 0} {l : Lattice V} (law : Lawful l) (w : Written) (keeps : Keeps w) where
  -- frames that begin with others tell no less
  narrower : (n m : ℕ) (less more : List V) → n * w.facts ≡ length less → m * w.facts ≡ length more → n ≤ m → take (length less) more ≡ less → lies_within l (span_for l w keeps more) (span_for l w keeps less) ≡ true
  narrower n m less more size size' le front =
      let alike : take (n * w.facts) more ≡ take (n * w.facts) less = ap (λ x. take x more) size ∙ front ∙ sym (take_all (n * w.facts) less (omega (arith, size))) in
      let old : rule_span l n (log_trace l w.facts more) w ≡ span_for l w keeps less = same_known l w keeps n more less alike ∙ ap (λ x. rule_span l x (log_trace l w.facts less) w) (sym (frames_in w keeps.some_fact n less size)) in
      let new : rule_span l m (log_trace l w.facts more) w ≡ span_for l w keeps more = ap (λ x. rule_span l x (log_trace l w.facts more) w) (sym (frames_in w keeps.some_fact m more size')) in
      subst (λ s. lies_within l (span_for l w keeps more) s ≡ true) old (subst (λ s. lies_within l s (rule_span l n (log_trace l w.facts more) w) ≡ true) new ((narrows law).narrower w n m (log_trace l w.facts more) le))

  -- and so less than every earlier mark allowed
  earlier : {es : List (Event V)} {n : ℕ} {log : List V} → Life l w es n log → (old : Mark V) → Earlier old es → (m : ℕ) (more : List V) → m * w.facts ≡ length more → n ≤ m → take (length (accepted w es)) more ≡ accepted w es
      → lies_within l (span_for l w keeps more) old.span ≡ true
  earlier (begins first) old e m more size le front = absurd e
  earlier (feeds {es = es} {n = c} life strip (Ok k) h) old e m more size le front =
      let added = take (take_size w - length (accepted w es)) strip in
      let longer : length (accepted w es) ≤ length (accepted w es ++ added) = omega (arith, length-append (accepted w es) added) in
      earlier life old e m more size (omega arith)
      (sym (take-take (length (accepted w es)) (length (accepted w es ++ added)) more longer) ∙ ap (take (length (accepted w es))) front ∙ take_at (accepted w es) added _ refl)
  earlier (feeds {n = c} life strip (Err r) h) old e m more size le front = earlier life old e m more size (omega arith) front
  earlier (marks life before after (Err r) h) old e m more size le front = earlier life old e m more size le front
  earlier (marks {es = es} {n = c} life before after (Ok a) h) old e m more size le front =
      ⊎_elim
      (λ same.
      let s = in_step w keeps.some_fact life in
      subst (λ x. lies_within l (span_for l w keeps more) x ≡ true) (sym (h.1 ∙ span_of_accepted l w keeps s) ∙ ap (λ x. x.span) (sym same)) (narrower c m (accepted w es) more s.count size le front))
      (λ before_that. earlier life old before_that m more size le front)
      e

  module _ {W : Type 0} {m : Lattice W} {h : V → W} (carries : Carries l m h) where
    -- the second watch's mark, whatever it answers
    second : (es : List (Event V)) (es' : List (Event W)) (n' : ℕ) (log' : List W) → InStep w keeps.some_fact es' n' log' → accepted w es' ≡ map h (accepted w es)
        → (before after : List (Span W)) (r : Result (Mark W) Refusal) → Marked m (progress w n') log' before after r → take_size w ≤ length log' → length w.rows * take_length w ≤ length before
        → (answer : Mark W) × (r ≡ Ok answer) × (answer.span ≡ by_ends h (span_for l w keeps (accepted w es)))
    second es es' n' log' s same before after (Err r) told long wide =
        absurd (let clash : None ≡ Some r = sym (no_refusal (progress w n') (length log') (length before) long wide) ∙ told.0 in let z : ◌≡◌ {A = ℕ} 0 1 = cc in omega arith)
    second es es' n' log' s same before after (Ok answer) told long wide =
        let frames = accepted w es in
        let q = length frames / w.facts in (
          answer,
          refl,
          told.1 ∙ span_of_accepted m w keeps s ∙ ap (span_for m w keeps) same
              ∙ ap (λ x. rule_span m (x / w.facts) (log_trace m w.facts (map h frames)) w) (length-map frames h)
              ∙ ap (λ trace. rule_span m q trace w) (trace_carried l w.facts m h carries frames)
              ∙ sym ((rule_carried carries).known w q (log_trace l w.facts frames)),
        )

    pub kept : {es : List (Event V)} {n : ℕ} {log : List V} → Life l w es n log → (before after : List (Span V)) (answer : Mark V) → Marked l (progress w n) log before after (Ok answer) → Kept l m h w es answer
    kept {es} {n} {log} life before after answer told =
        let some = keeps.some_fact in
        let frames = accepted w es in
        let s = in_step w some life in
        let q = length frames / w.facts in
        let size : q * w.facts ≡ length frames = ap (λ x. x * w.facts) (count_is w some s) ∙ s.count in
        let few : q ≤ take_length w = subst (λ x. x ≤ take_length w) (sym (count_is w some s)) s.few in
        let trace = log_trace l w.facts frames in
        let is : answer.span ≡ span_for l w keeps frames = told.1 ∙ span_of_accepted l w keeps s in
        let whole : length frames ≤ take_size w = omega (arith, size, mul-le-mul_right w.facts few, mul_comm (take_length w) w.facts) in
        record {
          span = is;
          settled = told.2;
          encloses_takes = λ taken b. subst (λ x. encloses l x (rule_on l w taken) ≡ true) (sym is) (enclosed law w q trace (log_trace l w.facts taken)
              (traces_agree l w.facts q frames taken (take_all (q * w.facts) frames (omega (arith, size)) ∙ sym (ap (λ x. take x taken) size ∙ b.front))));
          within_earlier = λ old e. subst (λ x. lies_within l x old.span ≡ true) (sym is) (earlier life old e n frames s.count (omega arith) (take_all (length frames) frames (omega arith)));
          low_reached = λ one. let c = (ends_can_come l).low w keeps one q trace in (laid w keeps l c.0, laid_begins w keeps l c.0 q frames size few c.1, rule_laid w keeps l c.0 ∙ c.2 ∙ ap (λ x. x.low) (sym is));
          high_reached = λ one. let c = (ends_can_come l).high w keeps one q trace in (laid w keeps l c.0, laid_begins w keeps l c.0 q frames size few c.1, rule_laid w keeps l c.0 ∙ c.2 ∙ ap (λ x. x.high) (sym is));
          translated = λ strips joined es' n' log' life' fed long.
              let all = all_accepted m w some life' strips fed long (omega (arith, ap length joined, length-map frames h)) in (
                all.0,
                λ before' after' r told' wide.
                    let got = second es es' n' log' (in_step w some life') (all.1 ∙ joined) before' after' r told' long wide in
                    (got.0, got.1, got.2 ∙ ap (by_ends h) (sym is)),
              );
        }

    -- every call of a life is granted or refused by the frames accepted before it, and every granted mark is kept
    pub whole_life : {es : List (Event V)} {n : ℕ} {log : List V} → Life l w es n log → (size : ℕ) → length log ≡ size → WholeLife l m h w size es
    whole_life (begins first) size is = tt
    whole_life (feeds {n = c} {log = log} life strip r e) size is =
        let some = keeps.some_fact in
        let s = in_step w some life in
        let same = sym (size_kept w some c strip log r s.few e) ∙ is in
        (e ∙ (λ i. feed_answer (progress w (sym (count_is w some s) i)) (same i) (length strip)), whole_life life size same)
    whole_life (marks {n = c} {log = log} life before after (Ok answer) e) size is =
        let s = in_step w keeps.some_fact life in
        ((λ i. mark_refusal (progress w (count_is w keeps.some_fact s i)) (sym is i) (length before)) ∙ e.0, kept life before after answer e, whole_life life size is)
    whole_life (marks {n = c} {log = log} life before after (Err r) e) size is =
        let s = in_step w keeps.some_fact life in
        ((λ i. mark_refusal (progress w (count_is w keeps.some_fact s i)) (sym is i) (length before)) ∙ e.0, whole_life life size is)
