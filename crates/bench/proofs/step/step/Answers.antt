use Rattle.std.proofs.Common.{◌≡◌, ◌≤◌, length, replicate, Ok, sym, ap, ◌∙◌, subst, arith}
use Rattle.std.proofs.lemmas.Bool.{false≢true}
use Rattle.report.specs.Texts.{line_text}
use Rattle.report.proofs.Filled.{just_filled}
use Rattle.report.proofs.Forms.{line_size}
use Rattle.watch.specs.Feeding.{progress_of, accepted_by, advanced, logged}
use Rattle.watch.specs.Marking.{mark_refusal}
use Rattle.bench.specs.Steps.{line_after, told, step_answer}
use Rattle.bench.proofs.step.step.Goals as goal

pub returns : goal.returns
returns c =
    let before = progress_of c.args.watch.now in
    let after = progress_of c.feed.new.self in
    let log = c.args.log.now in
    let frame = c.args.frame.now in
    let old = c.args.chart.now in
    let place = c.line.new.place in
    let answer = c.feed.ensures.answer in
    let fed = c.in_ok-feed.ensures in
    let whole = logged before c.in_ok-feed.field-0 frame log in
    let grown = c.feed.new.log in
    let marked = c.in_ok-mark.ensures.mark in
    let low = c.bits.ensures ∙ ap (λ s. s.low.bits) marked.1 in
    let high = c.bits-2.ensures ∙ ap (λ s. s.high.bits) marked.1 in
    let text = line_text c.accepted.result c.bits.result c.bits-2.result in
    let size : 19 ≤ length text = omega (arith, line_size c.accepted.result c.bits.result c.bits-2.result) in
    let line =
    c.in_ok-line.ensures.2
    ∙ just_filled text (replicate 19 0) (omega (arith, size))
    ∙ (λ i. line_text (c.accepted.ensures.count i) (low i) (high i)) in
    record {
      watch = c.feed.ensures.watch ∙ ap (λ r. advanced before (accepted_by r)) answer;
      log = c.feed.ensures.log ∙ ap (λ r. logged before (accepted_by r) frame log) answer;
      text = line;
      answer =
          subst (λ r. Ok place ≡ step_answer r before log frame (length old)) fed.answer
          (subst (λ p. Ok place ≡ told (mark_refusal p (length whole) (length old)) (line_after p whole)) fed.watch
          (subst (λ grades. Ok place ≡ told (mark_refusal after (length grades) (length old)) (line_after after grades)) fed.log
          (ap Ok line ∙ ap (λ o. told o (line_after after grown)) (sym marked.0))));
      charted = λ granted. marked.3;
      unchanged = λ refused. absurd (false≢true refused);
    }
