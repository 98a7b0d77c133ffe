use Rattle.std.proofs.Common.{◌≡◌, ◌+◌, ◌*◌, ◌<◌, ◌≤◌, length, take, Ok, ap, ◌∙◌, arith, length-take-le}
use Rattle.sheet.specs.Sheets.{sheet_of}
use Rattle.watch.specs.Feeding.{progress, progress_of, take_length}
use Rattle.bench.specs.Steps.{line_after}
use Rattle.bench.proofs.Telling.{told_more, told_take, told_all, left_take, left_all, left_at, read_some, read_none, frame_size, feed_one, in_log, accepted_one, logged_one, answered_one}
use Rattle.bench.proofs.judge_frames.Goals as goal
use Rattle.bench.proofs.judge_frames.Goals.{else-loop-accepted-test, then-loop-accepted-test+in_ok-frame+in_default, then-loop-accepted-test+in_ok-frame+in-Some+in_default-step}

pub loop-accepted-preserved : goal.loop-accepted-preserved
loop-accepted-preserved g c =
    let w = sheet_of c.args.sheet.now in
    let so = c.loop-accepted.invariant in
    let k = c.loop-accepted._accepted in
    let size : length (take c.facts-facts.result c.loop-accepted.frame) ≡ w.facts = length-take-le c.facts-facts.result c.loop-accepted.frame (omega arith) ∙ c.facts-facts.ensures in
    let log = c.loop-accepted.log in
    let frame = c.in-Some.frame.now in
    let early : k < take_length w = omega (arith, c.length.ensures, c.loop-accepted-test.true) in
    let read = read_some _ w.facts (g.R.Read.remaining c.loop-accepted.input) (g.R.Read.remaining c.next_frame.new.input) c.in_ok-frame.field-0 c.in-Some.frame size c.in-Some.is c.in_ok-frame.ensures in
    let one = feed_one w k (length log) (length frame) c.rows.ensures.keeps.some_fact so.log (frame_size w _ _ _ read) early in
    let watch = accepted_one w k _ log frame c.step.new.log so.watch one (progress_of c.step.new.watch) c.step.ensures.watch in
    let grown = logged_one w k _ log frame c.step.new.log so.watch one c.step.ensures.log in
    record {
      watch = watch;
      log = omega (arith, so.log);
      chart = omega (arith, so.chart);
      told = told_more w _ _ _ _ _ _ k log frame c.step.new.log c.in-Ok.text so.told read grown (in_log w k (length log) so.log early) c.in_ok-write_all.ensures.bytes (c.in-Ok.ensures.text ∙ ap (λ p. line_after p c.step.new.log) watch);
    }

pub returns-clause-lines : goal.returns-clause-lines
returns-clause-lines g c =
    let w = sheet_of c.args.sheet.now in
    let so = c.loop-accepted.invariant in
    let k = c.loop-accepted._accepted in
    let some : 1 ≤ w.facts = c.rows.ensures.keeps.some_fact in
    elim c.loop-accepted-test.branch [
      | else-loop-accepted-test x ↦ told_take w _ _ _ _ k _ some (omega (arith, c.length.ensures)) so.told
      | then-loop-accepted-test+in_ok-frame+in_default x ↦ told_all w _ _ (g.R.Read.remaining x.next_frame.new.input) _ _ k _ some (omega (arith, c.length.ensures)) so.told (read_none _ w.facts _ _ x.in_ok-frame.field-0 (length-take-le c.facts-facts.result c.loop-accepted.frame (omega arith) ∙ c.facts-facts.ensures) x.in_default.is x.in_ok-frame.ensures)
      | then-loop-accepted-test+in_ok-frame+in-Some+in_default-step x ↦
          let log = c.loop-accepted.log in
          let frame = x.in-Some.frame.now in
          let early : k < take_length w = omega (arith, c.length.ensures, x.loop-accepted-test.true) in
          let size : length (take c.facts-facts.result c.loop-accepted.frame) ≡ w.facts = length-take-le c.facts-facts.result c.loop-accepted.frame (omega arith) ∙ c.facts-facts.ensures in
          let read = read_some _ w.facts (g.R.Read.remaining c.loop-accepted.input) (g.R.Read.remaining x.next_frame.new.input) x.in_ok-frame.field-0 x.in-Some.frame size x.in-Some.is x.in_ok-frame.ensures in
          let one = feed_one w k (length log) (length frame) some so.log (frame_size w _ _ _ read) early in
          let grown = logged_one w k _ log frame x.step.new.log so.watch one x.step.ensures.log in
          let full : length x.step.new.log ≡ w.facts * take_length w = omega (arith, so.log) in
          let told : x.step.result ≡ Ok (line_after (progress w (k + 1)) x.step.new.log) = answered_one w k _ log frame x.step.new.log so.watch one (length c.loop-accepted.chart) _ grown full so.chart x.step.ensures.answer in
          absurd (x.in_default-step.not-Ok _ told)
    ]

pub returns-clause-left : goal.returns-clause-left
returns-clause-left g c =
    let w = sheet_of c.args.sheet.now in
    let so = c.loop-accepted.invariant in
    let k = c.loop-accepted._accepted in
    let some : 1 ≤ w.facts = c.rows.ensures.keeps.some_fact in
    elim c.loop-accepted-test.branch [
      | else-loop-accepted-test x ↦ left_at w _ _ _ (ap g.R.Read.remaining x.input-is) (left_take w _ _ _ _ k _ (omega (arith, c.length.ensures)) so.told)
      | then-loop-accepted-test+in_ok-frame+in_default x ↦ left_at w _ _ _ (ap g.R.Read.remaining x.input-is) (left_all w _ _ (g.R.Read.remaining x.next_frame.new.input) _ _ k _ (omega (arith, c.length.ensures, x.loop-accepted-test.true)) so.told (read_none _ w.facts _ _ x.in_ok-frame.field-0 (length-take-le c.facts-facts.result c.loop-accepted.frame (omega arith) ∙ c.facts-facts.ensures) x.in_default.is x.in_ok-frame.ensures))
      | then-loop-accepted-test+in_ok-frame+in-Some+in_default-step x ↦
          let log = c.loop-accepted.log in
          let frame = x.in-Some.frame.now in
          let early : k < take_length w = omega (arith, c.length.ensures, x.loop-accepted-test.true) in
          let size : length (take c.facts-facts.result c.loop-accepted.frame) ≡ w.facts = length-take-le c.facts-facts.result c.loop-accepted.frame (omega arith) ∙ c.facts-facts.ensures in
          let read = read_some _ w.facts (g.R.Read.remaining c.loop-accepted.input) (g.R.Read.remaining x.next_frame.new.input) x.in_ok-frame.field-0 x.in-Some.frame size x.in-Some.is x.in_ok-frame.ensures in
          let one = feed_one w k (length log) (length frame) some so.log (frame_size w _ _ _ read) early in
          let grown = logged_one w k _ log frame x.step.new.log so.watch one x.step.ensures.log in
          let full : length x.step.new.log ≡ w.facts * take_length w = omega (arith, so.log) in
          let told : x.step.result ≡ Ok (line_after (progress w (k + 1)) x.step.new.log) = answered_one w k _ log frame x.step.new.log so.watch one (length c.loop-accepted.chart) _ grown full so.chart x.step.ensures.answer in
          absurd (x.in_default-step.not-Ok _ told)
    ]
