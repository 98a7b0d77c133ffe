-- On a complete take the mark is the grade, and for yes and no that is the published meaning.
use Rattle.std.proofs.Common.{◌≡◌, ◌<◌, Bool, List, Ok, Err, Result, sym, ap, ◌∙◌, arith}
use Rattle.refusal.specs.declared.Refusal.{Refusal}
use Rattle.grade.specs.Lattice.{Lawful}
use Rattle.grade.specs.Spans.{exact}
use Rattle.grade.specs.YesNo.{yes_no}
use Rattle.grade.specs.declared.span.Span.{Span}
use Rattle.sheet.specs.Rules.{Keeps}
use Rattle.sheet.specs.Sheets.{rule_length}
use Rattle.rule.specs.Meaning.{rule_grade}
use Rattle.rule.proofs.Rules.{narrows, published_rule}
use Rattle.watch.specs.declared.outcome.Mark.{Mark}
use Rattle.watch.specs.Feeding.{Progress}
use Rattle.watch.specs.Marking.{log_trace, Marked}
use Rattle.watch.specs.Verdict.{Settles}

module _ (law : Lawful yes_no) (p : Progress) (keeps : Keeps p.sheet) (log : List Bool) where
  pub settles : (before after : List (Span Bool)) (r : Result (Mark Bool) Refusal) → Marked yes_no p log before after r → Settles p log r
  settles before after (Err r) told = tt
  settles before after (Ok m) told =
      λ full.
      let trace = log_trace yes_no p.sheet.facts log in
      let past : rule_length p.sheet < p.count = omega (arith, full) in
      let is : m.span ≡ exact (rule_grade yes_no trace p.sheet) = told.1 ∙ (narrows law).settled p.sheet p.count trace past in
      let published = published_rule.whole p.sheet keeps trace in (
        λ both. published.1 (sym (ap (λ s. s.low) is) ∙ both.0),
        λ met. let yes = published.0 met in (ap (λ s. s.low) is ∙ yes, ap (λ s. s.high) is ∙ yes),
      )
