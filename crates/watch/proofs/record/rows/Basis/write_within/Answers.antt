use Rattle.std.proofs.Common.{◌≡◌, ◌+◌, ◌-◌, ap, ◌∙◌, arith}
use Rattle.grade.specs.Spans.{spans}
use Rattle.formula.specs.Formula.{horizon}
use Rattle.formula.specs.Grades.{join_over}
use Rattle.sheet.specs.Rules.{row_at}
use Rattle.rule.specs.Meaning.{formula_at}
use Rattle.rule.proofs.Trees.{horizon_length}
use Rattle.watch.specs.Feeding.{progress_of}
use Rattle.watch.specs.Marking.{row_span}
use Rattle.watch.proofs.Folds.{joins}
use Rattle.watch.proofs.record.rows.Basis.write_within.Goals as goal

pub returns-then-width-eq0 : goal.returns-then-width-eq0
returns-then-width-eq0 g c s d less =
    let self = c.args.self.now in
    let p = progress_of self.watch.now in
    let none : 0 ≡ c.args.to + 1 - (c.args.from + horizon (formula_at p.sheet c.args.row)) = omega (arith, horizon_length (row_at p.sheet.rows) c.args.row, c.if-width-eq0.true) in
    c.fill.ensures s d less ∙ c.bottom.ensures ∙ ap (join_over (spans g.G.Grade.ops) (row_span g.G.Grade.ops p self.log.now c.args.row) (s + c.args.from)) none

pub returns-else-width-eq0 : goal.returns-else-width-eq0
returns-else-width-eq0 g c s d less =
    let self = c.args.self.now in
    let p = progress_of self.watch.now in
    let l = spans g.G.Grade.ops in
    let at = row_span g.G.Grade.ops p self.log.now c.args.row in
    let from = s + c.args.from in
    let count = c.saturating_sub-width.result in
    let width : count ≡ c.args.to + 1 - (c.args.from + horizon (formula_at p.sheet c.args.row)) = omega (arith, horizon_length (row_at p.sheet.rows) c.args.row) in
    c.slide.ensures s d less
    ∙ joins l _ at s from count
    (λ i within.
    let sum : s + i + c.args.from ≡ from + i = omega arith in
    c.row_from.ensures.grades (s + i) l.bottom (omega (arith, within)) ∙ ap at sum)
    ∙ ap (join_over l at from) width
