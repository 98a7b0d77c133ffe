use Rattle.std.proofs.Common.{◌≡◌, ℕ, ◌+◌, sym, ap, ◌∙◌, add-one, arith}
use Rattle.grade.specs.Spans.{spans}
use Rattle.formula.specs.Formula.{horizon}
use Rattle.formula.specs.Grades.{meet_over}
use Rattle.sheet.specs.Rules.{row_at}
use Rattle.sheet.proofs.Has.{has_one, has_right}
use Rattle.rule.specs.Meaning.{formula_at}
use Rattle.rule.proofs.Trees.{horizon_length}
use Rattle.watch.specs.Feeding.{progress_of}
use Rattle.watch.specs.Marking.{seen, row_span}
use Rattle.watch.proofs.Folds.{meets}
use Rattle.watch.proofs.Charting.{span_is, long_is, named_lower}
use Rattle.watch.proofs.record.rows.Basis.write.Goals as goal

pub pair-requires : goal.pair-requires
pair-requires g c =
    let here = long_is c.args.self.now.ready _ (sym c.in-Both.is ∙ c.requires.row) in
    record { left = omega (arith, here); right = omega (arith, here) }

pub pair-requires-in-Either : goal.pair-requires-in-Either
pair-requires-in-Either g c =
    let here = long_is c.args.self.now.ready _ (sym c.in-Either.is ∙ c.requires.row) in
    record { left = omega (arith, here); right = omega (arith, here) }

pub flips-requires : goal.flips-requires
flips-requires g c = omega (arith, long_is c.args.self.now.ready _ (sym c.in-Not.is ∙ c.requires.row))

pub row_from-requires : goal.row_from-requires
row_from-requires g c =
    let ready = c.args.self.now.ready in
    let e = sym c.in-Then.is ∙ c.requires.row in
    record {
      row = named_lower ready _ e _ (has_right c.in-Then.left _);
      start = omega (arith, long_is ready _ e, c.requires.size);
    }

pub pair-requires-in-Then : goal.pair-requires-in-Then
pair-requires-in-Then g c =
    let here = long_is c.args.self.now.ready _ (sym c.in-Then.is ∙ c.requires.row) in
    record { left = omega (arith, here); right = omega (arith, here) }

pub write_within-requires : goal.write_within-requires
write_within-requires g c =
    let ready = c.args.self.now.ready in
    let e = sym c.in-Within.is ∙ c.requires.row in
    record {
      row = named_lower ready _ e _ (has_one c.in-Within.row);
      size = omega (arith, long_is ready _ e, c.requires.size);
    }

pub returns-in-Always : goal.returns-in-Always
returns-in-Always g c s d less =
    c.fill.ensures s d less ∙ c.top.ensures ∙ span_is c.args.self.now.ready _ (sym c.in-Always.is ∙ c.requires.row) s

pub returns-in-Hold : goal.returns-in-Hold
returns-in-Hold g c s d less =
    let self = c.args.self.now in
    let l = spans g.G.Grade.ops in
    let at = λ (t : ℕ). seen g.G.Grade.ops (progress_of self.watch.now) self.log.now t c.in-Hold.fact in
    let width = add-one c.in-Hold.duration in
    c.slide.ensures s d less ∙ meets l _ at c.fact.ensures s (c.in-Hold.duration + 1) ∙ ap (meet_over l at s) width ∙ span_is self.ready _ (sym c.in-Hold.is ∙ c.requires.row) s

pub returns-in-HoldOff : goal.returns-in-HoldOff
returns-in-HoldOff g c s d less =
    let self = c.args.self.now in
    let l = spans g.G.Grade.ops in
    let was = λ (t : ℕ). seen g.G.Grade.ops (progress_of self.watch.now) self.log.now t c.in-HoldOff.fact in
    let at = λ (t : ℕ). l.flip (was t) in
    let width = add-one c.in-HoldOff.duration in
    c.slide-in-HoldOff.ensures s d less ∙ meets l _ at (λ t. ap l.flip {y = was t} (c.fact-in-HoldOff.ensures t)) s (c.in-HoldOff.duration + 1) ∙ ap (meet_over l at s) width
    ∙ span_is self.ready _ (sym c.in-HoldOff.is ∙ c.requires.row) s

pub returns-in-Both : goal.returns-in-Both
returns-in-Both g c s d less =
    c.pair.ensures _ _ c.row.ensures.grades c.row-in-Both.ensures.grades s d less ∙ span_is c.args.self.now.ready _ (sym c.in-Both.is ∙ c.requires.row) s

pub returns-in-Either : goal.returns-in-Either
returns-in-Either g c s d less =
    c.pair-in-Either.ensures _ _ c.row-in-Either.ensures.grades c.row-in-Either-2.ensures.grades s d less ∙ span_is c.args.self.now.ready _ (sym c.in-Either.is ∙ c.requires.row) s

pub returns-in-Not : goal.returns-in-Not
returns-in-Not g c s d less =
    c.flips.ensures _ c.row-in-Not.ensures.grades s d less ∙ span_is c.args.self.now.ready _ (sym c.in-Not.is ∙ c.requires.row) s

pub returns-in-Then : goal.returns-in-Then
returns-in-Then g c s d less =
    let self = c.args.self.now in
    let p = progress_of self.watch.now in
    let e = sym c.in-Then.is ∙ c.requires.row in
    let at = row_span g.G.Grade.ops p self.log.now in
    let ahead = horizon_length (row_at p.sheet.rows) c.in-Then.left in
    let start : s + (c.length.result + 1) ≡ s + horizon (formula_at p.sheet c.in-Then.left) + 1 = omega (arith, ahead) in
    c.pair-in-Then.ensures _ _ c.row-in-Then.ensures.grades c.row_from.ensures.grades s d less
    ∙ ap (λ t. (spans g.G.Grade.ops).meet (at c.in-Then.left s) (at c.in-Then.right t)) start
    ∙ span_is self.ready _ e s

pub returns-in-Within : goal.returns-in-Within
returns-in-Within g c s d less =
    c.write_within.ensures s d less ∙ span_is c.args.self.now.ready _ (sym c.in-Within.is ∙ c.requires.row) s
