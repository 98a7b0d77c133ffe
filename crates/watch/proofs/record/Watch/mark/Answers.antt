use Rattle.std.proofs.Common.{◌≡◌, ◌*◌, ◌≤◌, length, get_or, ap, ◌∙◌, subst, ap₂, arith}
use Rattle.std.proofs.lemmas.List.{get_or_read, get_or-drop}
use Rattle.grade.specs.Spans.{spans}
use Rattle.watch.specs.Feeding.{progress_of, take_length}
use Rattle.watch.proofs.Marks.{Sofar, sofar_more, ready_from, all_charted, last_cell, last_inside, no_refusal}
use Rattle.watch.proofs.record.Watch.mark.Goals as goal

pub mark_row-requires-clause-ready : goal.mark_row-requires-clause-ready
mark_row-requires-clause-ready g c =
    let p = progress_of c.args.self.now in
    let n_is = c.frames-frames.ensures in
    let log : p.sheet.facts * take_length p.sheet ≤ length c.args.log.now = subst (λ m. m ≤ length c.args.log.now) (ap₂ ◌*◌ c.facts.ensures n_is) c.if-log-facts.false in
    let chart : length p.sheet.rows * take_length p.sheet ≤ length c.args.chart.now = subst (λ m. m ≤ length c.args.chart.now) (ap₂ ◌*◌ (ap length c.rows-rows.ensures.rows) n_is) c.if-chart-rows.false in
    ready_from g.G.Grade.ops p c.args.log.now c.loop-at.at c.args.chart.now c.loop-at.chart c.rows-rows.ensures.keeps log chart
    (omega (arith, ap length c.rows-rows.ensures.rows)) c.loop-at.invariant

pub loop-at-preserved : goal.loop-at-preserved
loop-at-preserved g c = sofar_more _ _ _ _ _ _ _ c.loop-at.invariant c.mark_row.ensures

pub returns : goal.returns
returns g c =
    let l = g.G.Grade.ops in
    let p = progress_of c.args.self.now in
    let log = c.args.log.now in
    let n_is = c.frames-frames.ensures in
    let rows_is = ap length c.rows-rows.ensures.rows in
    let some = c.rows-rows.ensures.keeps.some_row in
    let end : c.loop-at.at ≡ length p.sheet.rows = omega (arith, rows_is) in
    let so = subst (λ k. Sofar l p log k c.args.chart.now c.loop-at.chart) end c.loop-at.invariant in (
      no_refusal p _ _ (subst (λ m. m ≤ length log) (ap₂ ◌*◌ c.facts.ensures n_is) c.if-log-facts.false) (subst (λ m. m ≤ length c.args.chart.now) (ap₂ ◌*◌ rows_is n_is) c.if-chart-rows.false),
      get_or_read c.split_at.result.1.now 0 _ (omega (arith, last_inside p _ _ _ some rows_is n_is c.if-chart-rows.false)) c.index-rule-0.is (spans l).bottom ∙ ap (λ xs. get_or xs 0 (spans l).bottom) c.split_at.ensures.back
          ∙ get_or-drop _ c.loop-at.chart 0 (spans l).bottom ∙ last_cell l p log _ _ c.args.chart.now c.loop-at.chart (spans l).bottom some rows_is n_is so,
      c.is_exact.ensures,
      all_charted l p log _ _ so,
    )
