use Rattle.std.proofs.Common.{◌≡◌, ◌+◌, ◌-◌, length, drop, take, ap, ◌∙◌, arith}
use Rattle.std.proofs.lemmas.List.{length-take-le, length-drop, get_or-take, get_or-drop}
use Rattle.watch.specs.Feeding.{progress_of}
use Rattle.watch.specs.Marking.{row_span}
use Rattle.watch.proofs.record.rows.Basis.row_from.Goals as goal

pub returns-clause-grades : goal.returns-clause-grades
returns-clause-grades g c s d less =
    let self = c.args.self.now in
    let whole = c.row.result.now in
    let start = c.args.start in
    let count = length whole - start in
    let size : length (take count (drop start whole)) ≡ count = length-take-le count (drop start whole) (omega (arith, length-drop start whole)) in
    let turned : start + s ≡ s + start = omega arith in
    get_or-take count (drop start whole) s d (omega (arith, size)) ∙ get_or-drop start whole s d ∙ c.row.ensures.grades (start + s) d (omega (arith, size))
    ∙ ap (row_span g.G.Grade.ops (progress_of self.watch.now) self.log.now c.args.row) turned
