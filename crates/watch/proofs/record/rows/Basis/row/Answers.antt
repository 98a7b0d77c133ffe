use Rattle.std.proofs.Common.{◌≡◌, ◌+◌, ◌-◌, ◌*◌, ◌≤◌, length, get_or, drop, take, ap, ◌∙◌, arith, rules}
use Rattle.std.proofs.lemmas.List.{length-take-le, length-drop, get_or-take, get_or-drop}
use Rattle.watch.specs.Feeding.{progress_of, take_length}
use Rattle.watch.proofs.Charting.{lower_room}
use Rattle.watch.proofs.record.rows.Basis.row.Goals as goal

pub slice_bounds-result-end : goal.slice_bounds-result-end
slice_bounds-result-end g c =
    let self = c.args.self.now in
    let room = lower_room self.ready c.args.row _ c.requires c.frames-frames.ensures in
    let inside : c.args.row * c.frames-frames.result + c.saturating_sub-count.result ≤ length self.cells.now = omega (arith, room) in
    search rules

pub returns-clause-grades : goal.returns-clause-grades
returns-clause-grades g c s d less =
    let self = c.args.self.now in
    let first = c.args.row * c.frames-frames.result in
    let count = first + c.saturating_sub-count.result - first in
    let room = lower_room self.ready c.args.row _ c.requires c.frames-frames.ensures in
    let size : length (take count (drop first self.cells.now)) ≡ count = length-take-le count (drop first self.cells.now) (omega (arith, length-drop first self.cells.now, room)) in
    let place : first + s ≡ c.args.row * take_length (progress_of self.watch.now).sheet + s = ap (λ n. c.args.row * n + s) c.frames-frames.ensures in
    get_or-take count (drop first self.cells.now) s d (omega (arith, size)) ∙ get_or-drop first self.cells.now s d ∙ ap (λ i. get_or self.cells.now i d) place
    ∙ self.ready.cells c.args.row s d c.requires (omega (arith, size, c.length.ensures, c.frames-frames.ensures))
