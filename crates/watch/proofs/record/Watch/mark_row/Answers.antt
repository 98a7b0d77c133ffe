use Rattle.std.proofs.Common.{◌≡◌, ◌-◌, ◌*◌, length, get_or, sym, refl, ap, ◌∙◌, arith}
use Rattle.std.proofs.lemmas.List.{length-take-le}
use Rattle.watch.proofs.Charting.{ready_front, back_room, row_charted}
use Rattle.watch.proofs.record.Watch.mark_row.Goals as goal

pub slice_bounds-write_row-length : goal.slice_bounds-write_row-length
slice_bounds-write_row-length g c =
    let room = back_room c.requires.ready _ _ c.requires.room c.split_at_mut-below.ensures.back_len (ap (λ m. c.args.at * m) c.frames-frames.ensures) in
    sym (length-take-le _ _ (omega (arith, room, c.frames-frames.ensures)))

pub write_row-requires : goal.write_row-requires
write_row-requires g c =
    let cut = c.split_at_mut-below.ensures in
    let place = ap (λ m. c.args.at * m) c.frames-frames.ensures in
    let long_is = c.lengths.ensures.each c.args.at (omega (arith, c.lengths.ensures.count, c.requires.ready.among)) in
    let room = back_room c.requires.ready _ _ c.requires.room cut.back_len place in
    let count = c.frames-frames.result - get_or c.lengths.result.now c.args.at 0 in
    record {
      ready = ready_front c.requires.ready _ _ cut.value (cut.front_len ∙ place);
      row = c.requires.row;
      size = omega (arith, length-take-le count c.split_at_mut-below.result.1.now (omega (arith, room, c.frames-frames.ensures)), long_is);
    }

pub returns-then-length-frames : goal.returns-then-length-frames
returns-then-length-frames g c =
    let cut = c.split_at_mut-below.ensures in
    let place = ap (λ m. c.args.at * m) c.frames-frames.ensures in
    let long_is = c.lengths.ensures.each c.args.at (omega (arith, c.lengths.ensures.count, c.requires.ready.among)) in
    let room = back_room c.requires.ready _ _ c.requires.room cut.back_len place in
    let count = c.frames-frames.result - get_or c.lengths.result.now c.args.at 0 in
    let size : length c.write_row.new.cells ≡ count = omega (arith, length-take-le count c.split_at_mut-below.result.1.now (omega (arith, room, c.frames-frames.ensures))) in
    row_charted c.requires.ready count c.split_at_mut-below.result.0.now c.split_at_mut-below.result.1.now c.write_row.new.cells _ cut.value (cut.front_len ∙ place) size
    (omega (arith, long_is)) (omega (arith, room, c.frames-frames.ensures)) refl c.write_row.ensures
