use Rattle.std.proofs.Common.{◌≡◌, length, refl, ◌∙◌}
use Rattle.std.proofs.lemmas.Grind.{put_two}
use Rattle.std.proofs.lemmas.Iterator.{YieldsList-from_slice, YieldsList-from_zip}
use Rattle.std.proofs.lemmas.Iterator.Consumers.{YieldsList-from_enumerate, YieldsList-turn, YieldsList-end}
use Rattle.std.proofs.lemmas.List.{length_push}
use Rattle.sheet.specs.Sheets.{sheet_of}
use Rattle.listing.proofs.Lines.{lines_more, pairs}
use Rattle.listing.proofs.InWordsDisplay.fmt.Goals as goal

pub loop-index-preserved : goal.loop-index-preserved
loop-index-preserved g c = λ plain.
    let rows = (sheet_of c.args.self.now.sheet.now).rows in
    let lengths = c.lengths.result.now in
    let chain = YieldsList-from_enumerate (YieldsList-from_zip (YieldsList-from_slice rows (cc)) (YieldsList-from_slice lengths (cc))) (cc) in
    let turn = YieldsList-turn chain c.loop-index.yielded _ c.loop-index.yielded_by _ c.next.new.self (c.in-Some.index, (c.in-Some.row, c.in-Some.length)) c.in-Some.is c.next.ensures.steps in
    let so_far = c.loop-index.invariant plain in
    put_two _ _ _ _ _ _ _ so_far (c.in_ok-write-2.ensures.writes so_far.plain refl)
    (lines_more rows lengths c.lengths.ensures.count c.lengths.ensures.each (length c.loop-index.yielded) c.in-Some.index c.in-Some.row.now c.in-Some.length.now turn _ (length_push c.loop-index.yielded _))

pub returns-clause-writes : goal.returns-clause-writes
returns-clause-writes g c = λ plain done.
    let rows = (sheet_of c.args.self.now.sheet.now).rows in
    let lengths = c.lengths.result.now in
    let chain = YieldsList-from_enumerate (YieldsList-from_zip (YieldsList-from_slice rows (cc)) (YieldsList-from_slice lengths (cc))) (cc) in
    let end = YieldsList-end chain c.loop-index.yielded _ c.loop-index.yielded_by _ c.next.new.self c.in-None.is c.next.ensures.steps in
    let count : length c.loop-index.yielded ≡ length rows = end.1 ∙ pairs rows lengths c.lengths.ensures.count c.lengths.ensures.each in
    let head = c.in_ok-write.ensures.writes plain refl in
    put_two _ _ _ _ _ _ _ head (c.loop-index.invariant head.plain) (cc)
