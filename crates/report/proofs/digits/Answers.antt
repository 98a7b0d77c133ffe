use Rattle.std.proofs.Common.{◌∙◌, arith}
use Rattle.std.proofs.lemmas.List.{length-set}
use Rattle.report.proofs.Numerals.{digit_more}
use Rattle.report.proofs.digits.Goals as goal

pub loop-place-preserved : goal.loop-place-preserved
loop-place-preserved g c =
    let so = c.loop-place.invariant in
    record {
      size = length-set c.loop-place.digits _ _ ∙ so.size;
      so_far = digit_more g.row.BASE c.loop-place.place c.loop-place.rest c.digit_of.result _ _ c.loop-place-test.true (omega (arith, so.size)) c.digit_of.ensures so.so_far;
    }
