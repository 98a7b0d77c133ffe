use Rattle.sheet.proofs.Kept.{sheet_keeps}
use Rattle.watch.proofs.Verdict.{settles}
use Rattle.watch.specs.Feeding.{progress_of}
use Rattle.grade.specs.YesNoLaws.{yes_no_lawful}
use Rattle.watch.proofs.judge.settle.Goals as goal

pub returns : goal.returns
returns c = record { mark = c.mark.ensures; published = settles yes_no_lawful (progress_of c.args.watch.now) (sheet_keeps c.args.watch.now.sheet) c.args.log.now _ _ _ c.mark.ensures }
