use Rattle.std.proofs.Common.{◌≡◌, ◌*◌, length}
use Rattle.sheet.specs.Sheets.{sheet_of}
use Rattle.watch.specs.Feeding.{progress, progress_of, take_length}
use Rattle.bench.proofs.Telling.{ToldSoFar}
use Rattle.bench.proofs.judge_frames.Given as goal

abbrev pub invariant-loop-accepted : goal.invariant-loop-accepted
invariant-loop-accepted g l =
    let w = sheet_of l.sheet in
    record {
      watch : progress_of l.watch ≡ progress w l._accepted;
      log : length l.log ≡ w.facts * take_length w;
      chart : length l.chart ≡ length w.rows * take_length w;
      told : ToldSoFar w (g.R.Read.remaining l.initial.input) (g.R.Read.remaining l.input) (g.W.Write.contents l.initial.output) (g.W.Write.contents l.output) l._accepted l.log;
    }
