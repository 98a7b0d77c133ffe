use Rattle.watch.specs.Feeding.{progress_of}
use Rattle.watch.proofs.Marks.{Sofar}
use Rattle.watch.proofs.record.Watch.mark.Given as goal

abbrev pub invariant-loop-at : goal.invariant-loop-at
invariant-loop-at g l = Sofar g.G.Grade.ops (progress_of l.self) l.log l.at l.initial.chart l.chart
