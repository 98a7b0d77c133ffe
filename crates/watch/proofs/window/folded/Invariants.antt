use Rattle.std.proofs.Common.{◌≡◌, ◌+◌, ◌-◌}
use Rattle.watch.specs.Windows.{over}
use Rattle.watch.proofs.window.folded.Given as goal

abbrev pub invariant-loop-j : goal.invariant-loop-j
invariant-loop-j g l = l.all ≡ over g.F.Fold.none g.F.Fold.combine (g.S.Source.at l.source) (l.start + l.j) (l.count - l.j)
