use Rattle.std.proofs.Common.{◌≡◌, ℕ, ◌<◌, get_or}
use Rattle.watch.specs.Windows.{over}
use Rattle.watch.proofs.window.slide.Given as goal

abbrev pub invariant-loop-start : goal.invariant-loop-start
invariant-loop-start g l =
    (i : ℕ) (d : _) → i < l.start → i < l.count → get_or l.cells i d ≡ over g.F.Fold.none g.F.Fold.combine (g.S.Source.at l.source) i l.width
