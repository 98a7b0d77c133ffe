use Rattle.std.proofs.Common.{◌≡◌, ℕ, ◌<◌, get_or}
use Rattle.watch.proofs.window.pair.Given as goal

abbrev pub invariant-loop-s : goal.invariant-loop-s
invariant-loop-s g l = (i : ℕ) (d : _) → i < l.s → get_or l.cells i d ≡ g.F.Fold.combine (get_or l.left i d) (get_or l.right i d)
