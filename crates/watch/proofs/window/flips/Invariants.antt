use Rattle.std.proofs.Common.{◌≡◌, ℕ, ◌<◌, get_or}
use Rattle.watch.proofs.window.flips.Given as goal

abbrev pub invariant-loop-s : goal.invariant-loop-s
invariant-loop-s g l = (i : ℕ) (d : _) → i < l.s → get_or l.cells i d ≡ g.V.Grade.ops.flip (get_or l.row i d)
