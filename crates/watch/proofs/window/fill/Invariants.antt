use Rattle.std.proofs.Common.{◌≡◌, ℕ, ◌<◌, get_or}
use Rattle.watch.proofs.window.fill.Given as goal

abbrev pub invariant-loop-cell : goal.invariant-loop-cell
invariant-loop-cell g l = (i : ℕ) (d : _) → i < l.cell-index → get_or l.cells i d ≡ l.value
