use Rattle.std.proofs.Common.{◌≡◌, ℕ, ◌+◌, ◌-◌, ◌<◌, ◌≤◌, get_or}
use Rattle.watch.specs.Windows.{over}
use Rattle.watch.proofs.window.rests.Given as goal

abbrev pub invariant-loop-j : goal.invariant-loop-j
invariant-loop-j g l =
    let from = λ (j : ℕ). over g.F.Fold.none g.F.Fold.combine (g.S.Source.at l.source) (l.start + j) (l.width - j) in
    (l.rest ≡ from l.j) × ((i : ℕ) (d : _) → l.j ≤ i → i < l.count → get_or l.cells i d ≡ from i)
