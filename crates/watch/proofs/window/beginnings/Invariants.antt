use Rattle.std.proofs.Common.{◌≡◌, ℕ, ◌+◌, ◌<◌, ◌≤◌, get_or}
use Rattle.watch.specs.Windows.{over}
use Rattle.watch.proofs.window.beginnings.Given as goal

abbrev pub invariant-loop-j : goal.invariant-loop-j
invariant-loop-j g l =
    let first = over g.F.Fold.none g.F.Fold.combine (g.S.Source.at l.source) l.next in record {
      head : l.beginning ≡ first l.j;
      done : (i : ℕ) (d : _) → i < l.j → get_or l.cells i d ≡ g.F.Fold.combine (get_or l.initial.cells i d) (first (i + 1));
      rest : (i : ℕ) (d : _) → l.j ≤ i → get_or l.cells i d ≡ get_or l.initial.cells i d;
    }
