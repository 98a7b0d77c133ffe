use Rattle.std.proofs.Common.{◌≡◌, ℕ, ◌+◌, ◌-◌, subst, arith}
use Rattle.watch.specs.Windows.{over}
use Rattle.watch.proofs.Filling.{filled}
use Rattle.watch.proofs.Folds.{over_more}
use Rattle.watch.proofs.window.rests.Goals as goal

pub loop-j-preserved : goal.loop-j-preserved
loop-j-preserved g c =
    let f = g.F.Fold in
    let at = g.S.Source.at c.args.source.now in
    let from = λ (j : ℕ). over f.none f.combine at (c.args.start + j) (c.args.width - j) in
    let j = c.loop-j.j - 1 in
    let up : c.loop-j.j ≡ j + 1 = omega arith in
    let before : c.loop-j.rest ≡ from (j + 1) = subst (λ k. c.loop-j.rest ≡ from k) up c.loop-j.invariant.0 in
    let more = over_more f.none f.combine at c.args.start j c.args.width (omega arith) in
    let rest : c.combine-rest.result ≡ from j = cc in
    (rest, λ i d low high. filled (λ i _. from i) _ j _ (omega arith) (λ _. rest) i d (λ apart. c.loop-j.invariant.1 i d (omega (arith, apart)) high))
