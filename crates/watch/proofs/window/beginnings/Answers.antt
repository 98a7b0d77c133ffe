use Rattle.std.proofs.Common.{◌≡◌, ◌+◌, get_or, ◌∙◌, arith, rules}
use Rattle.std.proofs.lemmas.List.{get_or_default}
use Rattle.watch.specs.Windows.{over}
use Rattle.watch.proofs.Filling.{filled}
use Rattle.watch.proofs.Folds.{over_next}
use Rattle.watch.proofs.window.beginnings.Goals as goal

pub loop-j-preserved : goal.loop-j-preserved
loop-j-preserved g c =
    let f = g.F.Fold in
    let at = g.S.Source.at c.args.source.now in
    let first = over f.none f.combine at c.args.next in
    let j = c.loop-j.j in
    let so = c.loop-j.invariant in
    let more = over_next f.none f.combine g.met.F.Fold.folds at c.args.next j in
    let head : c.combine-beginning.result ≡ first (j + 1) = cc in
    record {
      head = head;
      done = λ i d less.
          filled (λ i d. f.combine (get_or c.args.cells.now i d) (first (i + 1))) c.loop-j.cells j c.combine.result (omega arith)
          (λ d. let rest : get_or c.loop-j.cells j c.index-cells-j.result ≡ get_or c.args.cells.now j d = get_or_default c.loop-j.cells j c.index-cells-j.result d (omega arith) ∙ so.rest j d (omega arith) in cc)
          i d (λ apart. so.done i d (omega (arith, apart)));
      rest = λ i d low. search rules;
    }
