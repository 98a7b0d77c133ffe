use Rattle.std.proofs.Common.{◌≡◌, ℕ, ◌+◌, ◌-◌, ◌<◌, ◌≤◌, length, drop, take, ap, ◌∙◌, ⊎_elim, arith}
use Rattle.std.proofs.lemmas.List.{length-take-le, length-drop, get_or-take, get_or-drop}
use Rattle.std.proofs.lemmas.Bool.{cases_lt}
use borrow.Rule.Slice.PartMut.{same_len_mid}
use Rattle.watch.specs.Windows.{over}
use Rattle.watch.proofs.Filling.{part_before, part_here}
use Rattle.watch.proofs.Folds.{over_joined}
use Rattle.watch.proofs.window.block.Goals as goal

pub returns : goal.returns
returns g c s d less =
    let f = g.F.Fold in
    let at = g.S.Source.at c.args.source.now in
    let mid = c.rests.new.cells in
    let new = c.beginnings.new.cells in
    let end = c.args.start + c.args.width in
    let rest = λ (j : ℕ). over f.none f.combine at (c.args.start + j) (c.args.width - j) in
    let n = length mid - 1 in
    let some : 1 ≤ length mid = omega (arith, c.requires.some) in
    let whole : length (take n (drop 1 mid)) ≡ n = length-take-le n (drop 1 mid) (omega (arith, length-drop 1 mid)) in
    ⊎_elim
    (λ first.
    let size : c.args.width - s ≡ c.args.width = omega arith in
    part_before 1 n mid new s d some first ∙ c.rests.ensures s d (omega arith) ∙ ap (over f.none f.combine at (c.args.start + s)) size)
    (λ later.
    let next : (i : ℕ) → 1 + i ≡ i + 1 = λ i. omega arith in
    let j = s - 1 in
    let up : j + 1 ≡ s = omega arith in
    let inside : s < length mid = omega (arith, same_len_mid 1 n mid new (omega (arith, whole))) in
    part_here 1 n mid new s d some later (omega (arith, whole))
    ∙ c.beginnings.ensures (λ i. rest (i + 1))
    (λ i e lt. get_or-take n (drop 1 mid) i e (omega (arith, whole)) ∙ get_or-drop 1 mid i e ∙ c.rests.ensures (1 + i) e (omega (arith, whole)) ∙ ap rest (next i))
    j d (omega (arith, whole))
    ∙ ap (λ i. f.combine (rest i) (over f.none f.combine at end i)) up
    ∙ over_joined f.none f.combine g.met.F.Fold.folds at c.args.start s c.args.width (omega (arith, inside, c.requires.block)))
    (cases_lt s 1)
