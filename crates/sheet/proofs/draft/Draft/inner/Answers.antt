use Rattle.std.proofs.Common.{◌∙◌, sym, ap, ◌-◌, false, arith}
use mathlib.Core.Path.{fun_ext}
use Rattle.sheet.specs.Rules.{row_at}
use Rattle.sheet.specs.Loading.{inner_from}
use Rattle.sheet.proofs.Reading.{getD_same}
use Rattle.sheet.proofs.Inner.{inner_more}
use Rattle.sheet.proofs.draft.Draft.inner.Goals as goal

pub loop-k-init : goal.loop-k-init
loop-k-init c = λ j. ap (λ f. inner_from (row_at c.args.self.now.rows) c.args.self.now.count f j) (fun_ext (λ k. getD_same 32 k false))

pub loop-k-preserved : goal.loop-k-preserved
loop-k-preserved c = λ j.
    sym (ap (λ f. f j) (inner_more (row_at c.args.self.now.rows) c.args.self.now.count (c.loop-k.k - 1) c.loop-k.k _ _ _ _ (omega (arith, c.loop-k-test.true)) c.row.ensures.0 c.row.ensures.1 c.raise_inner.ensures))
    ∙ c.loop-k.invariant j
