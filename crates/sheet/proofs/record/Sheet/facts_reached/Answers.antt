use Rattle.std.proofs.Common.{◌≡◌, suc, ◌-◌, ◌<◌, false, get_or, sym, subst, arith}
use Rattle.sheet.specs.SideSteps.{HandedOn}
use Rattle.sheet.proofs.Sides.{Swept, swept_start, swept_more, swept_done, row_is_read}
use Rattle.sheet.proofs.record.Sheet.facts_reached.Goals as goal

pub loop-k-init : goal.loop-k-init
loop-k-init c = swept_start c.args.self.now

pub loop-k-preserved : goal.loop-k-preserved
loop-k-preserved c =
    let s = c.args.self.now in
    let i = c.loop-k.k - 1 in
    let up : c.loop-k.k ≡ suc i = omega (arith, c.loop-k-test.true) in
    let within : i < s.count = omega (arith, c.loop-k.auto.k, c.loop-k-test.true) in
    let same = sym (row_is_read s i within) in
    let before = subst (λ k. Swept s k c.loop-k.plain c.loop-k.turned) up c.loop-k.invariant in
    swept_more s i within _ _ _ _ _ _ before
    (subst (λ r. HandedOn r (get_or c.loop-k.plain.rows i false) c.loop-k.plain c.loop-k.turned c.hand_on.new.same c.hand_on.new.other) same c.hand_on.ensures)
    (subst (λ r. HandedOn r (get_or c.hand_on.new.other.rows i false) c.hand_on.new.other c.hand_on.new.same c.hand_on-in-loop-k.new.same c.hand_on-in-loop-k.new.other) same c.hand_on-in-loop-k.ensures)

pub returns : goal.returns
returns c = swept_done c.args.self.now c.loop-k.k c.loop-k.plain c.loop-k.turned c.loop-k-test.false c.loop-k.invariant
