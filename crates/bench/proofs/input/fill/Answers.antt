use Rattle.std.proofs.Common.{rules, arith}
use Rattle.bench.proofs.Taking.{grown}
use Rattle.bench.proofs.input.fill.Goals as goal

pub loop-turn-preserved : goal.loop-turn-preserved
loop-turn-preserved g c =
    let so = c.loop-turn.invariant in
    record {
      inside = search rules;
      far = omega arith;
      room = search rules;
      taken = grown _ _ _ c.loop-turn.got c.in_ok-more.more _ _ _ (omega arith) c.in_ok-more.ensures.bound.0 so.taken c.in_ok-more.ensures.bytes.0;
    }
