use Rattle.std.proofs.Common.{refl, arith}
use Rattle.std.proofs.lemmas.Bool.{eq-eqb}
use Rattle.grade.proofs.Arrivals.{one_more, all}
use Rattle.grade.proofs.strip.carry.Goals as goal

pub loop-i-preserved : goal.loop-i-preserved
loop-i-preserved g c =
    one_more _ c.args.from.now c.loop-i.to c.loop-i.i c.index-from-i.result c.translate.result
    (omega arith) (omega arith) c.index-from-i.is c.translate.ensures c.loop-i.invariant

pub returns : goal.returns
returns g c =
    let arrived = all _ c.args.from.now c.loop-i.to c.loop-i.i (omega arith) (omega arith) c.loop-i.invariant in
    let same = eq-eqb _ _ c.if-from-to.false in record {
      whole = rw same (refl, arrived);
      answer = rw same refl;
      strip = rw same arrived;
    }
