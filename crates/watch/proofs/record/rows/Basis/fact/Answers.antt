use Rattle.std.proofs.Common.{◌*◌, ◌≤◌, length, mul-le-mul_right, mul_comm, arith}
use Rattle.watch.specs.Feeding.{progress_of, take_length}
use Rattle.watch.proofs.record.rows.Basis.fact.Goals as goal

pub invariant_of-result : goal.invariant_of-result
invariant_of-result g c =
    let self = c.args.self.now in
    let p = progress_of self.watch.now in
    let within = mul-le-mul_right p.sheet.facts self.watch.now.within in
    let logged : p.count * p.sheet.facts ≤ length self.log.now = omega (arith, within, mul_comm (take_length p.sheet) p.sheet.facts, self.ready.log_room) in
    record { is_one = rw c.facts.ensures c.requires; logged = rw c.facts.ensures logged }
