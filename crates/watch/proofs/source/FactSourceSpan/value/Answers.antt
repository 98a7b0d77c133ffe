use Rattle.std.proofs.Common.{◌+◌, ◌*◌, ◌<◌, length, arith, rules}
use lib.Arith.{digits_lt}
use Rattle.watch.proofs.source.FactSourceSpan.value.Goals as goal

pub offset_bounds-self-t : goal.offset_bounds-self-t
offset_bounds-self-t g c =
    let self = c.args.self.now in
    let there : c.args.t * self.facts + self.fact < length self.log.now = omega (arith, digits_lt c.if-t-self.true self.is_one, self.logged) in
    search rules
