use Rattle.rule.proofs.Rules.{ends_can_come}
use Rattle.rule.proofs.reaches_ends.Goals as goal

pub returns : goal.returns
returns g c = ends_can_come g.G.Grade.ops
