use Rattle.rule.proofs.Rules.{enclosed}
use Rattle.rule.proofs.encloses.Goals as goal

pub returns : goal.returns
returns g c = enclosed g.met.G.Grade.lawful
