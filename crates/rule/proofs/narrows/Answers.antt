use Rattle.rule.proofs.Rules.{narrows}
use Rattle.rule.proofs.narrows.Goals as goal

pub returns : goal.returns
returns g c = narrows g.met.G.Grade.lawful
