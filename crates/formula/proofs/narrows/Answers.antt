use Rattle.formula.proofs.Known.{narrowing}
use Rattle.formula.proofs.narrows.Goals as goal

pub returns : goal.returns
returns g c = narrowing g.met.G.Grade.lawful
