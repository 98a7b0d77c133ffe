use Rattle.formula.proofs.Enclose.{enclosure}
use Rattle.formula.proofs.encloses.Goals as goal

pub returns : goal.returns
returns g c = enclosure g.met.G.Grade.lawful
