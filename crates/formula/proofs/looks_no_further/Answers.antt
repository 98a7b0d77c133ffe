use Rattle.formula.proofs.Carried.{local}
use Rattle.formula.proofs.looks_no_further.Goals as goal

pub returns : goal.returns
returns g c = local g.G.Grade.ops
