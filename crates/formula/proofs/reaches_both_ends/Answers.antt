use Rattle.formula.proofs.Reached.{reached}
use Rattle.formula.proofs.reaches_both_ends.Goals as goal

pub returns : goal.returns
returns g c = reached g.G.Grade.ops
