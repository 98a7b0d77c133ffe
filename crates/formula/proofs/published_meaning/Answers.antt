use Rattle.formula.proofs.Published.{published}
use Rattle.formula.proofs.published_meaning.Goals as goal

pub returns : goal.returns
returns c = published
