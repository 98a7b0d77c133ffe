use Rattle.rule.proofs.Rules.{published_rule}
use Rattle.rule.proofs.published_meaning.Goals as goal

pub returns : goal.returns
returns c = published_rule
