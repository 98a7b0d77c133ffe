use Rattle.rule.proofs.Rules.{rule_carried}
use Rattle.rule.proofs.translations_carry.Goals as goal

pub returns : goal.returns
returns g c t = rule_carried (g.met.T.Translation.carries t)
