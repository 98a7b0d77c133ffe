use Rattle.formula.proofs.Carried.{translations_carry}
use Rattle.formula.proofs.translations_carry.Goals as goal

pub returns : goal.returns
returns g c t = translations_carry _ _ _ (g.met.T.Translation.carries t)
