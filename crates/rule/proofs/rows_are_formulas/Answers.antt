use Rattle.rule.proofs.Rules.{rows_are_formulas}
use Rattle.rule.proofs.rows_are_formulas.Goals as goal

pub returns : goal.returns
returns c = rows_are_formulas
