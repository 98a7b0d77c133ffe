-- The checker computes every line.
use Rattle.std.proofs.Common.{refl}
use Rattle.report.specs.Texts.{line_text}
use Rattle.played.proofs.table_is_right.Goals as goal

pub returns-clause-right : goal.returns-clause-right
unfolding line_text
returns-clause-right c = refl

pub returns-clause-exact : goal.returns-clause-exact
unfolding line_text
returns-clause-exact c = refl
