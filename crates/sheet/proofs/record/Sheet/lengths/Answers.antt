use Rattle.std.proofs.Common.{arith}
use Rattle.std.proofs.lemmas.Grind.{common_steps}
use Rattle.sheet.proofs.record.Sheet.lengths.Goals as goal

pub returns : goal.returns
returns c = record { count = grind (arith, common_steps); each = λ k h. grind (arith, common_steps) }
