use Rattle.sheet.proofs.Reading.{getD_same}
use Rattle.std.proofs.Common.{false}
use Rattle.sheet.proofs.draft.Draft.named.Goals as goal

pub loop-k-init : goal.loop-k-init
loop-k-init c = λ j. getD_same 32 j false
