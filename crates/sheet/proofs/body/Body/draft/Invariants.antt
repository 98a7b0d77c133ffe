use Rattle.sheet.specs.Steps.{body_in}
use Rattle.sheet.proofs.Reading.{Sofar}
use Rattle.sheet.proofs.body.Body.draft.Given as goal

abbrev pub invariant-loop-k : goal.invariant-loop-k
invariant-loop-k l = Sofar (body_in l.self) l.k-counter l.rows l.lengths
