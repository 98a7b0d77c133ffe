use Rattle.sheet.proofs.Sides.{Swept}
use Rattle.sheet.proofs.record.Sheet.facts_reached.Given as goal

abbrev pub invariant-loop-k : goal.invariant-loop-k
invariant-loop-k l = Swept l.self l.k l.plain l.turned
