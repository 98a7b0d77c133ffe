use Rattle.std.proofs.Common.{◌≡◌, map, take}
use Rattle.grade.proofs.strip.carry.Given as goal

-- the grades so far have arrived
abbrev pub invariant-loop-i : goal.invariant-loop-i
invariant-loop-i g l = take l.i l.to ≡ map (g.T.Translation.map l.t) (take l.i l.from)
