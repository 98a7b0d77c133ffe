use Rattle.std.proofs.Common.{◌≡◌}
use Rattle.bench.specs.Words.{decoded}
use Rattle.bench.proofs.frames.decode.Given as goal

abbrev pub invariant-loop-f : goal.invariant-loop-f
invariant-loop-f l = l.frame ≡ decoded l.bytes l.initial.frame l.f
