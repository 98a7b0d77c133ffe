use Rattle.std.proofs.Common.{◌≡◌, ◌++◌, length, drop}
use Rattle.report.specs.Texts.{digits_in}
use Rattle.report.proofs.digits.Given as goal

abbrev pub invariant-loop-place : goal.invariant-loop-place
invariant-loop-place g l =
    record {
      size : length l.digits ≡ g.row.N;
      so_far : digits_in g.row.BASE g.row.N l.fn.value ≡ digits_in g.row.BASE l.place l.rest ++ drop l.place l.digits;
    }
