-- The plain grades: no is below yes.
use Rattle.std.specs.Prelude.{Bool, true, false, not, ◌&&◌, ◌||◌}
use Rattle.grade.specs.Lattice.{Lattice}

abbrev pub yes_no : Lattice Bool
yes_no = record {
  top = true;
  bottom = false;
  le = λ x y. not x || y;
  meet = ◌&&◌;
  join = ◌||◌;
  flip = not;
}
