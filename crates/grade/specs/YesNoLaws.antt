-- Yes and no are a lattice with a flip.
use Rattle.std.proofs.Common.{arith}
use Rattle.grade.specs.Lattice.{Lawful}
use Rattle.grade.specs.YesNo.{yes_no}

pub yes_no_lawful : Lawful yes_no
yes_no_lawful = record {
  reflexive = λ x. grind arith;
  antisymmetric = λ x y p q. grind arith;
  transitive = λ x y z p q. grind arith;
  least = λ x. grind arith;
  greatest = λ x. grind arith;
  meet_left = λ x y. grind arith;
  meet_right = λ x y. grind arith;
  meet_above = λ x y z p q. grind arith;
  join_left = λ x y. grind arith;
  join_right = λ x y. grind arith;
  join_below = λ x y z p q. grind arith;
  flip_twice = λ x. grind arith;
  flip_order = λ x y. grind arith;
}
