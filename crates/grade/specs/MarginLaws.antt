-- Margins are a lattice with a flip: what the usual order of the integers gives.
use Rattle.std.specs.Prelude.{◌≡◌, ◌^◌, ◌<◌, ℤ, pos, negsuc, ◌-ℤ◌, FitsSigned}
use Rattle.std.proofs.Common.{ap, arith}
use Rattle.std.specs.Int.Signed.{mag}
use Rattle.std.specs.Int.{w32}
use Rattle.std.proofs.lemmas.Int.{ints}
use Rattle.grade.specs.Lattice.{Lawful}
use Rattle.grade.specs.Margins.{margin, margins}
use Rattle.grade.specs.declared.margin.Margin.{Margin}
use Rattle.grade.specs.Same.{same_margin}

fits : (x : Margin) → FitsSigned w32 x.value
fits x = record { sfits = x.fits }

pub value_of : (z : ℤ) → mag z < 2 ^ 31 → (margin z).value ≡ z
value_of (pos n) h = ap pos (omega arith)
value_of (negsuc n) h = ap negsuc (omega arith)

pub flip_value : (x : Margin) → (margins.flip x).value ≡ negsuc 0 -ℤ x.value
flip_value x =
    let x_fits = fits x in
    let flip_fits : FitsSigned w32 (negsuc 0 -ℤ x.value) = omega (arith, ints) in
    value_of (negsuc 0 -ℤ x.value) flip_fits.sfits

pub margins_lawful : Lawful margins
margins_lawful = record {
  reflexive = λ x. grind (arith, ints);
  antisymmetric = λ x y p q. same_margin x y (omega (arith, ints));
  transitive = λ x y z p q. grind (arith, ints);
  least = λ x. let f = fits x in grind (arith, ints);
  greatest = λ x. let f = fits x in grind (arith, ints);
  meet_left = λ x y. grind (arith, ints);
  meet_right = λ x y. grind (arith, ints);
  meet_above = λ x y z p q. grind (arith, ints);
  join_left = λ x y. grind (arith, ints);
  join_right = λ x y. grind (arith, ints);
  join_below = λ x y z p q. grind (arith, ints);
  flip_twice = λ x. let once = flip_value x in let twice = flip_value (margins.flip x) in same_margin _ x (omega (arith, ints));
  flip_order = λ x y. rw (flip_value x, flip_value y) (grind (arith, ints));
}
