-- Margins as grades: the numbers from -2147483648 to 2147483647 in their usual order.
use Rattle.std.specs.Prelude.{◌^◌, ◌<◌, Bool, cond, ℤ, pos, negsuc, ◌-ℤ◌, int_le}
use Rattle.std.proofs.Common.{arith}
use Rattle.std.specs.Int.Signed.{mag}
use Rattle.std.specs.Int.{saturate_to_bits}
use Rattle.grade.specs.Lattice.{Lattice}
use Rattle.grade.specs.declared.margin.Margin.{Margin}

pub saturated_fits : (z : ℤ) → mag (saturate_to_bits 31 z) < 2 ^ 31
saturated_fits (pos n) = omega arith
saturated_fits (negsuc n) = omega arith

-- the margin of z, or the nearest where z is none
abbrev pub margin : ℤ → Margin
margin z = record { value = saturate_to_bits 31 z; fits = saturated_fits z }

abbrev pub margins : Lattice Margin
margins = record {
  top = margin (pos 2147483647);
  bottom = margin (negsuc 2147483647);
  le = λ x y. int_le x.value y.value;
  -- the lower and the higher of the two
  meet = λ x y. cond (int_le x.value y.value) x y;
  join = λ x y. cond (int_le y.value x.value) x y;
  -- -1 - x, which is a margin for every x
  flip = λ x. margin (negsuc 0 -ℤ x.value);
}

-- met is from 0 upward, and missed below
abbrev pub met : Margin → Bool
met m = int_le (pos 0) m.value
