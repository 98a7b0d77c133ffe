-- What a grade is: a lattice with a least and a greatest value and a flip that turns its order round.
-- Nothing here asks that meet and join distribute.
use Rattle.std.specs.Prelude.{◌≡◌, Bool, true}

pub record Lattice (V : Type 0) : Type 0 where
  pub top : V
  pub bottom : V
  -- the order question: is the first below the second?
  pub le : V → V → Bool
  pub meet : V → V → V
  pub join : V → V → V
  pub flip : V → V

pub record Lawful {V : Type 0} (l : Lattice V) : Type 0 where
  -- below is a partial order
  pub reflexive : (x : V) → l.le x x ≡ true
  pub antisymmetric : (x y : V) → l.le x y ≡ true → l.le y x ≡ true → x ≡ y
  pub transitive : (x y z : V) → l.le x y ≡ true → l.le y z ≡ true → l.le x z ≡ true
  -- with a least and a greatest value
  pub least : (x : V) → l.le l.bottom x ≡ true
  pub greatest : (x : V) → l.le x l.top ≡ true
  -- the meet is below both operands, and above all that is below both
  pub meet_left : (x y : V) → l.le (l.meet x y) x ≡ true
  pub meet_right : (x y : V) → l.le (l.meet x y) y ≡ true
  pub meet_above : (x y z : V) → l.le z x ≡ true → l.le z y ≡ true → l.le z (l.meet x y) ≡ true
  -- the join is above both operands, and below all that is above both
  pub join_left : (x y : V) → l.le x (l.join x y) ≡ true
  pub join_right : (x y : V) → l.le y (l.join x y) ≡ true
  pub join_below : (x y z : V) → l.le x z ≡ true → l.le y z ≡ true → l.le (l.join x y) z ≡ true
  -- flipping twice gives the value back, and x is below y exactly when flip y is below flip x
  pub flip_twice : (x : V) → l.flip (l.flip x) ≡ x
  pub flip_order : (x y : V) → l.le x y ≡ l.le (l.flip y) (l.flip x)
