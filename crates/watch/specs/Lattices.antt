-- The meet and the join of a lattice fold.
use Rattle.std.specs.Prelude.{◌≡◌, true}
use Rattle.grade.specs.Lattice.{Lattice, Lawful}
use Rattle.watch.specs.Windows.{Folding}

module _ {V : Type 0} {l : Lattice V} (law : Lawful l) where
  under : (x y z : V) → l.le x y ≡ true → l.le y z ≡ true → l.le x z ≡ true
  under = law.transitive

  pub meet_folds : Folding l.top l.meet
  meet_folds =
      let m = l.meet in
      record {
        none_left = λ x. law.antisymmetric _ _ (law.meet_right _ x) (law.meet_above _ x x (law.greatest x) (law.reflexive x));
        none_right = λ x. law.antisymmetric _ _ (law.meet_left x _) (law.meet_above x _ x (law.reflexive x) (law.greatest x));
        assoc = λ x y z.
            law.antisymmetric _ _
            (law.meet_above x (m y z) _
            (under _ (m x y) x (law.meet_left (m x y) z) (law.meet_left x y))
            (law.meet_above y z _ (under _ (m x y) y (law.meet_left (m x y) z) (law.meet_right x y)) (law.meet_right (m x y) z)))
            (law.meet_above (m x y) z _
            (law.meet_above x y _ (law.meet_left x (m y z)) (under _ (m y z) y (law.meet_right x (m y z)) (law.meet_left y z)))
            (under _ (m y z) z (law.meet_right x (m y z)) (law.meet_right y z)));
      }

  pub join_folds : Folding l.bottom l.join
  join_folds =
      let j = l.join in
      record {
        none_left = λ x. law.antisymmetric _ _ (law.join_below _ x x (law.least x) (law.reflexive x)) (law.join_right _ x);
        none_right = λ x. law.antisymmetric _ _ (law.join_below x _ x (law.reflexive x) (law.least x)) (law.join_left x _);
        assoc = λ x y z.
            law.antisymmetric _ _
            (law.join_below (j x y) z _
            (law.join_below x y _ (law.join_left x (j y z)) (under y (j y z) _ (law.join_left y z) (law.join_right x (j y z))))
            (under z (j y z) _ (law.join_right y z) (law.join_right x (j y z))))
            (law.join_below x (j y z) _
            (under x (j x y) _ (law.join_left x y) (law.join_left (j x y) z))
            (law.join_below y z _ (under y (j x y) _ (law.join_right x y) (law.join_left (j x y) z)) (law.join_right (j x y) z)));
      }
