use Rattle.std.proofs.Common.{pos, refl}
use Rattle.std.proofs.lemmas.Bool.{false≢true}
use Rattle.grade.specs.Margins.{margin}
use Rattle.grade.proofs.neighbours.no_cut_at_one.Goals as goal

pub returns : goal.returns
returns c = record {
  flips = refl;
  one_yes = refl;
  zero_no = refl;
  flip_no = refl;
  no_translation = λ carries. false≢true (carries.flip (margin (pos 0)));
}
