use Rattle.std.proofs.Common.{refl}
use Rattle.watch.specs.Life.{marks}
use Rattle.sheet.proofs.Kept.{sheet_keeps}
use Rattle.watch.proofs.Living.{whole_life}
use Rattle.watch.proofs.judge.judge.Goals as goal

pub returns : goal.returns
returns g c = record {
  mark = c.mark.ensures;
  whole_life = λ t es life.
      whole_life g.met.T.From.Grade.lawful _ (sheet_keeps c.args.watch.now.sheet) (g.met.T.Translation.carries t) (marks life _ _ _ c.mark.ensures) _ refl;
}
