use Rattle.watch.proofs.Played.{played_life}
use Rattle.watch.proofs.judge.played_life.Goals as goal

pub returns : goal.returns
returns c = played_life
