use Rattle.layers.proofs.Keeps.Split.{split_keeps}
use Rattle.layers.proofs.split.SplitBus.keeps.Goals as goal

pub returns : goal.returns
returns g c = split_keeps c.keeps.ensures c.keeps-2.ensures
