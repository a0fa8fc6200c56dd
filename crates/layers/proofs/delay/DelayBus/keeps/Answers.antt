use Rattle.layers.proofs.Keeps.Delay.{delay_keeps}
use Rattle.layers.proofs.delay.DelayBus.keeps.Goals as goal

pub returns : goal.returns
returns g c = delay_keeps c.keeps.ensures
