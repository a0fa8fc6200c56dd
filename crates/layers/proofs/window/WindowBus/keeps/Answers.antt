use Rattle.layers.proofs.Keeps.Window.{window_keeps}
use Rattle.layers.proofs.window.WindowBus.keeps.Goals as goal

pub returns : goal.returns
returns g c = window_keeps c.keeps.ensures
