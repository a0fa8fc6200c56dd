use Rattle.bus.proofs.Decided.{settles}
use Rattle.bus.proofs.settle.settles_as_decided.Goals as goal

pub returns : goal.returns
returns g c = settles g.B.Bus.means g.B.Bus.steps
