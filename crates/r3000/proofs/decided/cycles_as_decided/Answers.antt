use Rattle.r3000.proofs.DecidedCycles.{cycles_as_decided}
use Rattle.r3000.proofs.decided.cycles_as_decided.Goals as goal

pub returns : goal.returns
returns g c = cycles_as_decided g.B.Bus.means g.B.Bus.steps c.keeps.ensures
