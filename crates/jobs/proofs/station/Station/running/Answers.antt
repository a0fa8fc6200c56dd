use Rattle.std.proofs.Common.{ap}
use Rattle.jobs.specs.Station.{running}
use Rattle.jobs.proofs.station.Station.running.Goals as goal

pub returns : goal.returns
returns g c s h = ap (running s) (c.into_parts-pile.ensures h)
