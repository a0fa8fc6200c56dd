use Rattle.bus.specs.Settle.{Waits}
use Rattle.bus.proofs.memory.Bus.settle.Given as goal

abbrev pub invariant-loop-waits : goal.invariant-loop-waits
invariant-loop-waits g l = Waits g.Self.Bus.steps l.q l.waits l.initial.self l.self
