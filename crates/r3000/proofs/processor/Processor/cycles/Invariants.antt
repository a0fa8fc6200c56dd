use Rattle.r3000.specs.Core.{machine_of_parts}
use Rattle.r3000.specs.Cycle.{Cycles}
use Rattle.r3000.specs.Machine.{History}
use Rattle.r3000.proofs.Upheld.{Anything}
use Rattle.r3000.proofs.processor.Processor.cycles.Given as goal

abbrev pub invariant-loop : goal.invariant-loop
invariant-loop g l =
    (h : History)
    → (k : History)
    × Cycles g.B.Bus.steps Anything l.counter (machine_of_parts h l.initial.self l.initial.pile)
    (machine_of_parts k (record { chip = l.chip; lines = l.initial.self.lines; counts = l.counts }) l.pile)
