use Rattle.std.proofs.Common.{refl}
use Rattle.r3000.specs.Core.{machine_of}
use Rattle.r3000.proofs.Upheld.{stays}
use Rattle.r3000.proofs.cpu.Core.register.Goals as goal

pub returns-then-from-ge-REGISTERS-clause-core : goal.returns-then-from-ge-REGISTERS-clause-core
returns-then-from-ge-REGISTERS-clause-core g c h =
    (h, refl, stays c.promise.ensures (machine_of h c.args.self.now) (machine_of h c.args.self.now) refl)

pub returns-clause-core : goal.returns-clause-core
returns-clause-core g c h =
    (h, refl, stays c.promise.ensures (machine_of h c.args.self.now) (machine_of h c.args.self.now) refl)
