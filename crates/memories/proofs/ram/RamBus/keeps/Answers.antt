use Rattle.memories.proofs.Keeps.Region.{ram_keeps}
use Rattle.memories.proofs.ram.RamBus.keeps.Goals as goal

pub returns : goal.returns
returns c = ram_keeps
