use Rattle.memories.proofs.Keeps.Region.{scratch_keeps}
use Rattle.memories.proofs.scratch.ScratchBus.keeps.Goals as goal

pub returns : goal.returns
returns c = scratch_keeps
