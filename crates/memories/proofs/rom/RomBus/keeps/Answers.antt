use Rattle.memories.proofs.Keeps.Region.{rom_keeps}
use Rattle.memories.proofs.rom.RomBus.keeps.Goals as goal

pub returns : goal.returns
returns c = rom_keeps
