-- RAM: the caller's bytes at a base. Assumes nothing.
use Rattle.std.specs.Prelude.{◌≡◌}
use Rattle.bus.specs.Meaning.{Meaning}
use Rattle.memories.specs.Region.{RegionSteps, ram}
use Rattle.memories.specs.declared.ram.Ram.{Ram}
use Rattle.bus.specs.declared.request.Answer.{Answer}
use Rattle.bus.specs.declared.request.Request.{Request}

abbrev pub ram_means : Ram → Meaning
ram_means s = ram s.base s.bytes.now

-- the bytes stay the very bytes that were borrowed, and the answer and what the bytes hold afterwards are determined
abbrev pub RamSteps : Ram → Request → Answer → Ram → Type 0
RamSteps s q a t = (t.bytes.ghost_name ≡ s.bytes.ghost_name) × RegionSteps s.base s.bytes.now q a t.base t.bytes.now
