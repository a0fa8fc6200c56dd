-- ROM: the caller's bytes at a base, never written. Assumes nothing.
use Rattle.std.specs.Prelude.{◌≡◌, ℕ, true, List, length}
use Rattle.bus.specs.Meaning.{Meaning, answer}
use Rattle.memories.specs.Region.{byte_at, is_outside}
use Rattle.bus.specs.declared.request.Answer.{Answer}
use Rattle.bus.specs.declared.request.Request.{Request}
use Rattle.memories.specs.declared.rom.Rom.{Rom}

-- bytes that can be read within their range, with every write refused
abbrev pub rom : ℕ → List ℕ → Meaning
rom base bytes =
    record {
      byte = byte_at base bytes;
      unreadable = is_outside base (length bytes);
      unwritable = λ w. true;
      waits = λ x. 0;
      longest = 0;
    }

abbrev pub rom_means : Rom → Meaning
rom_means s = rom s.region.base s.region.bytes.now

-- the answer is determined, and nothing changes
abbrev pub RomSteps : Rom → Request → Answer → Rom → Type 0
RomSteps s q a t =
    (t.region.base ≡ s.region.base) × (t.region.bytes.now ≡ s.region.bytes.now) × (a ≡ answer (rom_means s) q)
