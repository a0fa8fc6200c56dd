-- Scratch: 64 words of its own at a base. Assumes nothing.
use Rattle.std.specs.Prelude.{ℕ, List, [], Some, None}
use Rattle.bus.specs.Meaning.{Meaning}
use Rattle.memories.specs.Region.{RegionSteps, ram}
use Rattle.bus.specs.declared.request.Answer.{Answer}
use Rattle.bus.specs.declared.request.Request.{Request}
use Rattle.memories.specs.declared.scratch.Scratch.{Scratch}

-- how many bytes it has
abbrev pub scratch_length : ℕ
scratch_length = 256

-- the bytes within its range: none where its placement was denied
abbrev pub bytes_of : Scratch → List ℕ
bytes_of s = elim s.bytes [ Some bytes ↦ bytes | None ↦ [] ]

abbrev pub scratch_means : Scratch → Meaning
scratch_means s = ram s.base (bytes_of s)

abbrev pub ScratchSteps : Scratch → Request → Answer → Scratch → Type 0
ScratchSteps s q a t = RegionSteps s.base (bytes_of s) q a t.base (bytes_of t)
