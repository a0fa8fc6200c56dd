-- The pile that jobs run on. Assumes nothing.
use Rattle.std.specs.Prelude.{ℕ, List}
use Rattle.bus.specs.Meaning.{Meaning}
use Rattle.bus.specs.declared.request.Answer.{Answer}
use Rattle.bus.specs.declared.request.Request.{Request}
use Rattle.layers.specs.Delay.{DelaySteps, delay, delay_means}
use Rattle.layers.specs.Split.{SplitSteps, split, split_means}
use Rattle.layers.specs.declared.delay.Delay.{Delay}
use Rattle.layers.specs.declared.delay.State.TheVariants.{Idle}
use Rattle.layers.specs.declared.split.Split.{Split}
use Rattle.memories.specs.Placement.{placed_bytes}
use Rattle.memories.specs.Ram.{RamSteps, ram_means}
use Rattle.memories.specs.Region.{ram}
use Rattle.memories.specs.declared.ram.Ram.{Ram}

-- where the two memories stand, how many bytes they have, and where they are separated
abbrev pub low_base : ℕ
low_base = 0x80000000

abbrev pub low_length : ℕ
low_length = 16384

abbrev pub high_base : ℕ
high_base = 0xBFC00000

abbrev pub high_length : ℕ
high_length = 4096

abbrev pub split_mark : ℕ
split_mark = 0xA0000000

-- RAM of the low and of the high bytes, with one wait for each request
abbrev pub job_pile : List ℕ → List ℕ → Meaning
job_pile low high =
    delay 1 Idle
    (split split_mark (ram low_base (placed_bytes low_base low)) (ram high_base (placed_bytes high_base high)))

-- a delay over a split of two RAMs: what it means, and how it goes on
abbrev pub pile_means : Delay (Split Ram Ram) → Meaning
pile_means = delay_means (split_means ram_means ram_means)

abbrev pub PileSteps : Delay (Split Ram Ram) → Request → Answer → Delay (Split Ram Ram) → Type 0
PileSteps = DelaySteps (split_means ram_means ram_means) (SplitSteps RamSteps RamSteps)
