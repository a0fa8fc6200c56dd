-- RAM, ROM and scratch mean something sound, and their steps keep points 1 to 4 of the bus. Assumes nothing.
use Rattle.std.specs.Prelude.{◌≡◌, ℕ, ◌%◌, ◌<◌, Bool, true, false, cond, List, length, refl}
use Rattle.std.proofs.Common.{ap₂, ◌∙◌, arith}
use Rattle.std.proofs.lemmas.Bool.{false≢true}
use Rattle.bus.specs.Meaning.{Answers, Keeps, IsSound, byte_after, answer}
use Rattle.memories.specs.Ram.{RamSteps, ram_means}
use Rattle.memories.specs.Region.{RegionSteps, byte_at, is_outside, ram}
use Rattle.memories.specs.Rom.{RomSteps, rom, rom_means}
use Rattle.memories.specs.Scratch.{ScratchSteps, scratch_means}
use Rattle.bus.specs.declared.request.Action.{Action}
use Rattle.bus.specs.declared.request.Action.TheVariants as action
use Rattle.bus.specs.declared.request.Answer.{Answer}
use Rattle.bus.specs.declared.request.Request.{Request}

byte : (b : Bool) (n : ℕ) → cond b (n % 256) 0 < 256
byte true n = omega arith
byte false n = omega arith

ram_sound : (base : ℕ) (bytes : List ℕ) → IsSound (ram base bytes)
ram_sound base bytes = record { bytes = λ address. byte _ _; waits = λ x. omega arith; longest = omega arith }

ram_tells : {base base' : ℕ} {bytes bytes' : List ℕ} {q : Request} {a : Answer}
    → RegionSteps base bytes q a base' bytes'
    → Answers (ram base bytes) q a (ram base' bytes')
ram_tells h =
    record {
      answered = h.answered;
      bytes = h.holds;
      counted = λ e. absurd (false≢true e);
      unreadable = λ w. ap₂ (λ b n. is_outside b n w) h.based h.sized;
      unwritable = λ w. ap₂ (λ b n. is_outside b n w) h.based h.sized;
      longest = refl;
    }

rom_sound : (base : ℕ) (bytes : List ℕ) → IsSound (rom base bytes)
rom_sound base bytes = record { bytes = λ address. byte _ _; waits = λ x. omega arith; longest = omega arith }

same : (b : Bool) (n : ℕ) → n ≡ cond b n n
same true n = refl
same false n = refl

unchanged : (base : ℕ) (bytes : List ℕ) (address : ℕ) (x : Action) (at : ℕ)
    → byte_at base bytes at ≡ byte_after (rom base bytes) (record { address = address; action = x }) at
unchanged base bytes address action.Read at = same _ _
unchanged base bytes address (action.Write w d) at = refl

rom_tells : {base base' : ℕ} {bytes bytes' : List ℕ} {q : Request} {a : Answer}
    → (base' ≡ base) × (bytes' ≡ bytes) × (a ≡ answer (rom base bytes) q)
    → Answers (rom base bytes) q a (rom base' bytes')
rom_tells {base} {base'} {bytes} {bytes'} {q} {a} h =
    record {
      answered = h.2;
      bytes = λ at. ap₂ (λ b l. byte_at b l at) h.0 h.1 ∙ unchanged base bytes q.address q.action at;
      counted = λ e. absurd (false≢true e);
      unreadable = λ w. ap₂ (λ b l. is_outside b (length l) w) h.0 h.1;
      unwritable = λ w. refl;
      longest = refl;
    }

pub ram_keeps : Keeps ram_means RamSteps
ram_keeps = record { sound = λ s. ram_sound _ _; tells = λ s q a t h. ram_tells h.1 }

pub rom_keeps : Keeps rom_means RomSteps
rom_keeps = record { sound = λ s. rom_sound _ _; tells = λ s q a t h. rom_tells h }

pub scratch_keeps : Keeps scratch_means ScratchSteps
scratch_keeps = record { sound = λ s. ram_sound _ _; tells = λ s q a t h. ram_tells h }
