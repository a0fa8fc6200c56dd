-- Window: a part of a memory, seen from address 0 up to a limit. Assumes nothing.
use Rattle.std.specs.Prelude.{◌≡◌, ℕ, ◌+◌, ◌%◌, ◌^◌, min, true, cond, MatchBool, nat_lt}
use Rattle.bus.specs.Meaning.{Meaning}
use Rattle.bus.specs.Request.{at_address, word_of}
use Rattle.bus.specs.declared.request.Answer.{Answer}
use Rattle.bus.specs.declared.request.Answer.TheVariants.{BusError}
use Rattle.bus.specs.declared.request.Request.{Request}
use Rattle.layers.specs.declared.window.Window.{Window}

-- the address below that an address of the window stands for: the base is rounded down, and the sum wraps
abbrev pub address_below : ℕ → ℕ → ℕ
address_below base address = (word_of base + address) % 2 ^ 32

-- where the window ends: the limit is rounded down, and lies within the 2 ^ 32 addresses
abbrev pub limit_address : ℕ → ℕ
limit_address limit = min (word_of limit) (2 ^ 32)

-- from the limit up, every word is refused without a wait and every byte means 0; W stays
abbrev pub window : ℕ → ℕ → Meaning → Meaning
window base limit m =
    record {
      byte = λ x. cond (nat_lt x (limit_address limit)) (m.byte (address_below base x)) 0;
      unreadable = λ w. cond (nat_lt w (limit_address limit)) (m.unreadable (address_below base w)) true;
      unwritable = λ w. cond (nat_lt w (limit_address limit)) (m.unwritable (address_below base w)) true;
      waits =
          λ x. cond (nat_lt x.address (limit_address limit))
          (m.waits (record { address = address_below base x.address; kind = x.kind })) 0;
      longest = m.longest;
    }

abbrev pub window_means : {A : Type 0} → (A → Meaning) → Window A → Meaning
window_means means s = window s.base s.limit (means s.below)

-- how a window goes on: below the limit the memory is asked, else the answer is bus error and the memory stays
abbrev pub WindowSteps : {A : Type 0} → (A → Request → Answer → A → Type 0)
    → Window A → Request → Answer → Window A → Type 0
WindowSteps steps s q a t =
    (t.base ≡ s.base) × (t.limit ≡ s.limit)
    × MatchBool (nat_lt q.address (limit_address s.limit))
    (steps s.below (at_address (address_below s.base q.address) q) a t.below)
    ((a ≡ BusError) × (t.below ≡ s.below))
