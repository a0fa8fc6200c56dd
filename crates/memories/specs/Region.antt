-- Bytes that stand at a base: what RAM, ROM and scratch have in common. Assumes nothing.
use Rattle.std.specs.Prelude.{◌≡◌, ℕ, ◌+◌, ◌-◌, ◌%◌, Bool, cond, not, ◌&&◌, List, length, nat_le, slice_index}
use Rattle.bus.specs.Meaning.{Meaning, byte_after, answer}
use Rattle.bus.specs.declared.request.Answer.{Answer}
use Rattle.bus.specs.declared.request.Request.{Request}

-- the byte at an address: outside the range, 0
abbrev pub byte_at : ℕ → List ℕ → ℕ → ℕ
byte_at base bytes address = cond (nat_le base address) (slice_index bytes (address - base) % 256) 0

-- whether a word lies outside the range
abbrev pub is_outside : ℕ → ℕ → ℕ → Bool
is_outside base n w = not (nat_le base w && nat_le (w + 4) (base + n))

-- bytes that can be read and written within their range, and never let a request wait
abbrev pub ram : ℕ → List ℕ → Meaning
ram base bytes =
    record {
      byte = byte_at base bytes;
      unreadable = is_outside base (length bytes);
      unwritable = is_outside base (length bytes);
      waits = λ x. 0;
      longest = 0;
    }

-- how such bytes go on: base and length stay, and the answer and every byte afterwards are determined
pub record RegionSteps (base : ℕ) (bytes : List ℕ) (q : Request) (a : Answer) (base' : ℕ) (bytes' : List ℕ) : Type 0
  where
    pub based : base' ≡ base
    pub sized : length bytes' ≡ length bytes
    pub answered : a ≡ answer (ram base bytes) q
    pub holds : (address : ℕ) → byte_at base' bytes' address ≡ byte_after (ram base bytes) q address
