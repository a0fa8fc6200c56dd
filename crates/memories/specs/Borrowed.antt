-- A word of bytes that are borrowed by a memory for two requests. Assumes nothing.
use Rattle.std.specs.Prelude.{◌≡◌, ℕ, Bool, cond, List, length, Some, None, Option}
use Rattle.bus.specs.Meaning.{stored_byte, word_at}
use Rattle.bus.specs.Request.{word_of}
use Rattle.memories.specs.Placement.{placed_bytes}
use Rattle.memories.specs.Region.{byte_at, is_outside}

-- whether there is no such word: the bytes may not stand at the base, or it lies outside of them
abbrev pub is_missing : ℕ → List ℕ → ℕ → Bool
is_missing base bytes address = is_outside base (length (placed_bytes base bytes)) (word_of address)

-- the word of an address in bytes at a base
abbrev pub word_in : ℕ → List ℕ → ℕ → Option ℕ
word_in base bytes address =
    cond (is_missing base bytes address) None (Some (word_at (byte_at base bytes) (word_of address)))

-- as many bytes with another word in the place of the old one; they are as they were where there is no such word
pub record ReplacesWord (base : ℕ) (bytes : List ℕ) (address : ℕ) (word : ℕ) (bytes' : List ℕ) : Type 0 where
  pub sized : length bytes' ≡ length bytes
  pub holds : (x : ℕ)
      → byte_at base bytes' x
      ≡ cond (is_missing base bytes address) (byte_at base bytes x)
      (stored_byte (word_of address) 4 word (byte_at base bytes) x)
