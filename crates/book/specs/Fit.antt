-- The book's registers hold words, and its memory bytes. Assumes nothing.
use Rattle.std.specs.Prelude.{ℕ, ◌^◌, ◌<◌}
use Rattle.machine.specs.Registers.{Regs, reg}
use Rattle.book.specs.Book.{Book, Refusals, first_state, step}

-- registers hold words
pub record HoldsWords (g : Regs) : Type 0 where
  pub general : (n : ℕ) → reg g n < 2 ^ 32
  pub pc : g.pc < 2 ^ 32
  pub hi : g.hi < 2 ^ 32
  pub lo : g.lo < 2 ^ 32
  pub sr : g.sr < 2 ^ 32
  pub cr : g.cr < 2 ^ 32
  pub epc : g.epc < 2 ^ 32
  pub bar : g.bar < 2 ^ 32
  pub ad : g.ad < 2 ^ 32
  pub ir : g.ir < 2 ^ 32

-- a state of the book whose registers hold words and whose bytes are bytes
pub record IsFit (b : Book) : Type 0 where
  pub words : HoldsWords b.regs
  pub bytes : (address : ℕ) → b.bytes address < 256

-- every step keeps that, so every state of the book that begins so stays so
abbrev pub StepsFit : Type 0
StepsFit = (r : Refusals) (lines : ℕ) (b : Book) → IsFit b → IsFit (step r lines b)

-- and it begins so over any bytes
abbrev pub BeginsFit : Type 0
BeginsFit = (bytes : ℕ → ℕ) → ((address : ℕ) → bytes address < 256) → IsFit (first_state bytes)
