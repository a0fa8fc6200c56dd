-- What is written into registers are words. Assumes nothing.
use Rattle.std.specs.Prelude.{ℕ, ◌^◌, ◌<◌}
use Rattle.machine.specs.Fault.{fault_code}
use Rattle.machine.specs.Interrupt.{cr_with_lines}
use Rattle.machine.specs.Operation.{result_of}
use Rattle.machine.specs.Registers.{Regs, reg, with_register}
use Rattle.machine.specs.Word.{jump_address, signed_immediate}
use Rattle.machine.specs.declared.fault.Fault.{Fault}
use Rattle.machine.specs.declared.operation.Operation.{Operation}

pub record WordsStayWords : Type 0 where
  -- general registers that hold words still do when one of them is written with a word
  pub general : (g : Regs) (written read v : ℕ) → v < 2 ^ 32 → ((n : ℕ) → reg g n < 2 ^ 32)
      → reg (with_register written v g) read < 2 ^ 32
  -- every operation gives a word for words
  pub results : (op : Operation) (x y : ℕ) → x < 2 ^ 32 → y < 2 ^ 32 → result_of op x y < 2 ^ 32
  -- an immediate with its sign extended, and the address to which a jump goes
  pub immediates : (ir : ℕ) → signed_immediate ir < 2 ^ 32
  pub jumps : (pc ir : ℕ) → pc < 2 ^ 32 → jump_address pc ir < 2 ^ 32
  -- CR as it is read
  pub cr : (lines cr : ℕ) → cr < 2 ^ 32 → cr_with_lines lines cr < 2 ^ 32
  -- a code has the four bits that CR has for it
  pub codes : (c : Fault) → fault_code c < 16
