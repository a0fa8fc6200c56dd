-- Interrupts, and what an entry and a return do to SR and CR. Assumes nothing.
use Rattle.std.specs.Prelude.{ℕ, ◌+◌, ◌*◌, ◌/◌, ◌%◌, Bool, not, ◌&&◌, Some, None, Option, ◌==◌, bit_and}
use Rattle.machine.specs.Fault.{fault_code}
use Rattle.machine.specs.Word.{bit}
use Rattle.machine.specs.declared.fault.Fault.{Fault}

-- an interrupt is let in: SR bit 0, and some SR bit 10 + n with line n up
abbrev pub is_interrupting : ℕ → ℕ → Bool
is_interrupting sr lines = bit 0 sr && not (bit_and (sr / 1024 % 64) (lines % 64) == 0)

-- the reset line is bit 6
abbrev pub is_resetting : ℕ → Bool
is_resetting lines = bit 6 lines

-- the code of what is entered: that of the flag that is up, and 0 for an interrupt
abbrev pub entry_code : Option Fault → ℕ
entry_code None = 0
entry_code (Some f) = fault_code f

-- CR as it is read: bits 15 to 10 are the lines IT5 to IT0 as they stood at the last boundary
abbrev pub cr_with_lines : ℕ → ℕ → ℕ
cr_with_lines lines cr = cr / 65536 * 65536 + lines % 64 * 1024 + cr % 1024

-- entry: SR's low six bits move left by two, zeros entering, and the code goes to CR's low six bits, times 4
abbrev pub sr_on_entry : ℕ → ℕ
sr_on_entry sr = sr / 64 * 64 + sr * 4 % 64

abbrev pub cr_on_entry : ℕ → ℕ → ℕ
cr_on_entry code cr = cr / 64 * 64 + code * 4

-- return: SR bits 5 to 2 are copied to bits 3 to 0
abbrev pub sr_on_return : ℕ → ℕ
sr_on_return sr = sr / 16 * 16 + sr / 4 % 16

-- the code in CR
abbrev pub cr_code : ℕ → ℕ
cr_code cr = cr / 4 % 16
