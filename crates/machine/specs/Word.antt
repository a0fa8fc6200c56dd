-- Bits and fields of words. Assumes nothing.
use Rattle.std.specs.Prelude.{ℕ, ◌+◌, ◌-◌, ◌*◌, ◌/◌, ◌%◌, ◌^◌, Bool, cond, ◌==◌, bit_or, nat_lt}
use Rattle.machine.specs.declared.word.Field.{Field}
use Rattle.machine.specs.declared.word.Field.TheVariants.{Rs, Rt, Rd}

-- whether a bit is set
abbrev pub bit : ℕ → ℕ → Bool
bit n w = w / 2 ^ n % 2 == 1

-- the fields of an instruction
abbrev pub opcode : ℕ → ℕ
opcode ir = ir / 2 ^ 26 % 64

-- five of its bits, from bit n up
abbrev pub field : ℕ → ℕ → ℕ
field n ir = ir / 2 ^ n % 32

abbrev pub rs : ℕ → ℕ
rs ir = field 21 ir

abbrev pub rt : ℕ → ℕ
rt ir = field 16 ir

abbrev pub rd : ℕ → ℕ
rd ir = field 11 ir

-- the number of the general register that one of these three names
abbrev pub register_field : Field → ℕ → ℕ
register_field Rs ir = rs ir
register_field Rt ir = rt ir
register_field Rd ir = rd ir

-- the register number of a move to or from the system registers has four bits
abbrev pub system_number : ℕ → ℕ
system_number ir = ir / 2 ^ 11 % 16

abbrev pub shift_amount : ℕ → ℕ
shift_amount ir = field 6 ir

abbrev pub function : ℕ → ℕ
function ir = ir % 64

abbrev pub immediate : ℕ → ℕ
immediate ir = ir % 2 ^ 16

-- the immediate with its sign extended to a word
abbrev pub signed_immediate : ℕ → ℕ
signed_immediate ir = cond (nat_lt (immediate ir) (2 ^ 15)) (immediate ir) (immediate ir + (2 ^ 32 - 2 ^ 16))

-- four times that, as a branch counts words
abbrev pub branch_offset : ℕ → ℕ
branch_offset ir = signed_immediate ir * 4 % 2 ^ 32

-- four times the 26 low bits, as a jump has them
abbrev pub jump_index : ℕ → ℕ
jump_index ir = ir % 2 ^ 26 * 4

-- the address to which a jump goes: it has the four high bits of PC
abbrev pub jump_address : ℕ → ℕ → ℕ
jump_address pc ir = bit_or (pc / 2 ^ 28 * 2 ^ 28) (jump_index ir)
