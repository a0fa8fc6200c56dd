-- The operation box, in arithmetic on numbers. Assumes nothing.
use Rattle.std.specs.Prelude.{ℕ, ◌+◌, ◌-◌, ◌*◌, ◌/◌, ◌%◌, ◌^◌, Bool, false, cond, not, ℤ, pos, ◌+ℤ◌, ◌-ℤ◌, ◌*ℤ◌, ◌==◌}
use Rattle.std.specs.Prelude.{bit_and, bit_or, bit_xor, int_div, int_lt, nat_lt, unsigned_abs}
use Rattle.std.specs.Int.Signed.{mag, shr_z}
use Rattle.std.specs.Int.{cast_signed, int_rem_euclid, w32}
use Rattle.machine.specs.declared.operation.Operation.{Operation}
use Rattle.machine.specs.declared.operation.Operation.TheVariants.{
  Sum,
  Dif,
  And,
  Or,
  Xor,
  Nor,
  Sll,
  Srl,
  Sra,
  Sltu,
  Slt,
  Mul,
  Muh,
  Msl,
  Msh,
  Duq,
  Dur,
  Dsq,
  Dsr,
}

-- the integer that a word stands for in two's complement: from 2 ^ 31 up it is 2 ^ 32 less
abbrev pub integer_of : ℕ → ℤ
integer_of x = cast_signed w32 x

-- the number from 0 to m - 1 that differs from an integer by a multiple of m
abbrev pub residue : ℤ → ℕ → ℕ
residue z m = unsigned_abs (int_rem_euclid z (pos m))

-- the word of an integer
abbrev pub word_of_integer : ℤ → ℕ
word_of_integer z = residue z (2 ^ 32)

-- whether an integer is one that a word stands for
abbrev pub fits_word : ℤ → Bool
fits_word z = nat_lt (mag z) (2 ^ 31)

abbrev pub one_if : Bool → ℕ
one_if b = cond b 1 0

-- RES
abbrev pub result_of : Operation → ℕ → ℕ → ℕ
result_of Sum x y = (x + y) % 2 ^ 32
result_of Dif x y = (x + (2 ^ 32 - y)) % 2 ^ 32
result_of And x y = bit_and x y
result_of Or x y = bit_or x y
result_of Xor x y = bit_xor x y
result_of Nor x y = 2 ^ 32 - 1 - bit_or x y
-- shifts take the low five bits of Y; SRA rounds down, which copies the sign
result_of Sll x y = (x * 2 ^ (y % 32)) % 2 ^ 32
result_of Srl x y = x / 2 ^ (y % 32)
result_of Sra x y = word_of_integer (shr_z (integer_of x) (2 ^ (y % 32)))
result_of Sltu x y = one_if (nat_lt x y)
result_of Slt x y = one_if (int_lt (integer_of x) (integer_of y))
-- the low and the high half of a product of 64 bits, unsigned and signed
result_of Mul x y = (x * y) % 2 ^ 32
result_of Muh x y = (x * y) / 2 ^ 32
result_of Msl x y = word_of_integer (integer_of x *ℤ integer_of y)
result_of Msh x y = residue (integer_of x *ℤ integer_of y) (2 ^ 64) / 2 ^ 32
-- quotient and remainder; a divisor 0 gives FFFFFFFF and X; signed division cuts toward zero
result_of Duq x y = cond (y == 0) (2 ^ 32 - 1) (x / y)
result_of Dur x y = cond (y == 0) x (x - x / y * y)
result_of Dsq x y = cond (y == 0) (2 ^ 32 - 1) (word_of_integer (int_div (integer_of x) (integer_of y)))
result_of Dsr x y =
    cond (y == 0) x (word_of_integer (integer_of x -ℤ int_div (integer_of x) (integer_of y) *ℤ integer_of y))

-- signed overflow: a sum or a difference of integers that no word stands for; no other operation overflows
abbrev pub overflows : Operation → ℕ → ℕ → Bool
overflows Sum x y = not (fits_word (integer_of x +ℤ integer_of y))
overflows Dif x y = not (fits_word (integer_of x -ℤ integer_of y))
overflows _ x y = false

-- the three things that an operation gives together: RES, signed overflow, and whether RES is zero
abbrev pub box_output : Operation → ℕ → ℕ → ℕ × Bool × Bool
box_output op x y = (result_of op x y, overflows op x y, (result_of op x y == 0))
