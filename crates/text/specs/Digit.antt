-- Hexadecimal digits. Assumes nothing.
use Rattle.std.specs.Prelude.{ℕ, ◌+◌, ◌-◌, cond, ◌&&◌, Some, None, Option, nat_le, nat_lt}

-- the value of 0 to 9 and of A to F; any other byte is no digit
abbrev pub digit_of : ℕ → Option ℕ
digit_of b = cond (nat_le 48 b && nat_le b 57) (Some (b - 48)) (cond (nat_le 65 b && nat_le b 70) (Some (b - 55)) None)

-- the digit of a value below 16
abbrev pub byte_of : ℕ → ℕ
byte_of d = cond (nat_lt d 10) (48 + d) (55 + d)
