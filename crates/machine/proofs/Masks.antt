-- Masks and shifts, in arithmetic. Assumes nothing.
use Rattle.std.proofs.Common.{◌≡◌, ℕ, ◌+◌, ◌*◌, ◌/◌, ◌%◌, ◌^◌, ◌<◌, true, not, eqb, Some, None, Option, refl, ap, ◌∙◌}
use Rattle.std.proofs.Common.{ap₂, arith}
use lib.Bits.{bit_and, bit_or}
use Rattle.std.proofs.lemmas.Bool.Decides.{nat_tests}
use Rattle.std.proofs.lemmas.Nat.{and_comm, and_mask, and_mod, and_le_r, and-not, or_block, or_shifted}
use Rattle.std.proofs.lemmas.Nat.Bits.{and_high, and_high_mask}
use Rattle.std.specs.Int.Bits.{or_shifted_r, or_zero_r}
use Rattle.machine.specs.Interrupt.{entry_code, cr_on_entry, cr_with_lines, is_interrupting, sr_on_entry, sr_on_return}
use Rattle.machine.specs.Word.{bit}
use Rattle.machine.specs.declared.fault.Fault.{Fault}

-- a bit that a mask leaves
bit_0 : (n : ℕ) → (bit_and n 1 ≡ 0 → ⊥) → bit 0 n ≡ true
bit_0 n h =
    let e : bit_and n 1 ≡ n % 2 = and_mask n 1 in
    let odd : n % 2 ≡ 0 → ⊥ = λ even. h (e ∙ even) in
    let one : n / 2 ^ 0 % 2 ≡ 1 = omega arith in
    rw one refl

pub bit_1 : (n : ℕ) → not (eqb (bit_and n 2) 0) ≡ bit 1 n
bit_1 n = let e : bit_and n 2 ≡ n / 2 % 2 * 2 = and_high n 1 1 in rw e (grind (arith, nat_tests))

pub bit_6 : (n : ℕ) → not (eqb (bit_and n 64) 0) ≡ bit 6 n
bit_6 n = let e : bit_and n 64 ≡ n / 64 % 2 * 64 = and_high n 1 6 in rw e (grind (arith, nat_tests))

pub bit_31 : (n : ℕ) → not (eqb (bit_and n 2147483648) 0) ≡ bit 31 n
bit_31 n = let e : bit_and n 2147483648 ≡ n / 2147483648 % 2 * 2147483648 = and_high n 1 31 in
    rw e (grind (arith, nat_tests))

-- high bits that stay, and low ones that are written
pub six_low : (n m : ℕ) → n < 2 ^ 32 → m < 64 → bit_or (bit_and n 4294967232) m ≡ n / 64 * 64 + m
six_low n m h k =
    let high : bit_and n 4294967232 ≡ n / 64 * 64 = and_high_mask 32 6 (omega arith) n h in
    rw high (or_shifted (n / 64) 6 m k)

pub four_low : (n m : ℕ) → n < 2 ^ 32 → m < 16 → bit_or (bit_and n 4294967280) m ≡ n / 16 * 16 + m
four_low n m h k =
    let high : bit_and n 4294967280 ≡ n / 16 * 16 = and_high_mask 32 4 (omega arith) n h in
    rw high (or_shifted (n / 16) 4 m k)

pub entry_bits : (sr : ℕ) → sr < 2 ^ 32
    → bit_or (bit_and sr 4294967232) (bit_and (sr * 4 % 4294967296) 63) ≡ sr_on_entry sr
entry_bits sr h =
    let low : bit_and (sr * 4 % 4294967296) 63 ≡ sr * 4 % 64 = and_mask (sr * 4 % 4294967296) 6 ∙ omega arith in
    rw low (six_low sr (sr * 4 % 64) h (omega arith))

pub return_bits : (sr : ℕ) → sr < 2 ^ 32 → bit_or (bit_and sr 4294967280) (bit_and (sr / 4) 15) ≡ sr_on_return sr
return_bits sr h =
    let low : bit_and (sr / 4) 15 ≡ sr / 4 % 16 = and_mask (sr / 4) 4 in
    rw low (four_low sr (sr / 4 % 16) h (omega arith))

pub code_bits : (code old : ℕ) → code < 16 → old < 2 ^ 32
    → bit_or (bit_and old 4294967232) (code * 4 % 4294967296) ≡ cr_on_entry code old
code_bits code old few h =
    let low : code * 4 % 4294967296 ≡ code * 4 = omega arith in
    rw low (six_low old (code * 4) h (omega arith))

-- the lines between the high and the low bits of CR
pub line_bits : (lines old m : ℕ) → old < 2 ^ 32 → m ≡ bit_and lines 63
    → bit_or (bit_and old 4294902783) (m * 1024 % 4294967296) ≡ cr_with_lines lines old
line_bits lines old m h e =
    let few : m ≡ lines % 64 = e ∙ and_mask lines 6 in
    let taken : bit_and 64512 old ≡ old / 1024 % 64 * 1024 = and_comm 64512 old ∙ and_high old 6 10 in
    let left : bit_and 4294902783 old + bit_and 64512 old ≡ old = and-not 32 64512 old (omega arith) h in
    let kept : bit_and old 4294902783 ≡ old / 65536 * 65536 + old % 1024 =
    and_comm old 4294902783 ∙ omega (arith, taken, left) in
    let line : m * 1024 % 4294967296 ≡ 0 * 65536 + lines % 64 * 1024 = omega (arith, few) in
    let whole : bit_or (old / 65536 * 65536 + old % 1024) (0 * 65536 + lines % 64 * 1024)
    ≡ bit_or (old / 65536) 0 * 65536 + bit_or (old % 1024) (lines % 64 * 1024) =
    or_block 16 (old / 65536) 0 (old % 1024) (lines % 64 * 1024) (omega arith) (omega arith) in
    let high : bit_or (old / 65536) 0 ≡ old / 65536 = or_zero_r (old / 65536) in
    let low : bit_or (old % 1024) (lines % 64 * 1024) ≡ lines % 64 * 1024 + old % 1024 =
    or_shifted_r (lines % 64) 10 (old % 1024) (omega arith) in
    ap₂ bit_or kept line ∙ whole ∙ omega (arith, high, low)

-- the lines that SR lets in
six_bits : (a b : ℕ) → b < 64 → bit_and a b ≡ bit_and (a % 64) b
six_bits a b h =
    let small : bit_and a b ≡ bit_and a b % 64 = omega (arith, and_le_r a b) in
    let whole : b % 64 ≡ b = omega arith in
    small ∙ and_mod a b 6 ∙ ap (bit_and (a % 64)) whole

pub lets_in : (sr lines m : ℕ) → (bit_and sr 1 ≡ 0 → ⊥) → m ≡ bit_and lines 63
    → not (eqb (bit_and (sr / 1024) m) 0) ≡ is_interrupting sr lines
lets_in sr lines m up e =
    let few : m ≡ lines % 64 = e ∙ and_mask lines 6 in
    rw (few, bit_0 sr up) (ap (λ n. not (eqb n 0)) (six_bits (sr / 1024) (lines % 64) (omega arith)))

pub code_few : (flag : Option Fault) → entry_code flag < 16
code_few None = omega arith
code_few (Some c) = grind arith
