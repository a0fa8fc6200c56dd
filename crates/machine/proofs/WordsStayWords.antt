-- What is written into registers are words. Assumes nothing.
use Rattle.std.proofs.Common.{ℕ, zero, suc, ◌+◌, ◌-◌, ◌*◌, ◌/◌, ◌%◌, ◌^◌, ◌<◌, Bool, true, false, cond, eqb, ltb, List}
use Rattle.std.proofs.Common.{[], ◌∷◌, get_or, set, ℤ, pos, negsuc, div-le_self, arith}
use Rattle.std.proofs.lemmas.Bool.{cond_both}
use Rattle.std.proofs.lemmas.Nat.{and_le_l, div_below, mul-lt, or_lt, shr_le, xor_lt}
use Rattle.machine.specs.Fault.{fault_code}
use Rattle.machine.specs.Interrupt.{cr_with_lines}
use Rattle.machine.specs.Operation.{one_if, residue, result_of}
use Rattle.machine.specs.Registers.{Regs, reg, with_register}
use Rattle.machine.specs.Word.{immediate, jump_address, jump_index, signed_immediate}
use Rattle.machine.specs.Words.{WordsStayWords}
use Rattle.machine.specs.declared.fault.Fault.{Fault}
use Rattle.machine.specs.declared.operation.Operation.{Operation}
use Rattle.machine.specs.declared.operation.Operation.TheVariants.{
  Sum,
  Dif,
  And,
  Or,
  Xor,
  Nor,
  Sll,
  Srl,
  Sra,
  Sltu,
  Slt,
  Mul,
  Muh,
  Msl,
  Msh,
  Duq,
  Dur,
  Dsq,
  Dsr,
}

-- what holds of two values holds of the one that a test picks
pick : {A : Type 0} (P : A → Type 0) {x y : A} (t : Bool) → P x → P y → P (cond t x y)
pick P true here there = here
pick P false here there = there

mod_below : (n : ℕ) → n % 2 ^ 32 < 2 ^ 32
mod_below n = omega arith

-- a word written into a list of words leaves it one
get_or-set_small : (l : List ℕ) (i j v : ℕ) → v < 2 ^ 32 → ((n : ℕ) → get_or l n 0 < 2 ^ 32)
    → get_or (set l i v) j 0 < 2 ^ 32
get_or-set_small [] i j v small h = h j
get_or-set_small (c ∷ l) zero zero v small h = small
get_or-set_small (c ∷ l) zero (suc j) v small h = h (suc j)
get_or-set_small (c ∷ l) (suc i) zero v small h = h zero
get_or-set_small (c ∷ l) (suc i) (suc j) v small h = get_or-set_small l i j v small (λ n. h (suc n))

put_if : (l : List ℕ) (i j v : ℕ) → v < 2 ^ 32 → ((n : ℕ) → get_or l n 0 < 2 ^ 32) → (z : Bool)
    → get_or (cond z l (set l i v)) j 0 < 2 ^ 32
put_if l i j v small h true = h j
put_if l i j v small h false = get_or-set_small l i j v small h

put_small : (g : Regs) (i j v : ℕ) → v < 2 ^ 32 → ((n : ℕ) → reg g n < 2 ^ 32) → reg (with_register i v g) j < 2 ^ 32
put_small g i j v small h = put_if g.general i j v small h (eqb i 0)

residue_below : (z : ℤ) (n : ℕ) → 0 < n → residue z n < n
residue_below (pos m) n h = omega arith
residue_below (negsuc m) n h = omega arith

one_small : (t : Bool) → one_if t < 2 ^ 32
one_small t = pick (λ n. n < 2 ^ 32) t (omega arith) (omega arith)

-- every operation gives a word
result_small : (op : Operation) (x y : ℕ) → x < 2 ^ 32 → y < 2 ^ 32 → result_of op x y < 2 ^ 32
result_small Sum x y p q = mod_below _
result_small Dif x y p q = mod_below _
result_small And x y p q = omega (arith, and_le_l x y)
result_small Or x y p q = or_lt 32 x y p q
result_small Xor x y p q = xor_lt 32 x y p q
result_small Nor x y p q = omega arith
result_small Sll x y p q = mod_below _
result_small Srl x y p q = omega (arith, shr_le x (y % 32))
result_small Sra x y p q = residue_below _ _ (omega arith)
result_small Sltu x y p q = one_small _
result_small Slt x y p q = one_small _
result_small Mul x y p q = mod_below _
result_small Muh x y p q = div_below (x * y) (2 ^ 32) (2 ^ 32) (omega arith) (mul-lt x y (2 ^ 32) (2 ^ 32) p q)
result_small Msl x y p q = residue_below _ _ (omega arith)
result_small Msh x y p q = div_below _ (2 ^ 32) (2 ^ 32) (omega arith) (residue_below _ (2 ^ 64) (omega arith))
result_small Duq x y p q = pick (λ n. n < 2 ^ 32) (eqb y 0) (omega arith) (omega (arith, div-le_self x y))
result_small Dur x y p q = pick (λ n. n < 2 ^ 32) (eqb y 0) p (omega arith)
result_small Dsq x y p q = pick (λ n. n < 2 ^ 32) (eqb y 0) (omega arith) (residue_below _ _ (omega arith))
result_small Dsr x y p q = pick (λ n. n < 2 ^ 32) (eqb y 0) p (residue_below _ _ (omega arith))

extended_small : (ir : ℕ) → signed_immediate ir < 2 ^ 32
extended_small ir =
    cond_both (ltb (immediate ir) (2 ^ 15)) (immediate ir) (immediate ir + (2 ^ 32 - 2 ^ 16)) (λ n. n < 2 ^ 32)
    (λ t. omega arith) (λ t. omega arith)

-- the target of a jump is a word
joined_small : (pc ir : ℕ) → pc < 2 ^ 32 → jump_address pc ir < 2 ^ 32
joined_small pc ir h = or_lt 32 (pc / 2 ^ 28 * 2 ^ 28) (jump_index ir) (omega arith) (omega arith)

causes_small : (lines cr : ℕ) → cr < 2 ^ 32 → cr_with_lines lines cr < 2 ^ 32
causes_small lines cr h = omega arith

code_small : (c : Fault) → fault_code c < 16
code_small c = grind arith

pub words_stay_words_lem : WordsStayWords
words_stay_words_lem =
    record {
      general = put_small;
      results = result_small;
      immediates = extended_small;
      jumps = joined_small;
      cr = causes_small;
      codes = code_small;
    }
