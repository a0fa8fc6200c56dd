-- Words and the integers that they stand for. Assumes nothing.
use Rattle.std.proofs.Common.{◌≡◌, ℕ, zero, suc, ◌*◌, ◌/◌, ◌%◌, ◌^◌, ◌<◌, ◌≤◌, ℤ, pos, negsuc, ◌-ℤ◌, ◌*ℤ◌, neg_ℤ, sym}
use Rattle.std.proofs.Common.{refl, ap, ◌∙◌, zero-mul, arith, w32, w64, SFits, of_z}
use lib.Signed.{mag, quot_z, rem_z}
use Rattle.std.proofs.lemmas.Nat.{div-add-mod', mul-le}
use Rattle.std.proofs.lemmas.Int.{ints, of_z-to_z, wrapping_mul-bits}
use Rattle.std.specs.Int.{int_wrap}
use Rattle.machine.specs.Operation.{integer_of, residue, word_of_integer}

pub residue_below : (z : ℤ) → residue z (2 ^ 32) < 2 ^ 32
residue_below (pos n) = omega arith
residue_below (negsuc n) = omega arith

-- the bits of an integer that fits are its residue
pub residue_32 : (z : ℤ) → SFits w32 z → of_z w32 z ≡ residue z (2 ^ 32)
residue_32 (pos n) h = let b : n < 2 ^ 31 = h.sfits in omega arith
residue_32 (negsuc n) h = let b : n < 2 ^ 31 = h.sfits in omega arith

pub residue_64 : (z : ℤ) → SFits w64 z → of_z w64 z ≡ residue z (2 ^ 64)
residue_64 (pos n) h = let b : n < 2 ^ 63 = h.sfits in omega arith
residue_64 (negsuc n) h = let b : n < 2 ^ 63 = h.sfits in omega arith

-- the low half of a product does not depend on the signs
pub product_low : (x y : ℕ) → x < 2 ^ 32 → y < 2 ^ 32
    → (x * y) % 2 ^ 32 ≡ word_of_integer (integer_of x *ℤ integer_of y)
unfolding int_wrap
product_low x y p q =
    let below : (x * y) % 2 ^ 32 < 2 ^ 32 = omega arith in
    sym (of_z-to_z w32 ((x * y) % 2 ^ 32) below)
    ∙ ap (of_z w32) (wrapping_mul-bits w32 x y p q)
    ∙ of_z-to_z w32 (word_of_integer (integer_of x *ℤ integer_of y)) (residue_below (integer_of x *ℤ integer_of y))

mag-neg : (n : ℕ) → mag (neg_ℤ (pos n)) ≤ n
mag-neg zero = omega arith
mag-neg (suc n) = omega arith

-- a product of two integers of 32 bits has at most 64
pub product_fits : (a b : ℤ) → mag a < 2 ^ 31 → mag b < 2 ^ 31 → SFits w64 (a *ℤ b)
product_fits (pos a) (pos b) p q =
    record {
      sfits = omega (arith, mul-le a b (2 ^ 31) (2 ^ 31) (omega arith) (omega arith));
    }
product_fits (pos a) (negsuc b) p q =
    record {
      sfits = omega (arith, mag-neg (a * suc b), mul-le a (suc b) (2 ^ 31) (2 ^ 31) (omega arith) (omega arith));
    }
product_fits (negsuc a) (pos b) p q =
    record {
      sfits = omega (arith, mag-neg (suc a * b), mul-le (suc a) b (2 ^ 31) (2 ^ 31) (omega arith) (omega arith));
    }
product_fits (negsuc a) (negsuc b) p q =
    record {
      sfits = omega (arith, mul-le (suc a) (suc b) (2 ^ 31) (2 ^ 31) (omega arith) (omega arith));
    }

neg_times_neg : (q b : ℕ) → neg_ℤ (pos q) *ℤ negsuc b ≡ pos (q * suc b)
neg_times_neg zero b = rw zero-mul
neg_times_neg (suc q) b = refl

neg_times_pos : (q b : ℕ) → neg_ℤ (pos q) *ℤ pos b ≡ neg_ℤ (pos (q * b))
neg_times_pos zero b = rw zero-mul
neg_times_pos (suc q) b = refl

-- what is left of x once the multiple of d is taken away
pub remainder : (x d : ℤ) → rem_z x d ≡ x -ℤ quot_z x d *ℤ d
remainder (pos a) (pos b) = omega (arith, ints, div-add-mod' a b)
remainder (pos a) (negsuc b) = rw (neg_times_neg (a / suc b) b) (omega (arith, ints, div-add-mod' a (suc b)))
remainder (negsuc a) (pos b) = rw (neg_times_pos (suc a / b) b) (omega (arith, ints, div-add-mod' (suc a) b))
remainder (negsuc a) (negsuc b) = omega (arith, ints, div-add-mod' (suc a) (suc b))
