-- The value of a field, digit after digit. Assumes nothing.
use Rattle.std.proofs.Common.{◌≡◌, ℕ, zero, suc, ◌+◌, ◌*◌, ◌%◌, ◌^◌, ◌<◌, ◌≤◌, List, [], ◌∷◌, length, map, sym, ap}
use Rattle.std.proofs.Common.{◌∙◌, mul_assoc, arith}
use native.Mathlib.Nat.{pow-succ'}
use Rattle.std.proofs.Math.Nat.{add-mul, mul-le-mul_right, mul-suc, one-le-pow, suc-mul}
use Rattle.std.proofs.lemmas.Bool.Decides.{nat_tests}
use Rattle.std.specs.List.{fold}
use Rattle.text.specs.Reading.{digit_or_zero, value_of}

-- a digit behind a value
abbrev pub appended : ℕ → ℕ → ℕ
appended v d = (v * 16 % 2 ^ 32 + d) % 2 ^ 32

-- a digit moves from the front of a field to the end of the value before it
digit_joins : (v d p q t : ℕ) → q ≡ 16 * p → v * q + (d * p + t) ≡ (v * 16 + d) * p + t
digit_joins v d p q t e = omega (arith, add-mul (v * 16) d p, mul_assoc v 16 p, ap (λ x. v * x) e)

-- a value with digits behind it is the larger one
below : (w p t : ℕ) → 0 < p → w * p + t < 2 ^ 32 → w < 2 ^ 32
below w zero t h k = absurd (omega arith)
below w (suc p) t h k = omega (arith, mul-suc w p)

-- the fold over a field's digits is its value behind v
pub fold_of_digits : (v : ℕ) (f : List ℕ) → v * 16 ^ length f + value_of f < 2 ^ 32
    → fold appended v (map digit_or_zero f) ≡ v * 16 ^ length f + value_of f
fold_of_digits v [] h = omega arith
fold_of_digits v (b ∷ bs) h =
    let same : v * 16 ^ suc (length bs) + (digit_or_zero b * 16 ^ length bs + value_of bs)
    ≡ (v * 16 + digit_or_zero b) * 16 ^ length bs + value_of bs =
    digit_joins v (digit_or_zero b) (16 ^ length bs) (16 ^ suc (length bs)) (value_of bs) (pow-succ' 16 (length bs))
    in
    let fits : (v * 16 + digit_or_zero b) * 16 ^ length bs + value_of bs < 2 ^ 32 = omega arith in
    let small : v * 16 + digit_or_zero b < 2 ^ 32 =
    below (v * 16 + digit_or_zero b) (16 ^ length bs) (value_of bs) (one-le-pow (length bs) 16 (omega arith)) fits in
    let one : appended v (digit_or_zero b) ≡ v * 16 + digit_or_zero b = omega arith in
    ap (λ x. fold appended x (map digit_or_zero bs)) one ∙ fold_of_digits (v * 16 + digit_or_zero b) bs fits ∙ sym same

digit-lt : (b : ℕ) → digit_or_zero b < 16
digit-lt b = grind (arith, nat_tests)

pub value_of-lt : (f : List ℕ) → value_of f < 16 ^ length f
value_of-lt [] = omega arith
value_of-lt (b ∷ bs) =
    let top : suc (digit_or_zero b) * 16 ^ length bs ≤ 16 * 16 ^ length bs =
    mul-le-mul_right (16 ^ length bs) (digit-lt b) in
    omega (arith, top, value_of-lt bs, suc-mul (digit_or_zero b) (16 ^ length bs), pow-succ' 16 (length bs))
