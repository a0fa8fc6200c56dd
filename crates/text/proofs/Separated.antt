-- The fields of a reply, written one after the other. Assumes nothing.
use Rattle.std.proofs.Common.{◌≡◌, ℕ, zero, suc, ◌+◌, ◌-◌, length, ◌*◌, ◌/◌, ◌%◌, ◌^◌, ◌<◌, List, [], ◌∷◌, ◌++◌, ap}
use Rattle.std.proofs.Common.{◌∙◌, arith, refl}
use native.Mathlib.Nat.{pow-succ'}
use Rattle.std.proofs.lemmas.Grind.{pow_more}
use Rattle.std.proofs.lemmas.List.{append-nil}
use Rattle.text.specs.Digit.{byte_of}
use Rattle.text.specs.Form.{space}
use Rattle.text.specs.Writing.{Field, digits, separated_fields}

sixteen : (n : ℕ) → 2 ^ (4 * n) ≡ 16 ^ n
sixteen zero = refl
sixteen (suc n) =
    let four : 4 * suc n ≡ 4 * n + 1 + 1 + 1 + 1 = omega arith in
    ap (λ k. 2 ^ k) four
    ∙ omega (
      arith,
      pow_more 2 (4 * n + 1 + 1 + 1),
      pow_more 2 (4 * n + 1 + 1),
      pow_more 2 (4 * n + 1),
      pow_more 2 (4 * n),
      pow-succ' 16 n,
      sixteen n,
    )

-- the first of some digits, found by a shift
pub digits-first : (n v : ℕ) → 0 < n → digits n v ≡ byte_of (v / 2 ^ (4 * (n - 1)) % 16) ∷ digits (n - 1) v
digits-first zero v h = absurd (omega arith)
digits-first (suc n) v h =
    let same : suc n - 1 ≡ n = omega arith in
    rw (same, sixteen n) refl

-- what stands behind the first field
abbrev pub behind : List Field → List ℕ
behind [] = []
behind (f ∷ fs) = space ∷ (digits f.0 f.1 ++ behind fs)

pub separated-behind : (f : Field) (fs : List Field) → digits f.0 f.1 ++ behind fs ≡ separated_fields (f ∷ fs)
separated-behind f [] = append-nil (digits f.0 f.1)
separated-behind f (g ∷ gs) = ap (λ xs. digits f.0 f.1 ++ space ∷ xs) (separated-behind g gs)

pub digits-length : (n v : ℕ) → length (digits n v) ≡ n
digits-length zero v = refl
digits-length (suc n) v = ap suc (digits-length n v)
