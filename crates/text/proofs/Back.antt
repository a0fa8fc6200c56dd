-- Reading what was written. Assumes nothing.
use Rattle.std.proofs.Common.{◌≡◌, ℕ, zero, suc, ◌+◌, ◌*◌, ◌/◌, ◌%◌, ◌^◌, ◌<◌, false, eqb, List, [], ◌∷◌, ◌++◌, map}
use Rattle.std.proofs.Common.{Some, sym, refl, ap, ◌∙◌, ap₂, mod-eq_of_lt, arith}
use native.Mathlib.Nat.{pow-succ'}
use Rattle.std.proofs.Math.Nat.{one-le-pow}
use Rattle.std.proofs.lemmas.Bool.Decides.{nat_tests}
use lib.Arith.{mod-mul}
use Rattle.std.proofs.lemmas.List.Elements.{All-cons}
use Rattle.std.proofs.lemmas.List.Splits.{slice_split_at, slice_split_none}
use Rattle.std.specs.List.{All}
use Rattle.text.proofs.Separated.{digits-length}
use Rattle.text.specs.Digit.{byte_of}
use Rattle.text.specs.Reading.{digit_or_zero, fields_of, value_of}
use Rattle.text.specs.Reread.{RoundTrip, reply_of_fields}
use Rattle.text.specs.Writing.{Field, digits, separated_fields}
use Rattle.text.specs.declared.reply.Reply.TheVariants.{Loaded, Started, Set, Ran, Shown, Denied}

-- a digit's byte is no space, and has the digit's value
no_space : (d : ℕ) → eqb (byte_of d) 32 ≡ false
no_space d = grind (arith, nat_tests)

digit_back : (d : ℕ) → d < 16 → digit_or_zero (byte_of d) ≡ d
digit_back d h = grind (arith, nat_tests)

value_back : (n v : ℕ) → value_of (digits n v) ≡ v % 16 ^ n
value_back zero v = omega arith
value_back (suc n) v =
    ap₂ (λ d k. d * 16 ^ k + value_of (digits n v)) (digit_back (v / 16 ^ n % 16) (omega arith)) (digits-length n v)
    ∙ ap (λ x. v / 16 ^ n % 16 * 16 ^ n + x) (value_back n v)
    ∙ sym
    (ap (λ k. v % k) (pow-succ' 16 n)
    ∙ mod-mul v {m = 16} {c = 16 ^ n} (omega arith) (one-le-pow n 16 (omega arith)))

-- digits are a field, and a space behind them ends it
no_spaces : (n v : ℕ) → All (λ b. eqb b 32 ≡ false) (digits n v)
no_spaces zero v = λ k d h. absurd (omega arith)
no_spaces (suc n) v =
    All-cons (λ b. eqb b 32 ≡ false) (byte_of (v / 16 ^ n % 16)) (digits n v) (no_space (v / 16 ^ n % 16))
    (no_spaces n v)

alone : (n v : ℕ) → fields_of (digits n v) ≡ digits n v ∷ []
alone n v = slice_split_none _ (digits n v) (no_spaces n v)

apart : (n v : ℕ) (xs : List ℕ) → fields_of (digits n v ++ 32 ∷ xs) ≡ digits n v ∷ fields_of xs
apart n v xs = slice_split_at _ (digits n v) 32 xs (no_spaces n v) refl

-- a number that its width can hold is read back
whole : (n v : ℕ) → v < 16 ^ n → value_of (digits n v) ≡ v
whole n v h = value_back n v ∙ mod-eq_of_lt h

-- the fields of what was written
all_fields : (f : Field) (fs : List Field) → fields_of (separated_fields (f ∷ fs)) ≡ map (λ g. digits g.0 g.1) (f ∷ fs)
all_fields f [] = alone f.0 f.1
all_fields f (g ∷ gs) = apart f.0 f.1 (separated_fields (g ∷ gs)) ∙ ap (λ p. digits f.0 f.1 ∷ p) (all_fields g gs)

pub round_trip : RoundTrip
round_trip Loaded h = refl
round_trip Started h = refl
round_trip Set h = refl
round_trip (Ran n) h =
    ap reply_of_fields (all_fields (2, 0x40) ((16, n.cycles) ∷ (16, n.frozen) ∷ (16, n.boundaries) ∷ []))
    ∙ ap₂ (λ a b. Some (Ran (record { cycles = a; frozen = b; boundaries = value_of (digits 16 n.boundaries) })))
    (whole 16 n.cycles h.1.0) (whole 16 n.frozen h.1.1.0)
    ∙ ap (λ b. Some (Ran (record { cycles = n.cycles; frozen = n.frozen; boundaries = b })))
    (whole 16 n.boundaries h.1.1.1.0)
round_trip (Shown r w) h =
    ap reply_of_fields (all_fields (2, 0x50) ((2, r) ∷ (8, w) ∷ []))
    ∙ ap₂ (λ a b. Some (Shown a b)) (whole 2 r h.1.0) (whole 8 w h.1.1.0)
round_trip (Denied d) h =
    ap reply_of_fields (all_fields (2, 0xFF) ((2, d.number) ∷ (8, d.line) ∷ (8, d.address) ∷ []))
    ∙ ap₂ (λ a b. Some (Denied (record { number = a; line = b; address = value_of (digits 8 d.address) })))
    (whole 2 d.number h.1.0) (whole 8 d.line h.1.1.0)
    ∙ ap (λ c. Some (Denied (record { number = d.number; line = d.line; address = c }))) (whole 8 d.address h.1.1.1.0)
