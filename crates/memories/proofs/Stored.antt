-- What the bytes at a base mean once some of them are written. Assumes nothing.
use Rattle.std.proofs.Common.{◌≡◌, ℕ, zero, suc, ◌+◌, ◌-◌, ◌/◌, ◌%◌, ◌^◌, ◌<◌, ◌≤◌, ◌≢◌, ◌⊎◌, ltb, leb, inl, inr}
use Rattle.std.proofs.Common.{Bool, true, false, cond, ◌&&◌, List, length, set, Some, None, refl, ◌∙◌}
use Rattle.std.proofs.Common.{add-zero, div-one, arith, get_or-set_other, get_or-set_same}
use Rattle.std.proofs.lemmas.List.{length-set}
use Rattle.std.proofs.lemmas.Bool.{cases_eq, le-leb, leb-true}
use Rattle.std.proofs.lemmas.Bool.Decides.{nat_tests}
use Rattle.bus.specs.Meaning.{stored_byte}
use Rattle.memories.specs.Region.{RegionSteps, byte_at, is_outside}
use Rattle.bus.specs.Request.{first_address, byte_count, word_of, write_of}
use Rattle.bus.specs.declared.request.Answer.TheVariants.{Done}
use Rattle.bus.specs.declared.request.Width.{Width}

-- n bytes of the data written from a place of the list on
unfoldable pub filled : ℕ → ℕ → ℕ → List ℕ → List ℕ
filled at zero d bs = bs
filled at (suc n) d bs = set (filled at n d bs) (at + n) (d / 256 ^ n % 256)

pub filled_length : (at n d : ℕ) (bs : List ℕ) → length (filled at n d bs) ≡ length bs
unfolding filled
filled_length at zero d bs = refl
filled_length at (suc n) d bs = length-set (filled at n d bs) (at + n) (d / 256 ^ n % 256) ∙ filled_length at n d bs

byte_at-set_same : (base : ℕ) (bs : List ℕ) (i v x : ℕ) → i < length bs → x ≡ base + i
    → byte_at base (set bs i v) x ≡ v % 256
byte_at-set_same base bs i v x h e =
    let at : x - base ≡ i = omega arith in
    let past : leb base x ≡ true = le-leb base x (omega arith) in
    rw (past, at, get_or-set_same bs i v 0 h)

byte_at-set_other : (base : ℕ) (bs : List ℕ) (i v x : ℕ) → (x ≡ base + i → ⊥)
    → byte_at base (set bs i v) x ≡ byte_at base bs x
byte_at-set_other base bs i v x h = go (leb base x) refl
  where
    go : (b : Bool) → leb base x ≡ b → byte_at base (set bs i v) x ≡ byte_at base bs x
    go false e = rw e
    go true e =
        let past : base ≤ x = leb-true base x e in
        let ne : x - base ≢ i = omega arith in
        rw (get_or-set_other bs i (x - base) v 0 ne)

pub byte_at-filled : (base : ℕ) (bs : List ℕ) (at n d x : ℕ) → at + n ≤ length bs
    → byte_at base (filled at n d bs) x ≡ stored_byte (base + at) n d (byte_at base bs) x
unfolding filled
byte_at-filled base bs at zero d x h =
    let none : (leb (base + at) x && ltb x (base + at + 0)) ≡ false = grind (arith, nat_tests) in
    rw none
byte_at-filled base bs at (suc n) d x h =
    next (byte_at-filled base bs at n d x (omega arith)) (cases_eq x (base + (at + n)))
  where
    before : List ℕ
    before = filled at n d bs

    Goal : Type 0
    Goal =
        byte_at base (set before (at + n) (d / 256 ^ n % 256)) x
        ≡ stored_byte (base + at) (suc n) d (byte_at base bs) x

    same : x ≡ base + (at + n) → Goal
    same e =
        let fits : at + n < length before = omega (arith, filled_length at n d bs) in
        let within : (leb (base + at) x && ltb x (base + at + suc n)) ≡ true = grind (arith, nat_tests) in
        let place : x - (base + at) ≡ n = omega arith in
        byte_at-set_same base before (at + n) (d / 256 ^ n % 256) x fits e ∙ rw (within, place) (omega arith)

    level : (x ≡ base + (at + n) → ⊥)
        → (leb (base + at) x && ltb x (base + at + suc n)) ≡ (leb (base + at) x && ltb x (base + at + n))
    level ne = grind (arith, nat_tests)

    other : byte_at base before x ≡ stored_byte (base + at) n d (byte_at base bs) x → (x ≡ base + (at + n) → ⊥) → Goal
    other rest ne =
        byte_at-set_other base before (at + n) (d / 256 ^ n % 256) x ne ∙ rw (level ne) rest

    next : byte_at base before x ≡ stored_byte (base + at) n d (byte_at base bs) x
        → (x ≡ base + (at + n)) ⊎ (x ≡ base + (at + n) → ⊥) → Goal
    next rest (inl e) = same e
    next rest (inr ne) = other rest ne

-- a place that `offset` gave
pub inside : (base n w at : ℕ) → Some at ≡ cond (is_outside base n w) None (Some (w - base))
    → (is_outside base n w ≡ false) × (w ≡ base + at) × (at + 4 ≤ n)
inside base n w at e = grind (arith, nat_tests)

-- the list that a write leaves, width by width
pub filled_word : (at d : ℕ) (bs : List ℕ)
    → set (set (set (set bs at (d % 256)) (at + 1) (d / 256 % 256)) (at + 2) (d / 65536 % 256))
    (at + 3) (d / 16777216 % 256) ≡ filled at 4 d bs
unfolding filled
filled_word at d bs = rw (add-zero, div-one)

pub filled_half : (at d : ℕ) (bs : List ℕ) → set (set bs at (d % 256)) (at + 1) (d / 256 % 256) ≡ filled at 2 d bs
unfolding filled
filled_half at d bs = rw (add-zero, div-one)

pub filled_byte : (at d : ℕ) (bs : List ℕ) → set bs at (d % 256) ≡ filled at 1 d bs
unfolding filled
filled_byte at d bs = rw (add-zero, div-one)

-- what a write does with the bytes of its word, at any width
pub moves : (base address d at start : ℕ) (w : Width) (bs out : List ℕ)
    → Some at ≡ cond (is_outside base (length bs) (word_of address)) None (Some (word_of address - base))
    → base + start ≡ first_address w address → start + byte_count w ≤ length bs
    → out ≡ filled start (byte_count w) d bs
    → RegionSteps base bs (write_of w address d) (Done 0) base out
moves base address d at start w bs out got from fits is =
    let inner = (inside base (length bs) (word_of address) at got).0 in
    record {
      based = refl;
      sized = rw is (filled_length start (byte_count w) d bs);
      answered = rw inner refl;
      holds = λ x. rw (is, inner, ← from) (byte_at-filled base bs start (byte_count w) d x fits);
    }
