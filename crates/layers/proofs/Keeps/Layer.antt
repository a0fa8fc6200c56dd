-- What a layer keeps that hands a request on to the memory below it. Assumes nothing.
use Rattle.std.specs.Prelude.{◌≡◌, ℕ, ◌+◌, ◌-◌, ◌%◌, ◌<◌, ◌≤◌, ltb, leb, nat_le, ◌⊎◌, ◌≢◌, refl}
use Rattle.std.specs.Prelude.{Bool, true, false, cond}
use Rattle.std.proofs.Common.{inl, inr, sym, ◌∙◌, add-zero, arith}
use Rattle.std.proofs.lemmas.Bool.{cases_eq}
use Rattle.std.proofs.lemmas.Bool.Decides.{nat_tests}
use Rattle.bus.specs.Meaning.{Answers, Meaning, byte_after, answer, done_word, is_refused, is_stalled, stored_byte}
use Rattle.bus.specs.Meaning.{word_at, written_byte}
use Rattle.bus.specs.Request.{access_of, first_address, byte_count, word_of}
use Rattle.bus.specs.declared.request.Action.{Action}
use Rattle.bus.specs.declared.request.Action.TheVariants as action
use Rattle.bus.specs.declared.request.Answer.{Answer}
use Rattle.bus.specs.declared.request.Answer.TheVariants.{Wait}
use Rattle.bus.specs.declared.request.Request.{Request}
use Rattle.bus.specs.declared.request.Width.{Width}
use Rattle.bus.specs.declared.request.Width.TheVariants.{Word, Half, Byte}

abbrev pub request : ℕ → Action → Request
request address x = record { address = address; action = x }

-- two tests agree where each order gives the other
pub same_order : (a b c d : ℕ) → (a ≤ b → c ≤ d) → (c ≤ d → a ≤ b) → nat_le a b ≡ nat_le c d
same_order a b c d there back = grind (arith, nat_tests)

-- where in its word a write begins
lane : Width → ℕ → ℕ
lane w address = address % 4 - address % byte_count w

lane_fits : (w : Width) (address : ℕ)
    → (first_address w address ≡ word_of address + lane w address) × (lane w address + byte_count w ≤ 4)
unfolding lane
lane_fits Word address = (omega arith, omega arith)
lane_fits Half address = (omega arith, omega arith)
lane_fits Byte address = (omega arith, omega arith)

same_lane : (w : Width) (address to : ℕ) → to % 4 ≡ address % 4 → lane w address ≡ lane w to
unfolding lane
same_lane Word address to low = omega arith
same_lane Half address to low = omega arith
same_lane Byte address to low = omega arith

-- a write changes nothing outside the word of its address
apart : (w : Width) (address d x : ℕ) (byte : ℕ → ℕ) → (word_of x ≢ word_of address)
    → stored_byte (first_address w address) (byte_count w) d byte x ≡ byte x
apart w address d x byte ne =
    let fits = lane_fits w address in
    grind (arith, nat_tests)

either : (b : Bool) (n : ℕ) → cond b n n ≡ n
either true n = refl
either false n = refl

pub elsewhere : (m : Meaning) (address : ℕ) (y : Action) (x : ℕ) → (word_of x ≢ word_of address)
    → byte_after m (request address y) x ≡ m.byte x
elsewhere m address action.Read x ne = either _ _
elsewhere m address (action.Write w d) x ne = rw (apart w address d x m.byte ne) (either _ _)

-- what is seen of a request's word through the layer m is what the memory p below has at another address
pub record Through (m p : Meaning) (address : ℕ) (y : Action) (to : ℕ) : Type 0 where
  pub waits : m.waits (access_of (request address y)) ≡ p.waits (access_of (request to y))
  pub unreadable : m.unreadable (word_of address) ≡ p.unreadable (word_of to)
  pub unwritable : m.unwritable (word_of address) ≡ p.unwritable (word_of to)
  pub low : to % 4 ≡ address % 4
  pub bytes : (i : ℕ) → i < 4 → m.byte (word_of address + i) ≡ p.byte (word_of to + i)

module _ {m p : Meaning} {address to : ℕ} where
  same_refused : (y : Action) → Through m p address y to
      → is_refused m (request address y) ≡ is_refused p (request to y)
  same_refused action.Read h = h.unreadable
  same_refused (action.Write w d) h = h.unwritable

  same_word : (y : Action) → Through m p address y to → word_at m.byte (word_of address) ≡ word_at p.byte (word_of to)
  same_word y h =
      let lowest : m.byte (word_of address) ≡ p.byte (word_of to) = simp add-zero at (h.bytes 0 (omega arith)) in
      cc (lowest, h.bytes 1 (omega arith), h.bytes 2 (omega arith), h.bytes 3 (omega arith))

  same_carried : (y : Action) → Through m p address y to → done_word m (request address y) ≡ done_word p (request to y)
  same_carried action.Read h = same_word action.Read h
  same_carried (action.Write w d) h = refl

  -- the layer answers as the memory below does
  pub same_answer : (y : Action) → Through m p address y to → answer m (request address y) ≡ answer p (request to y)
  same_answer y h = rw (h.waits, same_refused y h, same_carried y h)

  same_byte : (y : Action) → Through m p address y to → (x x' : ℕ) → word_of x ≡ word_of address
      → x' ≡ word_of to + x % 4 → m.byte x ≡ p.byte x'
  same_byte y h x x' here there =
      let from : word_of address + x % 4 ≡ x = omega arith in
      let low : x % 4 < 4 = omega arith in
      rw there (rw from at (h.bytes (x % 4) low))

  same_written : (y : Action) → Through m p address y to → (x x' : ℕ) → word_of x ≡ word_of address
      → x' ≡ word_of to + x % 4 → written_byte m (request address y) x ≡ written_byte p (request to y) x'
  same_written action.Read h x x' here there = same_byte action.Read h x x' here there
  same_written (action.Write w d) h x x' here there =
      let fits = lane_fits w address in
      let fits' = lane_fits w to in
      let level = same_lane w address to h.low in
      let from : leb (first_address w address) x ≡ leb (first_address w to) x' =
      same_order _ _ _ _ (λ l. omega arith) (λ l. omega arith) in
      let until : ltb x (first_address w address + byte_count w) ≡ ltb x' (first_address w to + byte_count w) =
      same_order _ _ _ _ (λ l. omega arith) (λ l. omega arith) in
      let place : x - first_address w address ≡ x' - first_address w to = omega arith in
      rw (from, until, place, same_byte (action.Write w d) h x x' here there)

  -- and leaves in the word what the memory below leaves there
  pub same_after : (y : Action) → Through m p address y to → (x x' : ℕ) → word_of x ≡ word_of address
      → x' ≡ word_of to + x % 4 → byte_after m (request address y) x ≡ byte_after p (request to y) x'
  same_after y h x x' here there =
      rw (h.waits, same_refused y h, same_byte y h x x' here there, same_written y h x x' here there)

-- an address of the layer that stands for x' below, before and after the request
pub record Stands (m m' p p' : Meaning) (address to x x' : ℕ) : Type 0 where
  pub before : m.byte x ≡ p.byte x'
  pub after : m'.byte x ≡ p'.byte x'
  pub there : word_of x ≡ word_of address → x' ≡ word_of to + x % 4
  pub back : word_of x' ≡ word_of to → word_of x ≡ word_of address

-- an address of the layer that the request does not touch
pub record Beside (m m' : Meaning) (address x : ℕ) : Type 0 where
  pub stays : m'.byte x ≡ m.byte x
  pub apart : word_of x ≡ word_of address → ⊥

-- what becomes of an address of the layer
abbrev pub Seen : (m m' p p' : Meaning) (address to x : ℕ) → Type 0
Seen m m' p p' address to x = ((x' : ℕ) × Stands m m' p p' address to x x') ⊎ Beside m m' address x

-- a layer before and after it handed a request on from an address to another
pub record HandsOn (m m' p p' : Meaning) (address : ℕ) (y : Action) (to : ℕ) (a : Answer) : Type 0 where
  pub through : Through m p address y to
  pub seen : (x : ℕ) → Seen m m' p p' address to x
  pub waits : a ≡ Wait → m'.waits (access_of (request address y)) ≡ p'.waits (access_of (request to y))
  pub unreadable : (w : ℕ) → m'.unreadable w ≡ m.unreadable w
  pub unwritable : (w : ℕ) → m'.unwritable w ≡ m.unwritable w
  pub longest : m'.longest ≡ m.longest

module _ {m m' p p' : Meaning} {address : ℕ} {y : Action} {to : ℕ} {a : Answer}
    (h : HandsOn m m' p p' address y to a) (below : Answers p (request to y) a p') where
  bytes : (x : ℕ) → Seen m m' p p' address to x → m'.byte x ≡ byte_after m (request address y) x
  bytes x (inr o) = o.stays ∙ sym (elsewhere m address y x o.apart)
  bytes x (inl s) = go (cases_eq (word_of x) (word_of address))
    where
      go : (word_of x ≡ word_of address) ⊎ (word_of x ≢ word_of address)
          → m'.byte x ≡ byte_after m (request address y) x
      go (inl here) = s.1.after ∙ below.bytes s.0 ∙ sym (same_after y h.through x s.0 here (s.1.there here))
      go (inr off) =
          s.1.after
          ∙ below.bytes s.0
          ∙ elsewhere p to y s.0 (λ e. off (s.1.back e))
          ∙ sym s.1.before
          ∙ sym (elsewhere m address y x off)

  counted : is_stalled p (request to y) ≡ true
      → m'.waits (access_of (request address y)) + 1 ≡ m.waits (access_of (request address y))
  counted t =
      let waited : a ≡ Wait = below.answered ∙ rw t in
      rw (h.waits waited, h.through.waits) (below.counted t)

  -- a layer's step keeps points 1 to 4 where the step of the memory below does
  pub layer : Answers m (request address y) a m'
  layer =
      record {
        answered = below.answered ∙ sym (same_answer y h.through);
        bytes = λ x. bytes x (h.seen x);
        counted = λ t. counted (rw h.through.waits at t);
        unreadable = h.unreadable;
        unwritable = h.unwritable;
        longest = h.longest;
      }
