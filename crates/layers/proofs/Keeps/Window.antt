-- Window means something sound, and its steps keep points 1 to 4 of the bus. Assumes nothing.
use Rattle.std.specs.Prelude.{◌≡◌, ℕ, ◌+◌, ◌/◌, ◌%◌, ◌^◌, ◌<◌, ◌≤◌, ◌⊎◌, nat_lt, refl}
use Rattle.std.specs.Prelude.{Bool, true, false, cond, MatchBool}
use Rattle.std.proofs.Common.{inl, inr, sym, ap, subst₂, ◌∙◌, arith}
use Rattle.std.proofs.lemmas.Bool.{both_ways, cases_Bool, cases_order, false≢true, le-ltb, lt-ltb, ltb-false, ltb-true}
use Rattle.layers.proofs.Keeps.Layer.{Seen, layer, request}
use Rattle.bus.specs.Meaning.{Answers, Keeps, Meaning, IsSound, byte_after, answer}
use Rattle.bus.specs.Request.{at_address, word_of}
use Rattle.layers.specs.Window.{WindowSteps, limit_address, address_below, window, window_means}
use Rattle.bus.specs.declared.request.Action.{Action}
use Rattle.bus.specs.declared.request.Action.TheVariants as action
use Rattle.bus.specs.declared.request.Answer.{Answer}
use Rattle.bus.specs.declared.request.Answer.TheVariants.{BusError}
use Rattle.bus.specs.declared.request.Request.{Request}
use Rattle.layers.specs.declared.window.Window.{Window}

-- what holds of a number and of 0 holds of the one that a test picks
or_zero : (P : ℕ → Type 0) (b : Bool) (n : ℕ) → P n → P 0 → P (cond b n 0)
or_zero P true n h z = h
or_zero P false n h z = z

window_sound : (base limit : ℕ) (m : Meaning) → IsSound m → IsSound (window base limit m)
window_sound base limit m h =
    record {
      bytes =
          λ x. or_zero (λ n. n < 256) (nat_lt x (limit_address limit)) _ (h.bytes (address_below base x))
          (omega arith);
      waits = λ x. or_zero (λ n. n ≤ m.longest) (nat_lt x.address (limit_address limit)) _ (h.waits _) (omega arith);
      longest = h.longest;
    }

-- no two addresses of a window stand for one
one_to_one : (base x y : ℕ) → x < 2 ^ 32 → y < 2 ^ 32 → address_below base x ≡ address_below base y → x ≡ y
one_to_one base x y h k e = go (cases_order ((word_of base + x) / 2 ^ 32) ((word_of base + y) / 2 ^ 32))
  where
    go : ((word_of base + x) / 2 ^ 32 ≡ (word_of base + y) / 2 ^ 32)
        ⊎ (((word_of base + x) / 2 ^ 32 < (word_of base + y) / 2 ^ 32)
        ⊎ ((word_of base + y) / 2 ^ 32 < (word_of base + x) / 2 ^ 32)) → x ≡ y
    go (inl l) = omega arith
    go (inr (inl l)) = omega arith
    go (inr (inr l)) = omega arith

module _ (base limit address : ℕ) where
  -- the limit divides no word
  below : address < limit_address limit → (x : ℕ) → word_of x ≡ word_of address → nat_lt x (limit_address limit) ≡ true
  below l x e = lt-ltb x (limit_address limit) (omega arith)

  -- words are moved whole
  moves : (x : ℕ) → word_of (address_below base x) ≡ address_below base (word_of x)
  moves x = omega arith

  moves_within : (x i : ℕ) → i < 4 → address_below base (word_of x + i) ≡ word_of (address_below base x) + i
  moves_within x i h = omega arith

  from : (x : ℕ) → x ≡ word_of address + x % 4 → address_below base x ≡ word_of (address_below base address) + x % 4
  from x e = ap (address_below base) e ∙ moves_within address (x % 4) (omega arith)

  asked : (m m' : Meaning) (y : Action) → address < limit_address limit → {a : Answer}
      → Answers m (request (address_below base address) y) a m'
      → Answers (window base limit m) (request address y) a (window base limit m')
  asked m m' y l h =
      layer (
      record {
        through =
            record {
              waits = rw (below l address refl);
              unreadable = rw (below l (word_of address) (omega arith)) (ap m.unreadable (sym (moves address)));
              unwritable = rw (below l (word_of address) (omega arith)) (ap m.unwritable (sym (moves address)));
              low = omega arith;
              bytes = λ i s. rw (below l (word_of address + i) (omega arith)) (ap m.byte (moves_within address i s));
            };
        seen = λ x. seen x (cases_Bool (nat_lt x (limit_address limit)));
        waits = λ e. rw (below l address refl);
        unreadable = λ w. ap (λ b. cond (nat_lt w (limit_address limit)) b true) (h.unreadable (address_below base w));
        unwritable = λ w. ap (λ b. cond (nat_lt w (limit_address limit)) b true) (h.unwritable (address_below base w));
        longest = h.longest;
      }) h
    where
      seen : (x : ℕ) → (nat_lt x (limit_address limit) ≡ true) ⊎ (nat_lt x (limit_address limit) ≡ false)
          → Seen (window base limit m) (window base limit m') m m' address (address_below base address) x
      seen x (inl t) =
          let k : x < limit_address limit = ltb-true x (limit_address limit) t in
          inl (
            address_below base x,
            record {
              before = rw t;
              after = rw t;
              there = λ e. from x (omega arith);
              back =
                  λ e. one_to_one base (word_of x) (word_of address) (omega arith) (omega arith)
                  (sym (moves x) ∙ e ∙ moves address);
            },
          )
      seen x (inr f) = inr (record { stays = rw f; apart = λ e. both_ways _ f (below l x e) })

  above : limit_address limit ≤ address → (x : ℕ) → word_of x ≡ word_of address
      → nat_lt x (limit_address limit) ≡ false
  above l x e = le-ltb x (limit_address limit) (omega arith)

  refuses : (m : Meaning) (y : Action) → limit_address limit ≤ address
      → BusError ≡ answer (window base limit m) (request address y)
  refuses m action.Read l = rw (above l address refl, above l (word_of address) (omega arith))
  refuses m (action.Write w d) l = rw (above l address refl, above l (word_of address) (omega arith))

  leaves : (m : Meaning) (y : Action) → limit_address limit ≤ address → (x : ℕ)
      → (window base limit m).byte x ≡ byte_after (window base limit m) (request address y) x
  leaves m action.Read l x = rw (above l address refl, above l (word_of address) (omega arith))
  leaves m (action.Write w d) l x = rw (above l address refl, above l (word_of address) (omega arith))

  refused : (m : Meaning) (y : Action) → limit_address limit ≤ address
      → Answers (window base limit m) (request address y) BusError (window base limit m)
  refused m y l =
      record {
        answered = refuses m y l;
        bytes = leaves m y l;
        counted = λ t. absurd (false≢true (rw (above l address refl) at t));
        unreadable = λ w. refl;
        unwritable = λ w. refl;
        longest = refl;
      }

module _ {A : Type 0} {means : A → Meaning} {steps : A → Request → Answer → A → Type 0}
    (keeps : Keeps means steps) where
  tells : (s : Window A) (q : Request) (a : Answer) (t : Window A) → WindowSteps steps s q a t
      → Answers (window_means means s) q a (window_means means t)
  tells s q a t h =
      subst₂ (λ b l. Answers m q a (window b l (means t.below))) (sym h.0) (sym h.1)
      (go (nat_lt q.address (limit_address s.limit)) refl h.2)
    where
      m : Meaning
      m = window_means means s

      to : Request
      to = at_address (address_below s.base q.address) q

      go : (b : Bool) → nat_lt q.address (limit_address s.limit) ≡ b
          → MatchBool b (steps s.below to a t.below) ((a ≡ BusError) × (t.below ≡ s.below))
          → Answers m q a (window s.base s.limit (means t.below))
      go true e k =
          asked s.base s.limit q.address (means s.below) (means t.below) q.action (ltb-true _ _ e)
          (keeps.tells s.below to a t.below k)
      go false e k =
          subst₂ (λ x u. Answers m q x (window s.base s.limit (means u))) (sym k.0) (sym k.1)
          (refused s.base s.limit q.address (means s.below) q.action (ltb-false _ _ e))

  pub window_keeps : Keeps (window_means means) (WindowSteps steps)
  window_keeps =
      record { sound = λ s. window_sound s.base s.limit (means s.below) (keeps.sound s.below); tells = tells }
