-- Delay waits a request out: its own waits come first, and then those of the memory below. Assumes nothing.
use Rattle.std.proofs.Common.{◌≡◌, ℕ, zero, suc, ◌+◌, ◌-◌, ◌≤◌, Some, Result, refl, sym, ap, subst, add-suc, add-zero, arith}
use Rattle.std.proofs.lemmas.Bool.{lt-ltb}
use Rattle.bus.specs.Meaning.{Keeps, Meaning}
use Rattle.bus.specs.Request.{access_of}
use Rattle.bus.specs.Settle.{AskedIsSettled, Settles, Waits, end_of}
use Rattle.bus.specs.declared.request.Answer.{Answer}
use Rattle.bus.specs.declared.request.Answer.TheVariants.{Wait, BusError, Done}
use Rattle.bus.specs.declared.request.Request.{Request}
use Rattle.bus.specs.declared.settle.BusFault.{BusFault}
use Rattle.bus.specs.declared.settle.Settled.{Settled}
use Rattle.layers.proofs.Keeps.Delay.{left_bound, left_self}
use Rattle.layers.proofs.Settles.Layer.{settled}
use Rattle.layers.specs.Delay.{DelaySteps, count_left, delay_means, delay_state_after, own_waits}
use Rattle.layers.specs.declared.delay.Delay.{Delay}
use Rattle.layers.specs.declared.delay.State.TheVariants.{Idle, Counting}

-- an end leaves a delay idle
idle_after : (q : Request) (a : Answer) (o : Result ℕ BusFault) → end_of q a ≡ Some o
    → Idle ≡ delay_state_after (access_of q) a
idle_after q Wait o e = cc
idle_after q BusError o e = refl
idle_after q (Done w) o e = refl

module _ {A : Type 0} (means : A → Meaning) (steps : A → Request → Answer → A → Type 0) (q : Request) where
  -- how many of its own waits a delay has for the request
  abbrev own : Delay A → ℕ
  own s = count_left (own_waits s.n (means s.below).longest) s.state (access_of q)

  -- a delay by n over a memory, with so many of its own waits left
  record Left (n k : ℕ) (b : A) (s : Delay A) : Type 0 where
    pub same_n : s.n ≡ n
    pub same_below : s.below ≡ b
    pub left : own s ≡ k

  -- the delay by n that counts for the request
  abbrev counting : ℕ → ℕ → A → Delay A
  counting n k b = record { n = n; state = Counting (access_of q) k; below = b }

  -- where one of its own waits is left, it waits, and has one less
  own_wait : (n k : ℕ) (b : A) (s : Delay A) → Left n (suc k) b s
      → DelaySteps means steps s q Wait (counting n k b) × Left n k b (counting n k b)
  own_wait n k b s h =
      let bound : own s ≤ own_waits s.n (means s.below).longest = left_bound _ s.state (access_of q) in
      let fits : k ≤ own_waits s.n (means s.below).longest = omega arith in
      let falls : Counting (access_of q) k ≡ Counting (access_of q) (suc k - 1) =
      ap (Counting (access_of q)) (omega arith) in
      let same = left_self _ k (access_of q) (rw (h.same_n, h.same_below) at fits) in (
        (sym h.same_n, rw (h.left, lt-ltb 0 (suc k) (omega arith)) (refl, falls, sym h.same_below)),
        record { same_n = refl; same_below = refl; left = same },
      )

  -- its own waits, one after the other
  waits_own : (s : Delay A) (j k : ℕ) → j + k ≡ own s
      → (t : Delay A) × Waits (DelaySteps means steps) q j s t × Left s.n k s.below t
  waits_own s zero k e = (s, refl, record { same_n = refl; same_below = refl; left = omega arith })
  waits_own s (suc j) k e =
      let before = waits_own s j (suc k) (omega arith) in
      let now = own_wait s.n k s.below before.0 before.2 in
      (counting s.n k s.below, (before.0, before.1, now.0), now.1)

  -- where none is left, it waits as often as the memory below
  waits_below : (s : Delay A) (m n : ℕ) (u : Delay A) (a b : A) → Waits (DelaySteps means steps) q m s u
      → Left s.n 0 a u → Waits steps q n a b
      → (t : Delay A) × Waits (DelaySteps means steps) q (m + n) s t × Left s.n 0 b t
  waits_below s m zero u a b h o k = (u, rw add-zero h, subst (λ x. Left s.n 0 x u) (sym k) o)
  waits_below s m (suc n) u a b h o k =
      let before = waits_below s m n u a k.0 h o k.1 in
      let asked : steps before.0.below q Wait b = subst (λ x. steps x q Wait b) (sym before.2.same_below) k.2 in (
        counting s.n 0 b,
        rw add-suc (before.0, before.1, (sym before.2.same_n, rw before.2.left (asked, refl))),
        record { same_n = refl; same_below = refl; left = left_self _ 0 (access_of q) (omega arith) },
      )

  -- and ends when the memory below does
  ends_below : (n : ℕ) (a b : A) (s : Delay A) (x : Answer) (o : Result ℕ BusFault) → Left n 0 a s → steps a q x b
      → end_of q x ≡ Some o
      → DelaySteps means steps s q x (record { n = n; state = Idle; below = b })
  ends_below n a b s x o h k e =
      (sym h.same_n, rw h.left (subst (λ y. steps y q x b) (sym h.same_below) k, idle_after q x o e))

  -- so it waits for its own count and then as the memory below, ends as that does, and is idle
  pub settles : Keeps (delay_means means) (DelaySteps means steps) → AskedIsSettled
      → (s : Delay A) (count : ℕ) (r : Settled) (b : A)
      → count ≡ count_left (own_waits s.n (means s.below).longest) s.state (access_of q)
      → Settles means steps s.below q r b
      → Settles (delay_means means) (DelaySteps means steps) s q
      (record { waits = count + r.waits; outcome = r.outcome }) (record { n = s.n; state = Idle; below = b })
  settles keeps theorem s count r b e h =
      let first = waits_own s count 0 (omega arith) in
      let then = waits_below s count r.waits first.0 s.below h.asked.0 first.1 first.2 h.asked.2 in
      settled keeps theorem q _ s then.0 (record { n = s.n; state = Idle; below = b }) h.asked.1 then.1
      (ends_below s.n h.asked.0 b then.0 h.asked.1 r.outcome then.2 h.asked.3 h.asked.4) h.asked.4
