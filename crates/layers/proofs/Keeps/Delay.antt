-- Delay means something sound, and its steps keep points 1 to 4 of the bus. Assumes nothing.
use Rattle.std.specs.Prelude.{◌≡◌, ℕ, ◌+◌, ◌-◌, ◌<◌, ◌≤◌, min, Bool, true, false, cond, ltb, MatchBool, nat_lt, refl}
use Rattle.std.proofs.Common.{inl, sym, ap, subst, arith}
use Rattle.std.proofs.Math.Path.{subst₃}
use Rattle.std.proofs.lemmas.Bool.{and_from, eq-eqb, lt-ltb, ltb-false, ltb-true}
use Rattle.layers.specs.Delay.{DelaySteps, delay, delay_means, delay_state_after, count_left, own_waits}
use Rattle.layers.proofs.Keeps.Layer.{layer, request}
use Rattle.bus.specs.Meaning.{Answers, Keeps, Meaning, IsSound}
use Rattle.bus.specs.Request.{access_of, same_access, kind_number}
use Rattle.layers.specs.declared.delay.Delay.{Delay}
use Rattle.layers.specs.declared.delay.State.{State}
use Rattle.layers.specs.declared.delay.State.TheVariants.{Idle, Counting}
use Rattle.bus.specs.declared.request.Access.{Access}
use Rattle.bus.specs.declared.request.Action.{Action}
use Rattle.bus.specs.declared.request.Answer.{Answer}
use Rattle.bus.specs.declared.request.Answer.TheVariants.{Wait}
use Rattle.bus.specs.declared.request.Request.{Request}

pick : (b : Bool) (m n top : ℕ) → m ≤ top → n ≤ top → cond b m n ≤ top
pick true m n top h k = h
pick false m n top h k = k

pub left_bound : (n : ℕ) (state : State) (x : Access) → count_left n state x ≤ n
left_bound n Idle x = omega arith
left_bound n (Counting access count) x = pick (same_access access x) (min count n) n n (omega arith) (omega arith)

delay_sound : (n : ℕ) (state : State) (m : Meaning) → IsSound m → IsSound (delay n state m)
delay_sound n state m h =
    record {
      bytes = h.bytes;
      waits = λ x. omega (arith, left_bound (own_waits n m.longest) state x, h.waits x);
      longest = omega (arith, h.longest);
    }

same_self : (x : Access) → same_access x x ≡ true
same_self x = and_from _ _ (eq-eqb x.address x.address refl) (eq-eqb (kind_number x.kind) (kind_number x.kind) refl)

-- the count of the request that is counted for
pub left_self : (n c : ℕ) (x : Access) → c ≤ n → count_left n (Counting x c) x ≡ c
left_self n c x h = rw (same_self x) (omega arith)

-- while the count is above 0
waits : (n : ℕ) (state : State) (m : Meaning) (q : Request)
    → 0 < count_left (own_waits n m.longest) state (access_of q)
    → Answers (delay n state m) q Wait
    (delay n (Counting (access_of q) (count_left (own_waits n m.longest) state (access_of q) - 1)) m)
waits n state m q h =
    record {
      answered = rw stalls;
      bytes = λ x. rw stalls;
      counted = λ e. rw (left_self k (c - 1) (access_of q) falls) (omega arith);
      unreadable = λ w. refl;
      unwritable = λ w. refl;
      longest = refl;
    }
  where
    k : ℕ
    k = own_waits n m.longest

    c : ℕ
    c = count_left k state (access_of q)

    falls : c - 1 ≤ k
    falls = omega (arith, left_bound k state (access_of q))

    stalls : ltb 0 (c + m.waits (access_of q)) ≡ true
    stalls = lt-ltb 0 _ (omega arith)

-- at 0
asks : (n : ℕ) (state : State) (m m' : Meaning) (address : ℕ) (y : Action) (a : Answer)
    → count_left (own_waits n m.longest) state (access_of (request address y)) ≡ 0
    → Answers m (request address y) a m'
    → Answers (delay n state m) (request address y) a
    (delay n (delay_state_after (access_of (request address y)) a) m')
asks n state m m' address y a z h =
    layer (
    record {
      through =
          record { waits = rw z (omega arith); unreadable = refl; unwritable = refl; low = refl; bytes = λ i s. refl };
      seen = λ x. inl (x, record { before = refl; after = refl; there = λ k. omega arith; back = λ k. k });
      waits = λ e. rw (e, left_self (own_waits n m'.longest) 0 _ (omega arith)) (omega arith);
      unreadable = h.unreadable;
      unwritable = h.unwritable;
      longest = ap (λ l. l + own_waits n l) h.longest;
    }) h

module _ {A : Type 0} {means : A → Meaning} {steps : A → Request → Answer → A → Type 0}
    (keeps : Keeps means steps) where
  tells : (s : Delay A) (q : Request) (a : Answer) (t : Delay A) → DelaySteps means steps s q a t
      → Answers (delay_means means s) q a (delay_means means t)
  tells s q a t h =
      subst (λ k. Answers m q a (delay k t.state (means t.below))) (sym h.0) (go (nat_lt 0 c) refl h.1)
    where
      m : Meaning
      m = delay_means means s

      c : ℕ
      c = count_left (own_waits s.n (means s.below).longest) s.state (access_of q)

      go : (b : Bool) → nat_lt 0 c ≡ b
          → MatchBool b
          ((a ≡ Wait) × (t.state ≡ Counting (access_of q) (c - 1)) × (t.below ≡ s.below))
          (steps s.below q a t.below × (t.state ≡ delay_state_after (access_of q) a))
          → Answers m q a (delay s.n t.state (means t.below))
      go true e k =
          subst₃ (λ x y u. Answers m q x (delay s.n y (means u))) (sym k.0) (sym k.1) (sym k.2)
          (waits s.n s.state (means s.below) q (ltb-true 0 c e))
      go false e k =
          subst (λ y. Answers m q a (delay s.n y (means t.below))) (sym k.1)
          (asks s.n s.state (means s.below) (means t.below) q.address q.action a (omega (arith, ltb-false 0 c e))
          (keeps.tells s.below q a t.below k.0))

  pub delay_keeps : Keeps (delay_means means) (DelaySteps means steps)
  delay_keeps = record { sound = λ s. delay_sound s.n s.state (means s.below) (keeps.sound s.below); tells = tells }
