-- The pile that jobs run on is decided. Assumes nothing.
use Rattle.std.proofs.Common.{◌≡◌, ℕ, ◌+◌, ◌-◌, ◌≤◌, min, Bool, true, false, cond, ◌&&◌}
use Rattle.std.proofs.Common.{sym, refl, ap, ap₂, ◌∙◌, arith}
use Rattle.std.specs.Prelude.{MatchBool, nat_lt}
use Rattle.std.proofs.Math.Path.{subst₃}
use Rattle.std.proofs.lemmas.Bool.{le-ltb, lt-ltb, ltb-false, ltb-true}
use Rattle.bus.specs.Decided.{IsDecided}
use Rattle.bus.specs.Meaning.{Keeps, Meaning, answer, done_word, is_refused, is_stalled}
use Rattle.bus.specs.Request.{access_of, same_access, word_of}
use Rattle.bus.specs.declared.request.Access.{Access}
use Rattle.bus.specs.declared.request.Answer.{Answer}
use Rattle.bus.specs.declared.request.Answer.TheVariants.{Wait, BusError, Done}
use Rattle.bus.specs.declared.request.Request.{Request}
use Rattle.layers.specs.Delay.{DelaySteps, delay_means, delay_state_after, count_left, own_waits}
use Rattle.layers.specs.Split.{SplitSteps, split_means}
use Rattle.layers.specs.declared.delay.Delay.{Delay}
use Rattle.layers.specs.declared.delay.State.TheVariants.{Idle, Counting}
use Rattle.memories.specs.Ram.{RamSteps, ram_means}
use Rattle.pile.specs.Decided.{meaning_after}
use Rattle.pile.specs.Pile.{PileSteps, pile_means}

-- an answer that is no wait leaves a delay idle
idle : (x : Access) (b r : Bool) (w : ℕ) → b ≡ false
    → delay_state_after x (cond b Wait (cond r BusError (Done w))) ≡ Idle
idle x true r w e = absurd (cc)
idle x false true w e = refl
idle x false false w e = refl

-- what a wait leaves to its own request and to the others
falls : (u b : Bool) (c k w l : ℕ) → u ≡ true → c ≤ k → w ≡ 0 → l ≡ 0
    → cond b (min (c - 1) k) k + 0 ≡ cond (u && b) ((c + w) - 1) (l + k)
falls true true c k w l e h f g = omega arith
falls true false c k w l e h f g = omega arith
falls false b c k w l e h f g = absurd (cc)

-- what any other answer leaves to each request
fills : (u b : Bool) (c k w l : ℕ) → u ≡ false → l ≡ 0 → k + 0 ≡ cond (u && b) ((c + w) - 1) (l + k)
fills true b c k w l e g = absurd (cc)
fills false b c k w l e g = omega arith

-- a delay over a memory that never waits
module _ {A : Type 0} (means : A → Meaning) (steps : A → Request → Answer → A → Type 0)
    (keeps : Keeps (delay_means means) (DelaySteps means steps))
    (at_once : (s : A) (x : Access) → (means s).waits x ≡ 0) (never : (s : A) → (means s).longest ≡ 0) where
  waits_next : (s : Delay A) (q : Request) (a : Answer) (t : Delay A) → DelaySteps means steps s q a t
      → (x : Access) → (delay_means means t).waits x ≡ (meaning_after (delay_means means s) q).waits x
  waits_next s q a t h x = go (nat_lt 0 c) refl h.1
    where
      m : Meaning
      m = delay_means means s

      k : ℕ
      k = own_waits s.n (means s.below).longest

      c : ℕ
      c = count_left k s.state (access_of q)

      same_top : own_waits t.n (means t.below).longest ≡ k
      same_top = ap₂ own_waits h.0 (never t.below ∙ sym (never s.below))

      none : (means s.below).waits (access_of q) ≡ 0
      none = at_once s.below (access_of q)

      bound : c ≤ k
      bound = omega (arith, (keeps.sound s).waits (access_of q), none, never s.below)

      go : (b : Bool) → nat_lt 0 c ≡ b
          → MatchBool b
          ((a ≡ Wait) × (t.state ≡ Counting (access_of q) (c - 1)) × (t.below ≡ s.below))
          (steps s.below q a t.below × (t.state ≡ delay_state_after (access_of q) a))
          → (delay_means means t).waits x ≡ (meaning_after m q).waits x
      go true e h1 =
          let stalls : is_stalled m q ≡ true = lt-ltb 0 _ (omega (arith, ltb-true 0 c e)) in
          subst₃ (λ n o w. count_left n o x + w ≡ (meaning_after m q).waits x) (sym same_top) (sym h1.1)
          (sym (at_once t.below x))
          (falls (is_stalled m q) (same_access (access_of q) x) c k _ _ stalls bound none (never s.below))
      go false e h1 =
          let goes : is_stalled m q ≡ false = le-ltb 0 _ (omega (arith, ltb-false 0 c e, none)) in
          let answers : a ≡ answer m q = (keeps.tells s q a t h).answered in
          let ends = idle (access_of q) (is_stalled m q) (is_refused m q) (done_word m q) goes in
          let done : t.state ≡ Idle = h1.1 ∙ ap (delay_state_after (access_of q)) answers ∙ ends in
          subst₃ (λ n o w. count_left n o x + w ≡ (meaning_after m q).waits x) (sym same_top) (sym done)
          (sym (at_once t.below x))
          (fills (is_stalled m q) (same_access (access_of q) x) c k ((means s.below).waits (access_of q)) _ goes
          (never s.below))

  delay_decided : (s : Delay A) (q : Request) (a : Answer) (t : Delay A) → DelaySteps means steps s q a t
      → delay_means means t ≡ meaning_after (delay_means means s) q
  delay_decided s q a t h =
      let all = keeps.tells s q a t h in
      λ i. record {
        byte = λ x. all.bytes x i;
        unreadable = λ w. all.unreadable w i;
        unwritable = λ w. all.unwritable w i;
        waits = λ x. waits_next s q a t h x i;
        longest = all.longest i;
      }

-- two memories without waits have none side by side
both_zero : (b : Bool) → ◌≡◌ {A = ℕ} (cond b 0 0) 0
both_zero true = refl
both_zero false = refl

-- each request makes of the pile's meaning exactly the next one
pub decided : Keeps pile_means PileSteps → IsDecided pile_means PileSteps meaning_after
decided keeps =
    delay_decided (split_means ram_means ram_means) (SplitSteps RamSteps RamSteps) keeps
    (λ s x. both_zero (nat_lt x.address (word_of s.mark))) (λ s. refl)
