-- Delay: a memory that answers later. Assumes nothing.
use Rattle.std.specs.Prelude.{◌≡◌, ℕ, ◌+◌, ◌-◌, min, cond, MatchBool, nat_lt}
use Rattle.bus.specs.Meaning.{Meaning, max_wait}
use Rattle.bus.specs.Request.{access_of, same_access}
use Rattle.layers.specs.declared.delay.Delay.{Delay}
use Rattle.layers.specs.declared.delay.State.{State}
use Rattle.layers.specs.declared.delay.State.TheVariants.{Idle, Counting}
use Rattle.bus.specs.declared.request.Access.{Access}
use Rattle.bus.specs.declared.request.Answer.{Answer}
use Rattle.bus.specs.declared.request.Answer.TheVariants.{Wait, BusError, Done}
use Rattle.bus.specs.declared.request.Request.{Request}

-- n, lowered where W below and n together would pass max_wait
abbrev pub own_waits : ℕ → ℕ → ℕ
own_waits n longest = min n (max_wait - longest)

-- the count at which a request goes on: its own where it is the counted one, else n; no count is above n
abbrev pub count_left : ℕ → State → Access → ℕ
count_left n Idle x = n
count_left n (Counting access count) x = cond (same_access access x) (min count n) n

-- the delay's own waits come before those of the memory below, and W grows by n, lowered
abbrev pub delay : ℕ → State → Meaning → Meaning
delay n state m =
    record {
      byte = m.byte;
      unreadable = m.unreadable;
      unwritable = m.unwritable;
      waits = λ x. count_left (own_waits n m.longest) state x + m.waits x;
      longest = m.longest + own_waits n m.longest;
    }

-- the state once the memory below has answered: wait keeps counting at 0, done and bus error make the delay idle
abbrev pub delay_state_after : Access → Answer → State
delay_state_after x Wait = Counting x 0
delay_state_after x BusError = Idle
delay_state_after x (Done v) = Idle

abbrev pub delay_means : {A : Type 0} → (A → Meaning) → Delay A → Meaning
delay_means means s = delay s.n s.state (means s.below)

-- how a delay goes on at a count: above 0 it answers wait and the count falls by one; at 0 the memory below is asked
abbrev pub DelayStepsAt : {A : Type 0} → (A → Request → Answer → A → Type 0) → ℕ
    → Delay A → Request → Answer → Delay A → Type 0
DelayStepsAt steps count s q a t =
    (t.n ≡ s.n)
    × MatchBool (nat_lt 0 count)
    ((a ≡ Wait) × (t.state ≡ Counting (access_of q) (count - 1)) × (t.below ≡ s.below))
    (steps s.below q a t.below × (t.state ≡ delay_state_after (access_of q) a))

abbrev pub DelaySteps : {A : Type 0} → (A → Meaning) → (A → Request → Answer → A → Type 0)
    → Delay A → Request → Answer → Delay A → Type 0
DelaySteps means steps s q a t =
    DelayStepsAt steps (count_left (own_waits s.n (means s.below).longest) s.state (access_of q)) s q a t
