-- A call as a value, and a list of them on one core. Assumes nothing.
use Rattle.std.specs.Prelude.{◌≡◌, List, [], ◌∷◌, Some, Ok, Err, Result}
use Rattle.bus.specs.Meaning.{Meaning}
use Rattle.bus.specs.declared.request.Answer.{Answer}
use Rattle.bus.specs.declared.request.Request.{Request}
use Rattle.r3000.specs.Calls.{Clocks, Runs, ledger_reply, lines_reply, after_lines, look_reply, register_reply}
use Rattle.r3000.specs.Core.{registers_in_order}
use Rattle.r3000.specs.Machine.{Machine, core_at_power_up}
use Rattle.r3000.specs.Promise.{IsPromised}
use Rattle.r3000.specs.declared.call.Call.{Call}
use Rattle.r3000.specs.declared.call.Call.TheVariants as call
use Rattle.r3000.specs.declared.call.Exchange.{Exchange}
use Rattle.r3000.specs.declared.call.Reply.{Reply}
use Rattle.r3000.specs.declared.call.Reply.TheVariants as reply
use Rattle.r3000.specs.declared.denial.Denial.{Denial}
use Rattle.r3000.specs.declared.report.Clocked.{Clocked}
use Rattle.r3000.specs.declared.report.Report.{Report}

-- what a call answers, as a reply; a denial stays one
abbrev pub reply_of : {T : Type 0} → (T → Reply) → Result T Denial → Result Reply Denial
reply_of f (Ok value) = Ok (f value)
reply_of f (Err denial) = Err denial

module _ {S : Type 0} (means : S → Meaning) (steps : S → Request → Answer → S → Type 0) (says : Machine S → Type 0)
  where
    -- one call, from c to d, with its reply, and what is said of the core after each cycle inside a run
    abbrev pub MakesCall : Machine S → Call → Result Reply Denial → Machine S → Type 0
    MakesCall c call.Clock r d = (q : Result Clocked Denial) × (r ≡ reply_of reply.Clock q) × Clocks steps c q d
    MakesCall c (call.Run n) r d = (q : Result Report Denial) × (r ≡ reply_of reply.Run q) × Runs steps says n c q d
    MakesCall c (call.Lines n) r d = (r ≡ reply_of (λ set. reply.Lines) (lines_reply n)) × (d ≡ after_lines n c)
    MakesCall c (call.Register n) r d = (r ≡ reply_of reply.Register (register_reply n c.processor.state)) × (d ≡ c)
    MakesCall c call.Snapshot r d = (r ≡ Ok (reply.Snapshot (registers_in_order c.processor.state))) × (d ≡ c)
    MakesCall c (call.Ledger n) r d = (r ≡ reply_of reply.Ledger (ledger_reply n c.processor.state)) × (d ≡ c)
    MakesCall c (call.Look address) r d = (r ≡ reply_of reply.Look (look_reply (means c.pile) address)) × (d ≡ c)

    -- the calls of a list one after another: each stays as it was and has its own reply, and what is said of the core
    -- after each of them and after each cycle
    abbrev pub MakesCalls : Machine S → List Exchange → List Exchange → Machine S → Type 0
    MakesCalls c [] [] d = d ≡ c
    MakesCalls c [] (y ∷ ys) d = ⊥
    MakesCalls c (x ∷ xs) [] d = ⊥
    MakesCalls c (x ∷ xs) (y ∷ ys) d =
        (b : Machine S) × (r : Result Reply Denial) × (y ≡ record { call = x.call; reply = Some r })
        × MakesCall c x.call r b
        × says b × MakesCalls b xs ys d

-- calls on a core that was built on a pile: at power-up, after each call, and after each cycle inside a
-- run, the promise holds
pub record Performs {S : Type 0} (means : S → Meaning) (steps : S → Request → Answer → S → Type 0)
    (start : S) (before after : List Exchange) (c : Machine S) : Type 0 where
  pub promise : IsPromised means steps start (core_at_power_up start)
  pub calls : MakesCalls means steps (IsPromised means steps start) (core_at_power_up start) before after c
