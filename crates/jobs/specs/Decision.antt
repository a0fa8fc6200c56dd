-- What each kind of line does, as a table: a row has its denial, or its effect, before the start and after it. Assumes
-- nothing.
use Rattle.std.specs.Prelude.{ℕ, Ok, Err, Result}
use Rattle.jobs.specs.declared.fault.JobFault.{JobFault}
use Rattle.jobs.specs.declared.fault.JobFault.TheVariants as fault
use Rattle.r3000.specs.Calls.{check_run, lines_reply, register_reply}
use Rattle.r3000.specs.Machine.{ProcessorState}
use Rattle.r3000.specs.declared.denial.Denial.{Denial}
use Rattle.r3000.specs.declared.report.Report.{Report}
use Rattle.text.specs.declared.order.Order.{Order}
use Rattle.text.specs.declared.order.Order.TheVariants as order
use Rattle.text.specs.declared.reply.Reply.{Reply}
use Rattle.text.specs.declared.reply.Reply.TheVariants as reply

-- the effect of a line before the start
pub data EarlyEffect : Type 0 where
  -- a word is written to an address, and waited out
  load_word : ℕ → ℕ → EarlyEffect
  -- a core is built on the memory
  power_up : EarlyEffect

-- the effect of a line after the start
pub data LateEffect : Type 0 where
  -- the core's lines are set
  set_lines : ℕ → LateEffect
  -- the core makes so many cycles
  make_cycles : ℕ → LateEffect
  -- nothing changes, and this is replied
  reply_with : Reply → LateEffect

-- the effect of a call that the core grants; what it denies is denied
abbrev pub effect_if_granted : {A : Type 0} → (A → LateEffect) → Result A Denial → Result LateEffect JobFault
effect_if_granted effect (Ok a) = Ok (effect a)
effect_if_granted effect (Err d) = Err (fault.Core d)

-- what a kind of line does: before the start; and after it, by the processor and the counts
pub record Decision : Type 0 where
  pub before : Result EarlyEffect JobFault
  pub after : ProcessorState → Report → Result LateEffect JobFault

-- the table
abbrev pub decision : Order → Decision
decision (order.Load address word) =
    record { before = Ok (load_word address word); after = λ p counts. Err fault.AfterStart }
decision order.Start = record { before = Ok power_up; after = λ p counts. Err fault.AfterStart }
decision (order.SetLines n) =
    record { before = Err fault.BeforeStart; after = λ p counts. effect_if_granted (λ u. set_lines n) (lines_reply n) }
decision (order.Run n) =
    record {
      before = Err fault.BeforeStart;
      after = λ p counts. effect_if_granted (λ u. make_cycles n) (check_run n counts);
    }
decision (order.Show n) =
    record {
      before = Err fault.BeforeStart;
      after = λ p counts. effect_if_granted (λ w. reply_with (reply.Shown n w)) (register_reply n p.state);
    }
