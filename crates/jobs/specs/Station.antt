-- What a line does, over any memory. Assumes nothing.
use Rattle.std.specs.Prelude.{◌≡◌, ℕ, Some, None, Ok, Err, Result}
use Rattle.bus.specs.Meaning.{Meaning}
use Rattle.bus.specs.Request.{write_of}
use Rattle.bus.specs.Settle.{Settles}
use Rattle.bus.specs.declared.request.Answer.{Answer}
use Rattle.bus.specs.declared.request.Request.{Request}
use Rattle.bus.specs.declared.request.Width.TheVariants.{Word}
use Rattle.bus.specs.declared.settle.BusFault.{BusFault}
use Rattle.bus.specs.declared.settle.Settled.{Settled}
use Rattle.jobs.specs.Decision.{EarlyEffect, LateEffect, decision, make_cycles, power_up, reply_with, set_lines}
use Rattle.jobs.specs.Decision as effect
use Rattle.jobs.specs.declared.fault.JobFault.{JobFault}
use Rattle.jobs.specs.declared.fault.JobFault.TheVariants as fault
use Rattle.jobs.specs.declared.fault.LoadFault.{LoadFault}
use Rattle.jobs.specs.declared.station.Station.{Station}
use Rattle.r3000.specs.Core.{machine_of_parts}
use Rattle.r3000.specs.Cycle.{Cycles}
use Rattle.r3000.specs.Machine.{History, Machine, core_at_power_up, with_lines}
use Rattle.r3000.specs.Promise.{IsPromised, Upholds}
use Rattle.r3000.specs.Reached.{IsReached}
use Rattle.r3000.specs.declared.report.Report.{Report}
use Rattle.text.specs.declared.order.Order.{Order}
use Rattle.text.specs.declared.reply.Reply.{Reply}
use Rattle.text.specs.declared.reply.Reply.TheVariants as reply

-- before the start there is a pile; after it a core, and the pile that it was built on
pub data Stage (S : Type 0) : Type 0 where
  loading : S → Stage S
  running : S → Machine S → Stage S

-- a load writes the word
abbrev pub load_request : ℕ → ℕ → Request
load_request address word = write_of Word address word

-- a refusal of the bus becomes a load's fault, with its address
abbrev pub load_result : Result ℕ BusFault → Result (Unit {0}) LoadFault
load_result (Ok w) = Ok tt
load_result (Err f) = Err (record { refused = f })

-- a load's fault goes up as the line's
abbrev pub load_reply : Result (Unit {0}) LoadFault → Result Reply JobFault
load_reply (Ok u) = Ok reply.Loaded
load_reply (Err f) = Err (fault.Load f)

-- a run's reply has the counts of its report
abbrev pub run_reply : Report → Reply
run_reply n = reply.Ran (record { cycles = n.cycles; frozen = n.frozen; boundaries = n.boundaries })

module _ {S : Type 0} (means : S → Meaning) (steps : S → Request → Answer → S → Type 0) where
  -- an effect before the start, on a memory
  abbrev pub EarlyDoes : S → EarlyEffect → Result Reply JobFault → Stage S → Type 0
  EarlyDoes s (effect.load_word address word) r e =
      (q : Settled) × (t : S) × Settles means steps s (load_request address word) q t
      × (r ≡ load_reply (load_result q.outcome))
      × (e ≡ loading t)
  EarlyDoes s power_up r e = (r ≡ Ok reply.Started) × (e ≡ running s (core_at_power_up s))

  -- an effect after the start, on a core; each cycle upholds the promise
  abbrev pub LateDoes : Machine S → LateEffect → Reply → Machine S → Type 0
  LateDoes c (set_lines n) r d = (r ≡ reply.Set) × (d ≡ with_lines n c)
  LateDoes c (make_cycles n) r d = Cycles steps (Upholds means steps c) n c d × (r ≡ run_reply d.observation.report)
  LateDoes c (reply_with q) r d = (r ≡ q) × (d ≡ c)

  -- what was decided before the start: a denied line leaves the memory as it is
  abbrev pub EarlyAnswers : S → Result EarlyEffect JobFault → Result Reply JobFault → Stage S → Type 0
  EarlyAnswers s (Err f) r e = (r ≡ Err f) × (e ≡ loading s)
  EarlyAnswers s (Ok x) r e = EarlyDoes s x r e

  -- what was decided after the start: a denied line leaves the core as it is
  abbrev pub LateAnswers : Machine S → Result LateEffect JobFault → Result Reply JobFault → Machine S → Type 0
  LateAnswers c (Err f) r d = (r ≡ Err f) × (d ≡ c)
  LateAnswers c (Ok x) r d = (q : Reply) × (r ≡ Ok q) × LateDoes c x q d

  -- an order
  abbrev pub AnswersOrder : Stage S → Order → Result Reply JobFault → Stage S → Type 0
  AnswersOrder (loading s) o r e = EarlyAnswers s (decision o).before r e
  AnswersOrder (running s c) o r e =
      (d : Machine S) × LateAnswers c ((decision o).after c.processor c.observation.report) r d × (e ≡ running s d)

  -- the core, if there is one, can be reached on the pile that it was built on
  abbrev pub StageIsReached : Stage S → Type 0
  StageIsReached (loading s) = Unit {0}
  StageIsReached (running s c) = IsReached steps s c

  -- and the promise holds of it
  abbrev pub StageIsPromised : Stage S → Type 0
  StageIsPromised (loading s) = Unit {0}
  StageIsPromised (running s c) = IsPromised means steps s c

-- the code's station, on the pile of its start and with a history behind it
abbrev pub stage_of_station : {B : Type 0} → B → History → Station B → Stage B
stage_of_station s h x = elim x.processor [
  | Some processor ↦ running s (machine_of_parts h processor x.pile)
  | None ↦ loading x.pile
]

-- what happens to a station: whatever history it has behind it, R holds of its stage before and its stage after, with
-- some history behind that; and where the stage before could be reached, the promise holds of the stage after
abbrev pub StationDoes : {B : Type 0} → (B → Meaning) → (B → Request → Answer → B → Type 0)
    → (Stage B → Stage B → Type 0)
    → Station B → Station B → Type 0
StationDoes {B} means steps R c d =
    (s : B) (h : History) → (t : B) × (k : History) × R (stage_of_station s h c) (stage_of_station t k d)
    × (StageIsReached means steps (stage_of_station s h c) → StageIsPromised means steps (stage_of_station t k d))
