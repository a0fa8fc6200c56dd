-- A job on a memory whose meaning decides how it goes on: each reply, by a function. Assumes nothing.
use Rattle.std.specs.Prelude.{ℕ, ◌+◌, cond, List, [], ◌∷◌, ◌++◌, length, Ok, Err, Result, nat_lt}
use Rattle.bus.specs.Decided.{meaning_after_settling}
use Rattle.bus.specs.Meaning.{Meaning}
use Rattle.bus.specs.Settle.{outcome}
use Rattle.bus.specs.declared.request.Request.{Request}
use Rattle.jobs.specs.Decision.{EarlyEffect, LateEffect, decision, make_cycles, power_up, reply_with, set_lines}
use Rattle.jobs.specs.Decision as effect
use Rattle.jobs.specs.Job.{line_replies, denial_reply, text_lines_of}
use Rattle.jobs.specs.Station.{run_reply, load_result, load_reply, load_request}
use Rattle.jobs.specs.declared.fault.JobFault.{JobFault}
use Rattle.jobs.specs.declared.fault.JobFault.TheVariants as fault
use Rattle.r3000.specs.Decided.{after_cycles}
use Rattle.r3000.specs.Machine.{Machine, core_at_power_up, with_lines}
use Rattle.text.specs.Reading.{read_line}
use Rattle.text.specs.declared.fault.LineFault.{LineFault}
use Rattle.text.specs.declared.order.Order.{Order}
use Rattle.text.specs.declared.reply.Reply.{Reply}
use Rattle.text.specs.declared.reply.Reply.TheVariants as reply

-- where a job stands, with what a memory means in the memory's place: before the start a memory, after it a core
pub data StageMeaning : Type 0 where
  loading : Meaning → StageMeaning
  running : Machine Meaning → StageMeaning

-- what is replied, and where the job then stands
pub record Turn (A : Type 0) : Type 0 where
  pub reply : A
  pub then : StageMeaning

module _ (next : Meaning → Request → Meaning) where
  -- an effect before the start
  abbrev pub early_turn : Meaning → EarlyEffect → Turn (Result Reply JobFault)
  early_turn m (effect.load_word address word) =
      record {
        reply = load_reply (load_result (outcome m (load_request address word)));
        then = loading (meaning_after_settling next (load_request address word) m);
      }
  early_turn m power_up = record { reply = Ok reply.Started; then = running (core_at_power_up m) }

  -- an effect after the start: what is replied, and the core afterwards
  abbrev pub late_result : Machine Meaning → LateEffect → Reply × Machine Meaning
  late_result c (set_lines n) = (reply.Set, with_lines n c)
  late_result c (make_cycles n) = (run_reply (after_cycles next n c).observation.report, after_cycles next n c)
  late_result c (reply_with q) = (q, c)

  -- what was decided before the start, and after it
  abbrev pub early_answer : Meaning → Result EarlyEffect JobFault → Turn (Result Reply JobFault)
  early_answer m (Err f) = record { reply = Err f; then = loading m }
  early_answer m (Ok x) = early_turn m x

  abbrev pub late_answer : Machine Meaning → Result LateEffect JobFault → Turn (Result Reply JobFault)
  late_answer c (Err f) = record { reply = Err f; then = running c }
  late_answer c (Ok x) = record { reply = Ok (late_result c x).0; then = running (late_result c x).1 }

  -- an order
  abbrev pub order_answer : StageMeaning → Order → Turn (Result Reply JobFault)
  order_answer (loading m) o = early_answer m (decision o).before
  order_answer (running c) o = late_answer c ((decision o).after c.processor c.observation.report)

  -- a line that was read: denied by its form, or an order
  abbrev pub line_answer : StageMeaning → ℕ → Result Order LineFault → Turn (List Reply)
  line_answer e n (Err f) = record { reply = line_replies n (Err (fault.Line f)); then = e }
  line_answer e n (Ok o) = let turn = order_answer e o in
      record { reply = line_replies n turn.reply; then = turn.then }

  -- the replies to lines one after another, numbered
  abbrev pub replies_to_lines : StageMeaning → ℕ → List (List ℕ) → List Reply
  replies_to_lines e n [] = []
  replies_to_lines e n (l ∷ ls) = let turn = line_answer e n (read_line l) in
      turn.reply ++ replies_to_lines turn.then (n + 1) ls

  -- the replies to a whole job on a memory: one of more bytes than the limit is too long
  abbrev pub replies_to_job : ℕ → Meaning → List ℕ → List Reply
  replies_to_job limit m job =
      cond (nat_lt limit (length job)) (denial_reply 0 fault.TooLong ∷ [])
      (replies_to_lines (loading m) 1 (text_lines_of job))
