-- Where a memory is decided, so is every reply of a job on it. Assumes nothing.
use Rattle.std.proofs.Common.{◌≡◌, ℕ, List, Ok, Err, Result, ap, ◌∙◌}
use Rattle.bus.specs.Decided.{IsDecided, SettlesAsDecided}
use Rattle.bus.specs.Meaning.{Meaning}
use Rattle.bus.specs.declared.request.Answer.{Answer}
use Rattle.bus.specs.declared.request.Request.{Request}
use Rattle.jobs.specs.Decided.{StageMeaning, early_answer, early_turn, line_answer, late_answer, late_result}
use Rattle.jobs.specs.Decided.{order_answer}
use Rattle.jobs.specs.Decided as by_meaning
use Rattle.jobs.specs.Decision.{EarlyEffect, LateEffect, decision, make_cycles, power_up, reply_with, set_lines}
use Rattle.jobs.specs.Decision as effect
use Rattle.jobs.specs.Job.{AnswersLine, line_replies}
use Rattle.jobs.specs.Station.{
  EarlyDoes,
  EarlyAnswers,
  LateDoes,
  LateAnswers,
  AnswersOrder,
  Stage,
  run_reply,
  load_result,
  load_reply,
  loading,
  running,
  load_request,
}
use Rattle.jobs.specs.declared.fault.JobFault.{JobFault}
use Rattle.r3000.specs.Decided.{CyclesAsDecided, core_meaning}
use Rattle.r3000.specs.Machine.{Machine}
use Rattle.text.specs.declared.fault.LineFault.{LineFault}
use Rattle.text.specs.declared.order.Order.{Order}
use Rattle.text.specs.declared.reply.Reply.{Reply}

-- a stage, with what its memory means in the memory's place
abbrev pub shown : {S : Type 0} → (S → Meaning) → Stage S → StageMeaning
shown means (loading s) = by_meaning.loading (means s)
shown means (running s c) = by_meaning.running (core_meaning means c)

module _ {S : Type 0} {means : S → Meaning} {steps : S → Request → Answer → S → Type 0}
    (settles : SettlesAsDecided means steps) (cycles : CyclesAsDecided means steps)
    (next : Meaning → Request → Meaning) (decided : IsDecided means steps next) where
  early_does : (s : S) (x : EarlyEffect) (r : Result Reply JobFault) (e : Stage S) → EarlyDoes means steps s x r e
      → (r ≡ (early_turn next (means s) x).reply) × (shown means e ≡ (early_turn next (means s) x).then)
  early_does s (effect.load_word address word) r e h = (
    h.3 ∙ ap (λ o. load_reply (load_result o)) h.2.ends,
    ap (shown means) h.4 ∙ ap by_meaning.loading (settles next decided s (load_request address word) h.0 h.1 h.2),
  )
  early_does s power_up r e h = (h.0, ap (shown means) h.1)

  late_does : (c d : Machine S) (x : LateEffect) (r : Reply) → LateDoes means steps c x r d
      → (r ≡ (late_result next (core_meaning means c) x).0)
      × (core_meaning means d ≡ (late_result next (core_meaning means c) x).1)
  late_does c d (set_lines n) r h = (h.0, ap (core_meaning means) h.1)
  late_does c d (make_cycles n) r h =
      let all = cycles next decided n c d h.0 in
      (h.1 ∙ ap (λ m. run_reply m.observation.report) all, all)
  late_does c d (reply_with q) r h = (h.0, ap (core_meaning means) h.1)

  early_answers : (s : S) (x : Result EarlyEffect JobFault) (r : Result Reply JobFault) (e : Stage S)
      → EarlyAnswers means steps s x r e
      → (r ≡ (early_answer next (means s) x).reply) × (shown means e ≡ (early_answer next (means s) x).then)
  early_answers s (Err f) r e h = (h.0, ap (shown means) h.1)
  early_answers s (Ok x) r e h = early_does s x r e h

  late_answers : (c d : Machine S) (x : Result LateEffect JobFault) (r : Result Reply JobFault)
      → LateAnswers means steps c x r d
      → (r ≡ (late_answer next (core_meaning means c) x).reply)
      × (by_meaning.running (core_meaning means d) ≡ (late_answer next (core_meaning means c) x).then)
  late_answers c d (Err f) r h = (h.0, ap (λ m. by_meaning.running (core_meaning means m)) h.1)
  late_answers c d (Ok x) r h =
      let done = late_does c d x h.0 h.2 in
      (h.1 ∙ ap Ok done.0, ap by_meaning.running done.1)

  answers_order : (e g : Stage S) (o : Order) (r : Result Reply JobFault) → AnswersOrder means steps e o r g
      → (r ≡ (order_answer next (shown means e) o).reply)
      × (shown means g ≡ (order_answer next (shown means e) o).then)
  answers_order (loading s) g o r h = early_answers s (decision o).before r g h
  answers_order (running s c) g o r h =
      let done = late_answers c h.0 ((decision o).after c.processor c.observation.report) r h.1 in
      (done.0, ap (shown means) h.2 ∙ done.1)

  -- what is done with a line is what the function says of it
  pub answers_line : (e g : Stage S) (n : ℕ) (o : Result Order LineFault) (rs : List Reply)
      → AnswersLine means steps e n o rs g
      → (rs ≡ (line_answer next (shown means e) n o).reply)
      × (shown means g ≡ (line_answer next (shown means e) n o).then)
  answers_line e g n (Err f) rs h = (h.0, ap (shown means) h.1)
  answers_line e g n (Ok o) rs h = let all = answers_order e g o h.0 h.1 in (h.2 ∙ ap (line_replies n) all.0, all.1)
