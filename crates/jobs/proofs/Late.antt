-- What the calls of a core do is what was decided of a line after the start. Assumes nothing.
use Rattle.std.proofs.Common.{◌≡◌, ℕ, Bool, true, false, cond, Ok, Err, Result, refl, ap, ◌∙◌}
use Rattle.std.specs.Prelude.{nat_lt}
use Rattle.std.specs.Result.{IsErrAnd}
use Rattle.bus.specs.Meaning.{Meaning}
use Rattle.bus.specs.declared.request.Answer.{Answer}
use Rattle.bus.specs.declared.request.Request.{Request}
use Rattle.jobs.specs.Decision.{effect_if_granted, make_cycles, reply_with, set_lines}
use Rattle.jobs.specs.Station.{LateAnswers, run_reply}
use Rattle.jobs.specs.declared.fault.JobFault.{JobFault}
use Rattle.jobs.specs.declared.fault.JobFault.TheVariants as fault
use Rattle.r3000.specs.Calls.{WhereGranted, Runs, check_run, lines_reply, after_lines, register_reply}
use Rattle.r3000.specs.Cycle.{Cycles}
use Rattle.r3000.specs.Limits.{max_lines}
use Rattle.r3000.specs.Machine.{Machine, with_lines}
use Rattle.r3000.specs.Promise.{Upholds}
use Rattle.r3000.specs.declared.denial.Denial.{Denial}
use Rattle.r3000.specs.declared.denial.Denial.TheVariants as denial
use Rattle.r3000.specs.declared.report.Report.{Report}
use Rattle.text.specs.declared.reply.Reply.{Reply}
use Rattle.text.specs.declared.reply.Reply.TheVariants as reply

-- what a call of the core gives, put into the line's reply; its denial goes up as the line's
abbrev pub called : {A : Type 0} → (A → Reply) → Result A Denial → Result Reply JobFault
called put (Ok a) = Ok (put a)
called put (Err d) = Err (fault.Core d)

-- the denial that `?` hands up is the one of the call
pub denied : {A : Type 0} (put : A → Reply) (q : Result A Denial) (d : Denial) (r : Result Reply JobFault)
    → IsErrAnd r (λ f. f ≡ fault.Core d) → Err d ≡ q → r ≡ called put q
denied put q d (Ok v) e h = absurd e
denied put q d (Err f) e h = ap Err e ∙ ap (called put) h

-- the reply to a call that sets lines, by whether they are above the highest
abbrev in_range : Bool → Result (Unit {0}) Denial
in_range above = cond above (Err denial.Range) (Ok tt)

module _ {S : Type 0} (means : S → Meaning) (steps : S → Request → Answer → S → Type 0) (b d : Machine S) where
  pub sets : (n : ℕ) (q : Result (Unit {0}) Denial) → q ≡ lines_reply n → d ≡ after_lines n b
      → LateAnswers means steps b (effect_if_granted (λ u. set_lines n) (lines_reply n)) (called (λ u. reply.Set) q) d
  sets n q e h = by (nat_lt max_lines n) e h
    where
      by : (t : Bool) → q ≡ in_range t → d ≡ cond t b (with_lines n b)
          → LateAnswers means steps b (effect_if_granted (λ u. set_lines n) (in_range t)) (called (λ u. reply.Set) q) d
      by true e h = (ap (called (λ u. reply.Set)) e, h)
      by false e h = (reply.Set, ap (called (λ u. reply.Set)) e, (refl, h))

  pub runs : (n : ℕ) (q : Result Report Denial) → Runs steps (Upholds means steps b) n b q d
      → LateAnswers means steps b (effect_if_granted (λ u. make_cycles n) (check_run n b.observation.report))
      (called run_reply q) d
  runs n q h = by (check_run n b.observation.report) h
    where
      by : (o : Result (Unit {0}) Denial)
          → WhereGranted o b q d (Cycles steps (Upholds means steps b) n b d × (q ≡ Ok d.observation.report))
          → LateAnswers means steps b (effect_if_granted (λ u. make_cycles n) o) (called run_reply q) d
      by (Err f) h = (ap (called run_reply) h.0, h.1)
      by (Ok u) h = (run_reply d.observation.report, ap (called run_reply) h.1, (h.0, refl))

  pub shows : (n : ℕ) (q : Result ℕ Denial) → q ≡ register_reply n b.processor.state → d ≡ b
      → LateAnswers means steps b
      (effect_if_granted (λ w. reply_with (reply.Shown n w)) (register_reply n b.processor.state))
      (called (reply.Shown n) q) d
  shows n q e h = by (register_reply n b.processor.state) e
    where
      by : (o : Result ℕ Denial) → q ≡ o
          → LateAnswers means steps b (effect_if_granted (λ w. reply_with (reply.Shown n w)) o)
          (called (reply.Shown n) q) d
      by (Ok w) e = (reply.Shown n w, ap (called (reply.Shown n)) e, (refl, h))
      by (Err f) e = (ap (called (reply.Shown n)) e, h)
