-- A line upholds the promise. Assumes nothing.
use Rattle.std.proofs.Common.{Ok, Err, Result, sym, subst}
use Rattle.bus.specs.Meaning.{Meaning}
use Rattle.bus.specs.declared.request.Answer.{Answer}
use Rattle.bus.specs.declared.request.Request.{Request}
use Rattle.jobs.specs.Decision.{EarlyEffect, power_up}
use Rattle.jobs.specs.Decision as effect
use Rattle.jobs.specs.Station.{EarlyDoes, EarlyAnswers, StageIsPromised, StageIsReached, Stage, loading, running}
use Rattle.jobs.specs.declared.fault.JobFault.{JobFault}
use Rattle.text.specs.declared.reply.Reply.{Reply}
use Rattle.r3000.specs.Machine.{core_at_power_up}
use Rattle.r3000.specs.Promise.{AllKeepPromise}
use Rattle.r3000.specs.Reached.{IsReached}

module _ {S : Type 0} {means : S → Meaning} {steps : S → Request → Answer → S → Type 0}
    (kept : (start : S) → AllKeepPromise means steps start) where
  -- what is reached keeps the promise
  pub promised : (e : Stage S) → StageIsReached means steps e → StageIsPromised means steps e
  promised (loading s) r = tt
  promised (running s c) r = record { reached = r; promise = kept s c r }

  -- and so does a core that was just built
  early_does : (s : S) (x : EarlyEffect) (r : Result Reply JobFault) (e : Stage S) → EarlyDoes means steps s x r e
      → StageIsPromised means steps e
  early_does s (effect.load_word address word) r e h = subst (StageIsPromised means steps) (sym h.4) tt
  early_does s power_up r e h =
      subst (StageIsPromised means steps) (sym h.1)
      (record { reached = IsReached.power_up; promise = kept s (core_at_power_up s) IsReached.power_up })

  pub early_promised : (s : S) (x : Result EarlyEffect JobFault) (r : Result Reply JobFault) (e : Stage S)
      → EarlyAnswers means steps s x r e → StageIsPromised means steps e
  early_promised s (Err f) r e h = subst (StageIsPromised means steps) (sym h.1) tt
  early_promised s (Ok x) r e h = early_does s x r e h
