-- What a cycle does, part by part. Assumes nothing.
use Rattle.std.proofs.Common.{◌≡◌, Bool, cond, ap}
use Rattle.bus.specs.declared.request.Answer.{Answer}
use Rattle.bus.specs.declared.request.Request.{Request}
use Rattle.microprogram.specs.Cycle.{row_output, state_after}
use Rattle.r3000.specs.Cycle.{Cycle}
use Rattle.r3000.specs.Machine.{Machine, current_row, history_after, observation_after}

module _ {S : Type 0} {steps : S → Request → Answer → S → Type 0} {c d : Machine S} {frozen : Bool} where
  pub state_of : (k : Cycle steps c frozen d) → d.processor.state
      ≡ cond frozen c.processor.state
      (state_after (current_row c.processor.state) c.processor.lines
      (row_output (current_row c.processor.state) c.processor.state)
      k.answer c.processor.state)
  state_of k = ap (λ m. m.processor.state) k.after

  pub report_of : Cycle steps c frozen d
      → d.observation.report ≡ (observation_after c.processor frozen c.observation).report
  report_of k = ap (λ m. m.observation.report) k.after

  pub history_of : Cycle steps c frozen d
      → d.observation.history ≡ history_after c.processor frozen c.observation.history
  history_of k = ap (λ m. m.observation.history) k.after
