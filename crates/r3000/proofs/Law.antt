-- Everything that is reached keeps the promise. Assumes nothing.
use Rattle.std.proofs.Common.{◌≡◌, Bool, true, false, Option, Some, refl, sym, ap, ◌∙◌}
use Rattle.bus.specs.Meaning.{Keeps, Meaning}
use Rattle.bus.specs.declared.request.Answer.{Answer}
use Rattle.bus.specs.declared.request.Request.{Request}
use Rattle.microprogram.specs.Cycle.{row_output}
use Rattle.machine.specs.Registers.{reg}
use Rattle.machine.specs.declared.fault.Fault.{Fault}
use Rattle.r3000.specs.Cycle.{Cycle}
use Rattle.r3000.specs.Machine.{Machine, current_row}
use Rattle.r3000.specs.Promise.{AllKeepPromise}
use Rattle.r3000.specs.Reached.{IsReached}
use Rattle.r3000.proofs.Agreement.{OnTheWay, agrees, way_cycle, way_lines, way_start}
use Rattle.r3000.proofs.Below.{Below}
use Rattle.r3000.proofs.Parts.{state_of}
use Rattle.r3000.proofs.Promptness.{Soon, at_least_a_row, soon_cycle, soon_lines, soon_start}
use Rattle.r3000.proofs.Zero.{zero_advanced}

-- one flag is up, or none
one_flag : (o : Option Fault) (f g : Fault) → o ≡ Some f → o ≡ Some g → f ≡ g
one_flag o f g h k = let same : Some f ≡ Some g = sym h ∙ k in cc

module _ {S : Type 0} {means : S → Meaning} {steps : S → Request → Answer → S → Type 0} (below : Below)
    (keeps : Keeps means steps) (start : S) where
  on_the_way : (c : Machine S) → IsReached steps start c → OnTheWay below keeps start c.observation.history c
  on_the_way c IsReached.power_up = way_start below keeps start
  on_the_way c (IsReached.cycle b d f r k) = way_cycle below keeps start b d f k (on_the_way b r)
  on_the_way c (IsReached.set_lines b l few r) = way_lines below keeps start b.observation.history b l (on_the_way b r)

  soon : (c : Machine S) → IsReached steps start c → Soon below keeps start c.observation.history.since c
  soon c IsReached.power_up = soon_start below keeps start
  soon c (IsReached.cycle b d f r k) = soon_cycle below keeps start b d f k (soon b r)
  soon c (IsReached.set_lines b l few r) = soon_lines below keeps start b.observation.history.since b l (soon b r)

  zero_cycle : (c d : Machine S) (f : Bool) → Cycle steps c f d
      → reg d.processor.state.regs 0 ≡ reg c.processor.state.regs 0
  zero_cycle c d true k = ap (λ s. reg s.regs 0) (state_of k)
  zero_cycle c d false k =
      ap (λ s. reg s.regs 0) (state_of k)
      ∙ zero_advanced (current_row c.processor.state) c.processor.lines
      (row_output (current_row c.processor.state) c.processor.state) k.answer c.processor.state

  register_0 : (c : Machine S) → IsReached steps start c → reg c.processor.state.regs 0 ≡ 0
  register_0 c IsReached.power_up = refl
  register_0 c (IsReached.cycle b d f r k) = zero_cycle b d f k ∙ register_0 b r
  register_0 c (IsReached.set_lines b l few r) = register_0 b r

  pub kept : AllKeepPromise means steps start
  kept c r =
      record {
        boundaries = (on_the_way c r).boundaries;
        agreement = agrees below keeps start c.observation.history c (on_the_way c r);
        sum = (on_the_way c r).sum;
        promptness = at_least_a_row below keeps start c.observation.history.since c (soon c r);
        register_0 = register_0 c r;
        one_flag = one_flag c.processor.state.flag;
      }
