-- What can happen to a core. Assumes nothing.
use Rattle.std.specs.Prelude.{ℕ, ◌≤◌, Bool}
use Rattle.bus.specs.declared.request.Answer.{Answer}
use Rattle.bus.specs.declared.request.Request.{Request}
use Rattle.r3000.specs.Cycle.{Cycle}
use Rattle.r3000.specs.Limits.{max_lines}
use Rattle.r3000.specs.Machine.{Machine, core_at_power_up, with_lines}

-- power-up on a pile, a cycle, a call that sets the lines; everything else leaves core and pile as they are
pub data IsReached {S : Type 0} (steps : S → Request → Answer → S → Type 0) (start : S) : Machine S → Type 0 where
  power_up : IsReached steps start (core_at_power_up start)
  cycle : (c d : Machine S) (frozen : Bool) → IsReached steps start c → Cycle steps c frozen d
      → IsReached steps start d
  set_lines : (c : Machine S) (lines : ℕ) → lines ≤ max_lines → IsReached steps start c
      → IsReached steps start (with_lines lines c)
