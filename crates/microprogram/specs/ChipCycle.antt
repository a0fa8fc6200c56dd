-- One cycle of a chip by a row, frozen or not. Assumes nothing.
use Rattle.std.specs.Prelude.{◌≡◌, ℕ, Bool, true, false, cond, Some, None, Option}
use Rattle.bus.specs.declared.request.Answer.{Answer}
use Rattle.bus.specs.declared.request.Answer.TheVariants.{Wait, BusError, Done}
use Rattle.bus.specs.declared.request.Request.{Request}
use Rattle.microprogram.specs.Cycle.{State, ends_path, request_of, row_output, state_after}
use Rattle.microprogram.specs.declared.chip_cycle.CycleEnd.{CycleEnd}
use Rattle.microprogram.specs.declared.chip_cycle.CycleEnd.TheVariants.{Frozen, Within, Boundary}
use Rattle.rows.specs.declared.row.Row.{Row}

-- how a pile goes on in a cycle: it is asked exactly where the cycle makes a request
abbrev pub Asks : {S : Type 0} → (S → Request → Answer → S → Type 0) → S → Option Request → Option Answer → S → Type 0
Asks steps s None a t = (a ≡ None) × (t ≡ s)
Asks steps s (Some q) a t = (b : Answer) × (a ≡ Some b) × steps s q b t

-- a cycle is frozen exactly when the pile answers wait
abbrev pub is_wait : Option Answer → Bool
is_wait None = false
is_wait (Some Wait) = true
is_wait (Some BusError) = false
is_wait (Some (Done w)) = false

-- one cycle by a row, under the lines that stand: of a chip from c to d, on a pile from s to t. A frozen cycle leaves the
-- chip as it is, another one does what the row says
pub record ChipCycle {S : Type 0} (steps : S → Request → Answer → S → Type 0) (w : Row) (lines : ℕ)
    (c : State) (s : S) (end : CycleEnd) (d : State) (t : S) : Type 0 where
  pub answer : Option Answer
  pub asks : Asks steps s (request_of w c) answer t
  pub ends : end ≡ cond (is_wait answer) Frozen (cond (ends_path w.sequencing) Boundary Within)
  pub after : d ≡ cond (is_wait answer) c (state_after w lines (row_output w c) answer c)
