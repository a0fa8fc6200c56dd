-- One cycle of a core, and several. Assumes nothing.
use Rattle.std.specs.Prelude.{◌≡◌, ℕ, zero, suc, Bool, cond, Option}
use Rattle.bus.specs.declared.request.Answer.{Answer}
use Rattle.bus.specs.declared.request.Request.{Request}
use Rattle.microprogram.specs.ChipCycle.{Asks, is_wait}
use Rattle.microprogram.specs.Cycle.{State, request_of, row_output, state_after}
use Rattle.r3000.specs.Machine.{Machine, current_row, observation_after}

-- a core after a cycle, by whether it was frozen, the answer to its request, and what its pile then is: a frozen cycle
-- leaves the processor as it is, another one does what the row says
abbrev pub core_after_cycle : {S T : Type 0} → Bool → Option Answer → T → Machine S → Machine T
core_after_cycle frozen a pile c =
    let s : State = c.processor.state in
    record {
      processor =
          record
          c.processor {
            state = cond frozen s
                (state_after (current_row s) c.processor.lines (row_output (current_row s) s) a s);
          };
      pile = pile;
      observation = observation_after c.processor frozen c.observation;
    }

-- the request that a core makes in its next cycle
abbrev pub next_request : {S : Type 0} → Machine S → Option Request
next_request c = request_of (current_row c.processor.state) c.processor.state

-- one cycle from c to d
pub record Cycle {S : Type 0} (steps : S → Request → Answer → S → Type 0)
    (c : Machine S) (frozen : Bool) (d : Machine S) : Type 0 where
  pub answer : Option Answer
  pub asks : Asks steps c.pile (next_request c) answer d.pile
  pub freeze : frozen ≡ is_wait answer
  pub after : d ≡ core_after_cycle frozen answer d.pile c

-- so many cycles, one after another, and what is said of the core after each of them
abbrev pub Cycles : {S : Type 0} → (S → Request → Answer → S → Type 0) → (Machine S → Type 0)
    → ℕ → Machine S → Machine S → Type 0
Cycles steps says zero c d = d ≡ c
Cycles {S} steps says (suc n) c d =
    (b : Machine S) × (frozen : Bool) × Cycles steps says n c b × Cycle steps b frozen d × says d
