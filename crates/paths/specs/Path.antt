-- Each step of the book is a path of rows. Assumes nothing.
use Rattle.std.specs.Prelude.{◌≡◌, ℕ, ◌+◌, ◌<◌, ◌≤◌, Bool, true, false, ◌⊎◌, Some, None, Option}
use Rattle.machine.specs.declared.fault.Fault.{Fault}
use Rattle.rows.specs.Rows.{row_at}
use Rattle.microprogram.specs.Cycle.{ends_path, state_at_power_up}
use Rattle.book.specs.Book.{Book, Event, Refusals, first_state, step}
use Rattle.book.specs.Fit.{IsFit}
use Rattle.book.specs.Length.{length_of}
use Rattle.paths.specs.Instant.{World, world_after_cycles}

-- where the microprogram stands at an event: the row, and the flag that is up
abbrev pub AtEvent : Event → ℕ → Option Fault → Type 0
AtEvent Event.reset row flag = (row ≡ 0) ⊎ ((20 ≤ row) × (row ≤ 23))
AtEvent (Event.exception c) row flag = ((row ≡ 17) ⊎ (row ≡ 19)) × (flag ≡ Some c)
AtEvent Event.interrupt row flag = (row ≡ 18) × (flag ≡ None)
AtEvent Event.run row flag = (row ≡ 16) × (flag ≡ None)

-- the world in which the microprogram stands at a state of the book
abbrev pub world_at : Book → ℕ → ℕ → Option Fault → World
world_at b dt row flag =
    record {
      state = record { regs = b.regs; dt = dt; flag = flag; row = row; sampled = b.sampled; ledger = b.ledger };
      bytes = b.bytes;
    }

-- the world stands at a state of the book, with some DT
pub record Stands (b : Book) (s : World) : Type 0 where
  pub dt : ℕ
  pub row : ℕ
  pub flag : Option Fault
  pub at : AtEvent b.event row flag
  pub is : s ≡ world_at b dt row flag

-- at power-up the microprogram stands at the book's first state
abbrev pub Begins : Type 0
Begins = (bytes : ℕ → ℕ) → Stands (first_state bytes) (record { state = state_at_power_up; bytes = bytes })

-- whether the cycle that a world is about to make ends a path
abbrev pub world_ends_path : World → Bool
world_ends_path s = ends_path (row_at s.state.row).sequencing

-- a step of the book, walked by the microprogram: after exactly the book's length it stands at the book's next state,
-- that last cycle ends a path, and none before it does
pub record Walks (r : Refusals) (lines : ℕ) (b : Book) (s : World) : Type 0 where
  pub arrives : Stands (step r lines b) (world_after_cycles r lines (length_of b b.event) s)
  pub going : (n : ℕ) → n + 1 < length_of b b.event → world_ends_path (world_after_cycles r lines n s) ≡ false
  pub ending : (n : ℕ) → n + 1 ≡ length_of b b.event → world_ends_path (world_after_cycles r lines n s) ≡ true

-- each step of the book is a path of rows: for any refused words, lines and DT, and any state of the book whose
-- registers hold words and whose bytes are bytes
abbrev pub StepsArePaths : Type 0
StepsArePaths = (r : Refusals) (lines : ℕ) (b : Book) → IsFit b → (s : World) → Stands b s → Walks r lines b s
