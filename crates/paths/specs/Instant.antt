-- The microprogram with a memory that never waits. Assumes nothing.
use Rattle.std.specs.Prelude.{◌≡◌, ℕ, zero, suc, cond, Some, None, Option}
use Rattle.std.specs.Option.{option_map}
use Rattle.bus.specs.Meaning.{Meaning, byte_after, answer, is_refused, stored_byte}
use Rattle.bus.specs.Request.{first_address, byte_count}
use Rattle.bus.specs.declared.request.Action.TheVariants as action
use Rattle.bus.specs.declared.request.Request.{Request}
use Rattle.rows.specs.Rows.{row_at}
use Rattle.rows.specs.declared.row.Row.{Row}
use Rattle.microprogram.specs.Cycle.{State, request_of, row_output, state_after}
use Rattle.book.specs.Book.{Refusals}

-- the processor and the bytes of its memory
pub record World : Type 0 where
  pub state : State
  pub bytes : ℕ → ℕ

-- bytes and refused words as a memory with no waits
abbrev pub still_memory : Refusals → (ℕ → ℕ) → Meaning
still_memory r bytes =
    record {
      byte = bytes;
      unreadable = r.unreadable;
      unwritable = r.unwritable;
      waits = λ x. 0;
      longest = 0;
    }

-- the bytes after a request: only a write that is not refused changes any
abbrev pub bytes_after : Meaning → Option Request → ℕ → ℕ
bytes_after m None = m.byte
bytes_after m (Some q) =
    elim q.action [
      | action.Read ↦ m.byte
      | action.Write w d ↦ cond (is_refused m q) m.byte
          (stored_byte (first_address w q.address) (byte_count w) d m.byte)
    ]

-- that is what the bus says of the bytes after a request
abbrev pub StillKeeps : Type 0
StillKeeps =
    (r : Refusals) (bytes : ℕ → ℕ) (q : Request) (x : ℕ)
    → bytes_after (still_memory r bytes) (Some q) x ≡ byte_after (still_memory r bytes) q x

-- one cycle in a row
abbrev pub world_after_row : Row → Refusals → ℕ → World → World
world_after_row w r lines s =
    record {
      state =
          state_after w lines (row_output w s.state)
          (option_map (answer (still_memory r s.bytes)) (request_of w s.state)) s.state;
      bytes = bytes_after (still_memory r s.bytes) (request_of w s.state);
    }

-- one cycle
unfoldable pub world_after_cycle : Refusals → ℕ → World → World
world_after_cycle r lines s = world_after_row (row_at s.state.row) r lines s

unfoldable pub world_after_cycles : Refusals → ℕ → ℕ → World → World
world_after_cycles r lines zero s = s
world_after_cycles r lines (suc n) s = world_after_cycles r lines n (world_after_cycle r lines s)
