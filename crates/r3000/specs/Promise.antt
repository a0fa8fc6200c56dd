-- What is promised of everything that is reached. Assumes nothing.
use Rattle.std.specs.Prelude.{◌≡◌, ℕ, ◌+◌, ◌*◌, ◌<◌, List, [], ◌∷◌, length, Some}
use Rattle.book.specs.Book.{Book, Refusals, first_state, step}
use Rattle.book.specs.Length.{length_of}
use Rattle.bus.specs.Meaning.{Meaning}
use Rattle.bus.specs.declared.request.Answer.{Answer}
use Rattle.bus.specs.declared.request.Request.{Request}
use Rattle.microprogram.specs.Bounds.{path_budget}
use Rattle.microprogram.specs.Cycle.{State}
use Rattle.machine.specs.Registers.{reg}
use Rattle.machine.specs.declared.fault.Fault.{Fault}
use Rattle.r3000.specs.Core.{machine_of}
use Rattle.r3000.specs.Machine.{History, Machine}
use Rattle.r3000.specs.Reached.{IsReached}
use Rattle.r3000.specs.declared.cpu.Core.{Core}

-- the words that a memory refuses
abbrev pub refusals : Meaning → Refusals
refusals m = record { unreadable = m.unreadable; unwritable = m.unwritable }

-- the book over a memory, after a step for each boundary, each with the lines that stood there
abbrev pub book_after : Meaning → List ℕ → Book
book_after m [] = first_state m.byte
book_after m (l ∷ ls) = step (refusals m) l (book_after m ls)

-- the book's lengths of these steps, together
abbrev pub total_length : Meaning → List ℕ → ℕ
total_length m [] = 0
total_length m (l ∷ ls) = total_length m ls + length_of (book_after m ls) (book_after m ls).event

-- registers without DT, the lines at the last boundary, ledger, and the bytes at every address are the book's
pub record Agrees (b : Book) (s : State) (m : Meaning) : Type 0 where
  pub regs : s.regs ≡ b.regs
  pub sampled : s.sampled ≡ b.sampled
  pub ledger : s.ledger ≡ b.ledger
  pub bytes : (address : ℕ) → m.byte address ≡ b.bytes address

-- the granted cycle with which the next boundary comes at the latest, counted from the one before or from
-- power-up: 7 + 2 W
abbrev pub latest_boundary : Meaning → ℕ
latest_boundary m = path_budget.rows + path_budget.accesses * m.longest

-- whether a flag is up
abbrev pub IsUp : State → Fault → Type 0
IsUp s f = s.flag ≡ Some f

-- the promise, of a core that began on a pile
pub record Promise {S : Type 0} (means : S → Meaning) (start : S) (c : Machine S) : Type 0 where
  -- the history has a step for each boundary that is reported
  pub boundaries : length c.observation.history.boundary_lines ≡ c.observation.report.boundaries
  -- agreement: at each boundary, where the place is 0
  pub agreement : c.observation.report.place ≡ 0
      → Agrees (book_after (means start) c.observation.history.boundary_lines) c.processor.state (means c.pile)
  -- sum
  pub sum : c.observation.report.cycles
      ≡ c.observation.report.frozen + total_length (means start) c.observation.history.boundary_lines
      + c.observation.report.place
  -- promptness: the latest granted cycle after a boundary, or after power-up, is not made without a boundary
  pub promptness : c.observation.history.since < latest_boundary (means start)
  -- register 0 is zero, and at most one flag is up (of which the flag's type leaves no more)
  pub register_0 : reg c.processor.state.regs 0 ≡ 0
  pub one_flag : (f g : Fault) → IsUp c.processor.state f → IsUp c.processor.state g → f ≡ g

module _ {S : Type 0} (means : S → Meaning) (steps : S → Request → Answer → S → Type 0) where
  -- every core that is reached keeps it
  abbrev pub AllKeepPromise : S → Type 0
  AllKeepPromise start = (c : Machine S) → IsReached steps start c → Promise means start c

  -- a core that can be reached on a pile, and of which the promise holds
  pub record IsPromised (start : S) (c : Machine S) : Type 0 where
    pub reached : IsReached steps start c
    pub promise : Promise means start c

  -- from c to d the promise is upheld: on whatever pile c can be reached, d can be reached on that pile, and the
  -- promise holds of d
  abbrev pub Upholds : Machine S → Machine S → Type 0
  Upholds c d = (start : S) → IsReached steps start c → IsPromised start d

  -- what a call does: whatever the core has behind it, R holds of the core before and the core after, which has that
  -- behind it too, and the promise is upheld
  abbrev pub Happens : (Machine S → Machine S → Type 0) → Core S → Core S → Type 0
  Happens R c d =
      (h : History) → (k : History) × R (machine_of h c) (machine_of k d) × Upholds (machine_of h c) (machine_of k d)
