-- A path of rows, walked one row after another. Assumes nothing.
use Rattle.std.proofs.Common.{◌≡◌, ℕ, ◌+◌, ◌*◌, ◌%◌, ◌^◌, ◌<◌, Bool, true, false, not, ◌&&◌, List, [], ◌∷◌, length}
use Rattle.std.proofs.Common.{is_some, None, Option, refl, ap, ◌∙◌, arith}
use Rattle.bus.specs.Request.{word_of}
use Rattle.machine.specs.Interrupt.{is_interrupting, is_resetting}
use Rattle.machine.specs.Operation.{one_if}
use Rattle.machine.specs.Registers.{Regs, reg}
use Rattle.machine.specs.Word.{rs, rt}
use Rattle.machine.specs.declared.fault.Fault.{Fault}
use Rattle.machine.specs.declared.operation.Operation.{Operation}
use Rattle.machine.specs.declared.operation.Operation.TheVariants.{Sum}
use Rattle.rows.specs.Rows.{row_at}
use Rattle.rows.specs.declared.row.Destination.{Destination}
use Rattle.rows.specs.declared.row.Destination.TheVariants as r
use Rattle.rows.specs.declared.row.Detection.{Detection}
use Rattle.rows.specs.declared.row.Detection.TheVariants as e
use Rattle.rows.specs.declared.row.OperandX.{OperandX}
use Rattle.rows.specs.declared.row.OperandX.TheVariants as x
use Rattle.rows.specs.declared.row.OperandY.{OperandY}
use Rattle.rows.specs.declared.row.OperandY.TheVariants as y
use Rattle.rows.specs.declared.row.Row.{Row}
use Rattle.rows.specs.declared.row.Sequencing.{Sequencing}
use Rattle.rows.specs.declared.row.Sequencing.TheVariants as s
use Rattle.rows.specs.declared.row.Transfer.{Transfer}
use Rattle.rows.specs.declared.row.Transfer.TheVariants as m
use Rattle.microprogram.specs.Cycle.{ends_path}
use Rattle.book.specs.Book.{Book, Effect, Refusals, after_fetch, without_fault}
use Rattle.book.specs.Fit.{IsFit}
use Rattle.paths.specs.Instant.{World, world_after_cycle, world_after_cycles, world_after_row}
use Rattle.paths.specs.Path.{world_at}

-- rows with their addresses
abbrev pub Rows : Type 0
Rows = List (ℕ × Row)

-- a walk along them
abbrev pub walk : Refusals → ℕ → Rows → World → World
walk r lines [] s = s
walk r lines (p ∷ ps) s = walk r lines ps (world_after_row p.1 r lines s)

-- each row is the one that the world has come to
abbrev pub Leads : Refusals → ℕ → Rows → World → Type 0
Leads r lines [] s = Unit {0}
Leads r lines (p ∷ ps) s = (s.state.row ≡ p.0) × (row_at p.0 ≡ p.1) × Leads r lines ps (world_after_row p.1 r lines s)

-- a row that the world has come to, and the rows behind it
infixr 5 ◌↠◌
abbrev pub ◌↠◌ : {A B C : Type 0} → A × B → C → A × B × C
◌↠◌ row rest = (row.0, row.1, rest)

pub walked : (r : Refusals) (lines : ℕ) (ps : Rows) (s : World) → Leads r lines ps s
    → world_after_cycles r lines (length ps) s ≡ walk r lines ps s
unfolding world_after_cycle world_after_cycles
walked r lines [] s h = refl
walked r lines (p ∷ ps) s h =
    ap (λ w. world_after_cycles r lines (length ps) (world_after_row w r lines s)) (ap row_at h.0 ∙ h.1)
    ∙ walked r lines ps (world_after_row p.1 r lines s) h.2

-- the world at the boundary that ends a step
abbrev pub ending : ℕ → Effect → ℕ → World
ending lines m dt =
    record {
      state =
          record {
            regs = m.regs;
            dt = dt;
            flag = m.fault;
            row =
                16 + one_if (is_resetting lines) * 4 + one_if (is_interrupting m.event_sr lines) * 2 + one_if
                (is_some m.fault);
            sampled = lines;
            ledger = m.ledger;
          };
      bytes = m.bytes;
    }

-- all rows but the last go on, and the last ends the path
abbrev pub only_last : Rows → Bool
only_last [] = false
only_last (p ∷ []) = ends_path p.1.sequencing
only_last (p ∷ (q ∷ ps)) = not (ends_path p.1.sequencing) && only_last (q ∷ ps)

-- a path of n rows from where the microprogram stands to the boundary at which what was made, and fetched, stands
pub record Reaches (deny : Refusals) (lines : ℕ) (b : Book) (dt row : ℕ) (flag : Option Fault) (n : ℕ) (m : Effect) :
    Type 0 where
  pub rows : Rows
  pub long : length rows ≡ n
  pub plain : only_last rows ≡ true
  pub leads : Leads deny lines rows (world_at b dt row flag)
  pub last : ℕ
  pub arrives : walk deny lines rows (world_at b dt row flag) ≡ ending lines (after_fetch deny m) last

-- a word plus nothing is the word
pub plus_nothing : (x : ℕ) → x < 2 ^ 32 → (x + 0) % 2 ^ 32 ≡ x
plus_nothing x h = omega arith

pub nothing_plus : (x : ℕ) → x < 2 ^ 32 → (0 + x) % 2 ^ 32 ≡ x
nothing_plus x h = omega arith

-- a test, and what it came out as
pub split : {G : Type 0} (t : Bool) → (t ≡ true → G) → (t ≡ false → G) → G
split true here there = here refl
split false here there = there refl

pub below : (n : ℕ) → n % 2 ^ 32 < 2 ^ 32
below n = omega arith

abbrev pub row : OperandX → OperandY → Operation → Destination → Transfer → Detection → Sequencing → ℕ → Row
row a b op d t e s n =
    record {
      x = a;
      y = b;
      operation = op;
      destination = d;
      transfer = t;
      detection = e;
      sequencing = s;
      amic = n;
    }

abbrev pub init : Row
init = row x.Pc y.C4 Sum r.Pc m.Nop e.Nop s.Decod 0

abbrev pub special : Row
special = row x.C0 y.C0 Sum r.Nop m.Nop e.Nop s.Spec 0

abbrev pub fetch : Row
fetch = row x.C0 y.C0 Sum r.Nop m.If e.Ibe s.Rie 16

-- a world on the way of a step: its registers, DT, flag and row, and all else as at the start
abbrev pub amid : Book → Regs → ℕ → Option Fault → ℕ → World
amid b g dt flag at =
    record {
      state =
          record {
            regs = g;
            dt = dt;
            flag = flag;
            row = at;
            sampled = b.sampled;
            ledger = b.ledger;
          };
      bytes = b.bytes;
    }

-- the fetch behind registers that a step left
pub fetching : (deny : Refusals) (lines : ℕ) (b : Book) (g : Regs) (dt at : ℕ)
    → walk deny lines ((at, fetch) ∷ []) (amid b g dt None at) ≡ ending lines (after_fetch deny (without_fault b g)) dt
fetching deny lines b g dt at = split (deny.unreadable (word_of g.pc)) (λ q. rw q) (λ q. rw q)

-- RT and RS, passed on through a sum with nothing
pub rt_word : (b : Book) → IsFit b → (reg b.regs (rt b.regs.ir) + 0) % 2 ^ 32 ≡ reg b.regs (rt b.regs.ir)
rt_word b fit = plus_nothing (reg b.regs (rt b.regs.ir)) (fit.words.general (rt b.regs.ir))

pub rs_word : (b : Book) → IsFit b → (reg b.regs (rs b.regs.ir) + 0) % 2 ^ 32 ≡ reg b.regs (rs b.regs.ir)
rs_word b fit = plus_nothing (reg b.regs (rs b.regs.ir)) (fit.words.general (rs b.regs.ir))
