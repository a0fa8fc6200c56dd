-- One cycle that is not frozen. Assumes nothing.
use Rattle.std.specs.Prelude.{ℕ, ◌+◌, ◌*◌, ◌/◌, ◌%◌, ◌^◌, Bool, true, false, cond, not, ◌&&◌, ◌||◌, List, is_some}
use Rattle.std.specs.Prelude.{Some, None, Option}
use Rattle.bus.specs.Request.{read_of, write_of}
use Rattle.bus.specs.declared.request.Answer.{Answer}
use Rattle.bus.specs.declared.request.Answer.TheVariants.{BusError, Done}
use Rattle.bus.specs.declared.request.Request.{Request}
use Rattle.bus.specs.declared.request.Width.TheVariants.{Word, Half, Byte}
use Rattle.machine.specs.Address.{is_barred, is_misplaced, is_user_mode}
use Rattle.machine.specs.Interrupt.{entry_code, cr_code, cr_on_entry, cr_with_lines, is_interrupting, is_resetting}
use Rattle.machine.specs.Interrupt.{sr_on_entry}
use Rattle.machine.specs.Interrupt.{sr_on_return}
use Rattle.machine.specs.Ledger.{blank_ledger, with_entry}
use Rattle.machine.specs.Operation.{box_output, one_if}
use Rattle.machine.specs.Registers.{Regs, reg, regs_of, with_ad, with_bar, with_cr, with_epc, with_hi, with_ir}
use Rattle.machine.specs.Registers.{with_lo, with_pc, with_register, with_sr, zero_regs}
use Rattle.machine.specs.Word.{bit, branch_offset, function, jump_index, opcode, rd, rs, rt, shift_amount}
use Rattle.machine.specs.Word.{signed_immediate, system_number}
use Rattle.machine.specs.declared.fault.Fault.{Fault}
use Rattle.machine.specs.declared.fault.Fault.TheVariants as f
use Rattle.machine.specs.declared.ledger.Entry.{Entry}
use Rattle.rows.specs.declared.row.Destination.{Destination}
use Rattle.rows.specs.declared.row.Destination.TheVariants as r
use Rattle.rows.specs.declared.row.Detection.{Detection}
use Rattle.rows.specs.declared.row.Detection.TheVariants as e
use Rattle.rows.specs.declared.row.OperandX.{OperandX}
use Rattle.rows.specs.declared.row.OperandX.TheVariants as x
use Rattle.rows.specs.declared.row.OperandY.{OperandY}
use Rattle.rows.specs.declared.row.OperandY.TheVariants as y
use Rattle.rows.specs.declared.row.Row.{Row}
use Rattle.rows.specs.declared.row.Sequencing.{Sequencing}
use Rattle.rows.specs.declared.row.Sequencing.TheVariants as s
use Rattle.rows.specs.declared.row.Transfer.{Transfer}
use Rattle.rows.specs.declared.row.Transfer.TheVariants as m
use Rattle.microprogram.specs.declared.chip.Chip.{Chip}

-- operand X; CR is read with the lines that were sampled at the last boundary
abbrev pub operand_x : ℕ → ℕ → Regs → OperandX → ℕ
operand_x sampled dt g x.Rs = reg g (rs g.ir)
operand_x sampled dt g x.Rt = reg g (rt g.ir)
operand_x sampled dt g x.Pc = g.pc
operand_x sampled dt g x.Ad = g.ad
operand_x sampled dt g x.Hi = g.hi
operand_x sampled dt g x.Lo = g.lo
operand_x sampled dt g x.Epc = g.epc
operand_x sampled dt g x.Bar = g.bar
operand_x sampled dt g x.Sr = g.sr
operand_x sampled dt g x.Cr = cr_with_lines sampled g.cr
operand_x sampled dt g x.Dt = dt
operand_x sampled dt g x.Pc4 = g.pc / 2 ^ 28 * 2 ^ 28
operand_x sampled dt g x.C0 = 0
operand_x sampled dt g x.Cz = 0xBFC00000
operand_x sampled dt g x.Ch = 0xFFFF

-- operand Y
abbrev pub operand_y : ℕ → Regs → OperandY → ℕ
operand_y dt g y.I16 = signed_immediate g.ir
operand_y dt g y.I18 = branch_offset g.ir
operand_y dt g y.Iu28 = jump_index g.ir
operand_y dt g y.Ish = shift_amount g.ir
operand_y dt g y.Dt = dt
operand_y dt g y.Ad = g.ad
operand_y dt g y.C0 = 0
operand_y dt g y.C4 = 4
operand_y dt g y.C8 = 8
operand_y dt g y.C16 = 16
operand_y dt g y.C24 = 24
operand_y dt g y.Cx = 0x80000080

-- the access that a row has in its field
abbrev pub row_access : Regs → Transfer → ℕ → Option Request
row_access g m.Nop res = None
row_access g m.If res = Some (read_of g.pc)
row_access g m.Ww res = Some (write_of Word g.ad res)
row_access g m.Wh res = Some (write_of Half g.ad res)
row_access g m.Wb res = Some (write_of Byte g.ad res)
row_access g m.Lw res = Some (read_of g.ad)

-- the request that is made of it: none where a flag was up before
abbrev pub unless_flagged : Option Fault → Option Request → Option Request
unless_flagged (Some c) q = None
unless_flagged None q = q

abbrev pub is_bus_error : Option Answer → Bool
is_bus_error (Some BusError) = true
is_bus_error _ = false

abbrev pub fault_if : Bool → Fault → Option Fault
fault_if b c = cond b (Some c) None

-- the fault that a row finds
abbrev pub fault_found : Detection → ℕ → ℕ → Bool → Option Answer → Option Fault
fault_found e.Nop sr res over a = None
fault_found e.Ri sr res over a = Some f.Ri
fault_found e.Ovf sr res over a = fault_if over f.Ovf
fault_found e.Cpu sr res over a = fault_if (is_user_mode sr) f.Cpu
fault_found e.Sys sr res over a = Some f.Sys
fault_found e.Brk sr res over a = Some f.Brk
fault_found e.Ww sr res over a = fault_if (is_misplaced 4 sr res) f.Ades
fault_found e.Wh sr res over a = fault_if (is_misplaced 2 sr res) f.Ades
fault_found e.Wb sr res over a = fault_if (is_barred sr res) f.Ades
fault_found e.Lw sr res over a = fault_if (is_misplaced 4 sr res) f.Adel
fault_found e.Lh sr res over a = fault_if (is_misplaced 2 sr res) f.Adel
fault_found e.Lb sr res over a = fault_if (is_barred sr res) f.Adel
fault_found e.If sr res over a = fault_if (is_misplaced 4 sr res) f.Adel
fault_found e.Ibe sr res over a = fault_if (is_bus_error a) f.Ibe
fault_found e.Dbe sr res over a = fault_if (is_bus_error a) f.Dbe
fault_found e.Clr sr res over a = None

-- the fault that is raised: only where none is up
abbrev pub fault_raised : Option Fault → Option Fault → Option Fault
fault_raised (Some c) new = None
fault_raised None new = new

abbrev pub clears_flag : Detection → Bool
clears_flag e.Clr = true
clears_flag _ = false

-- the flag afterwards
abbrev pub flag_after : Detection → Option Fault → Option Fault → Option Fault
flag_after d before new = cond (clears_flag d) None (elim before [ Some c ↦ Some c | None ↦ new ])

-- bus errors do not stop the cycle that meets them
abbrev pub stops_its_cycle : Option Fault → Bool
stops_its_cycle None = false
stops_its_cycle (Some f.Ibe) = false
stops_its_cycle (Some f.Dbe) = false
stops_its_cycle (Some _) = true

-- whether AD, and whether a register that software sees, may be written: a row that clears is stopped by nothing
abbrev pub may_write_ad : Detection → Option Fault → Bool
may_write_ad d before = clears_flag d || not (is_some before)

abbrev pub may_write_visible : Detection → Option Fault → Option Fault → Bool
may_write_visible d before new =
    clears_flag d || (not (is_some before) && not (stops_its_cycle (fault_raised before new)))

-- the registers after a write of the result
abbrev pub regs_with_result : Destination → Option Fault → ℕ → Regs → Regs
regs_with_result r.Nop flag res g = g
regs_with_result r.Pc flag res g = with_pc res g
regs_with_result r.Ad flag res g = with_ad res g
regs_with_result r.Bar flag res g = with_bar res g
regs_with_result r.Lo flag res g = with_lo res g
regs_with_result r.Hi flag res g = with_hi res g
regs_with_result r.Epc flag res g = with_epc res g
regs_with_result r.Cr flag res g = with_cr res g
regs_with_result r.Sr flag res g = with_sr res g
regs_with_result r.Rt flag res g = with_register (rt g.ir) res g
regs_with_result r.Rd flag res g = with_register (rd g.ir) res g
regs_with_result r.R31 flag res g = with_register 31 res g
regs_with_result r.Erq flag res g = with_sr (sr_on_entry g.sr) (with_cr (cr_on_entry (entry_code flag) g.cr) g)
regs_with_result r.Rfe flag res g = with_sr (sr_on_return g.sr) g

-- whether the destination may be written: AD is stopped by less than the registers that software sees
abbrev pub may_write : Destination → Detection → Option Fault → Option Fault → Bool
may_write r.Ad d before new = may_write_ad d before
may_write _ d before new = may_write_visible d before new

-- the word that a finished access brings
abbrev pub word_brought : Option Answer → ℕ → ℕ
word_brought (Some (Done w)) old = w
word_brought _ old = old

-- IR and DT after the access
abbrev pub ir_after : Transfer → Option Answer → ℕ → ℕ
ir_after m.If a old = word_brought a old
ir_after _ a old = old

abbrev pub dt_after : Transfer → Option Answer → ℕ → ℕ
dt_after m.Lw a old = word_brought a old
dt_after _ a old = old

-- the row that follows; the choice at a boundary reads SR before this cycle's write and counts a flag raised in it
abbrev pub next_row : Sequencing → ℕ → Regs → ℕ → Bool → ℕ → Bool → ℕ
next_row s.Next amic g res zero lines flag = amic
next_row s.Decod amic g res zero lines flag = 256 + opcode g.ir * 4
next_row s.Spec amic g res zero lines flag = 512 + function g.ir * 4
next_row s.Movc0 amic g res zero lines flag = amic / 16 * 16 + system_number g.ir
next_row s.Rie amic g res zero lines flag =
    amic / 8 * 8 + one_if (is_resetting lines) * 4 + one_if (is_interrupting g.sr lines) * 2 + one_if flag
next_row s.Copro amic g res zero lines flag = amic / 4 * 4 + one_if (bit 25 g.ir) * 2 + one_if (bit 23 g.ir)
next_row s.Bcond amic g res zero lines flag = amic / 4 * 4 + one_if (bit 20 g.ir) * 2 + one_if (bit 16 g.ir)
next_row s.Ad10 amic g res zero lines flag = amic / 4 * 4 + g.ad % 4
next_row s.Ad1 amic g res zero lines flag = amic / 2 * 2 + one_if (bit 1 g.ad)
next_row s.Unsi amic g res zero lines flag = amic / 2 * 2 + one_if (bit 28 g.ir)
next_row s.Nul amic g res zero lines flag = amic / 2 * 2 + one_if zero
next_row s.Sinul amic g res zero lines flag = amic / 4 * 4 + one_if (bit 31 res) * 2 + one_if zero

-- a path ends with a row of this sequencing
abbrev pub ends_path : Sequencing → Bool
ends_path s.Rie = true
ends_path _ = false

-- the rows epc1 and epc2 save PC: they write EPC from it
abbrev pub saves_pc : Destination → OperandX → Bool
saves_pc r.Epc x.Pc = true
saves_pc _ _ = false

-- the processor without its memory: registers, flag, row, the lines at the last boundary, ledger
pub record State : Type 0 where
  pub regs : Regs
  pub dt : ℕ
  pub flag : Option Fault
  pub row : ℕ
  pub sampled : ℕ
  pub ledger : List Entry

abbrev pub chip_state : Chip → State
chip_state c =
    record {
      regs = regs_of c.registers;
      dt = c.registers.dt;
      flag = c.registers.flag;
      row = c.row;
      sampled = c.sampled;
      ledger = c.ledger.entries;
    }

-- what the operation box gives in a row
abbrev pub row_output : Row → State → ℕ × Bool × Bool
row_output w c = box_output w.operation (operand_x c.sampled c.dt c.regs w.x) (operand_y c.dt c.regs w.y)

-- the request that a state makes in a row
abbrev pub request_of : Row → State → Option Request
request_of w c = unless_flagged c.flag (row_access c.regs w.transfer (row_output w c).0)

-- the state after a row with that work, under the lines that stand now and the answer to its request
abbrev pub state_after : Row → ℕ → ℕ × Bool × Bool → Option Answer → State → State
state_after w lines k a c =
    let new : Option Fault = fault_found w.detection c.regs.sr k.0 k.1 a in
    let flag : Option Fault = flag_after w.detection c.flag new in
    let writes : Bool = may_write w.destination w.detection c.flag new in
    let enters : Bool = saves_pc w.destination w.x && may_write_visible w.detection c.flag new in
    record {
      regs =
          with_ir (ir_after w.transfer a c.regs.ir)
          (cond writes (regs_with_result w.destination c.flag k.0 c.regs) c.regs);
      dt = dt_after w.transfer a c.dt;
      flag = flag;
      row = next_row w.sequencing w.amic c.regs k.0 k.2 lines (is_some flag);
      sampled = cond (ends_path w.sequencing) lines c.sampled;
      ledger = cond enters (with_entry (cr_code c.regs.cr) k.0 c.ledger) c.ledger;
    }

-- power-up: everything zero, no flag, row 0
abbrev pub state_at_power_up : State
state_at_power_up =
    record {
      regs = zero_regs;
      dt = 0;
      flag = None;
      row = 0;
      sampled = 0;
      ledger = blank_ledger;
    }
