-- The instruction book: the machine that knows instructions and no rows. Assumes nothing.
use Rattle.std.specs.Prelude.{ℕ, ◌+◌, ◌-◌, ◌*◌, ◌/◌, ◌%◌, ◌^◌, Bool, cond, not, List, [], ◌∷◌, pos, Some, None, Option}
use Rattle.std.specs.Prelude.{◌==◌, int_le, int_lt, nat_lt}
use Rattle.bus.specs.Meaning.{stored_byte, word_at}
use Rattle.bus.specs.Request.{first_address, byte_count, word_of}
use Rattle.bus.specs.declared.request.Width.{Width}
use Rattle.bus.specs.declared.request.Width.TheVariants.{Word, Half, Byte}
use Rattle.machine.specs.Address.{is_barred, is_misplaced, is_user_mode}
use Rattle.machine.specs.Fault.{fault_code}
use Rattle.machine.specs.Interrupt.{cr_on_entry, cr_with_lines, is_interrupting, is_resetting, sr_on_entry}
use Rattle.machine.specs.Interrupt.{sr_on_return}
use Rattle.machine.specs.Ledger.{blank_ledger, with_entry}
use Rattle.machine.specs.Operation.{integer_of, overflows, result_of}
use Rattle.machine.specs.Registers.{Regs, reg, with_ad, with_bar, with_cr, with_epc, with_hi, with_ir, with_lo}
use Rattle.machine.specs.Registers.{with_pc, with_register, with_sr, zero_regs}
use Rattle.machine.specs.Word.{branch_offset, immediate, jump_address, rd, rs, rt, shift_amount, signed_immediate}
use Rattle.machine.specs.declared.fault.Fault.{Fault}
use Rattle.machine.specs.declared.fault.Fault.TheVariants as f
use Rattle.machine.specs.declared.ledger.Entry.{Entry}
use Rattle.machine.specs.declared.operation.Operation.TheVariants.{Sum}
use Rattle.book.specs.Instruction.{Instruction, instruction_of, table_entry}

-- what the next step will be
pub data Event : Type 0 where
  reset : Event
  exception : Fault → Event
  interrupt : Event
  run : Event

-- the words that the memory refuses
pub record Refusals : Type 0 where
  pub unreadable : ℕ → Bool
  pub unwritable : ℕ → Bool

-- the book's machine: registers without DT, ledger, bytes, the lines at the last boundary, and an event
pub record Book : Type 0 where
  pub regs : Regs
  pub ledger : List Entry
  pub bytes : ℕ → ℕ
  pub sampled : ℕ
  pub event : Event

-- the first state, at power-up: the memory's bytes, event reset, and all else zero
abbrev pub first_state : (ℕ → ℕ) → Book
first_state bytes =
    record {
      regs = zero_regs;
      ledger = blank_ledger;
      bytes = bytes;
      sampled = 0;
      event = reset;
    }

-- a step before its fetch: what it made, the fault that stands, and the SR that the next event reads
pub record Effect : Type 0 where
  pub regs : Regs
  pub ledger : List Entry
  pub bytes : ℕ → ℕ
  pub fault : Option Fault
  pub event_sr : ℕ

-- registers that a step left, with no fault
abbrev pub without_fault : Book → Regs → Effect
without_fault b g = record { regs = g; ledger = b.ledger; bytes = b.bytes; fault = None; event_sr = g.sr }

-- a step that met a fault
abbrev pub with_fault : Book → Fault → Regs → Effect
with_fault b c g = record { regs = g; ledger = b.ledger; bytes = b.bytes; fault = Some c; event_sr = g.sr }

-- a jump: the target goes to AD, and to PC unless it may not be used
abbrev pub jump_to : Book → ℕ → Regs → Effect
jump_to b t g =
    cond (is_misplaced 4 g.sr t) (with_fault b f.Adel (with_ad t g)) (without_fault b (with_pc t (with_ad t g)))

-- a branch that is taken goes to the address after it plus the offset
abbrev pub branch_if : Book → Bool → Regs → Effect
branch_if b taken g = cond taken (jump_to b ((g.pc + branch_offset g.ir) % 2 ^ 32) g) (without_fault b g)

-- the words in RS and RT
abbrev pub rs_value : Regs → ℕ
rs_value g = reg g (rs g.ir)

abbrev pub rt_value : Regs → ℕ
rt_value g = reg g (rt g.ir)

-- the address of a load or a store
abbrev pub address : Regs → ℕ
address g = (rs_value g + signed_immediate g.ir) % 2 ^ 32

-- a word moved up so that the byte, or the half, at an address stands highest
abbrev pub raised_byte : ℕ → ℕ → ℕ
raised_byte at w = w * 2 ^ (24 - at % 4 * 8) % 2 ^ 32

abbrev pub raised_half : ℕ → ℕ → ℕ
raised_half at w = w * 2 ^ (16 - at / 2 % 2 * 16) % 2 ^ 32

-- a number of n bits as a word, with its sign extended or not
abbrev pub as_word : Bool → ℕ → ℕ → ℕ
as_word sign n v = cond sign (cond (nat_lt v (2 ^ (n - 1))) v (v + (2 ^ 32 - 2 ^ n))) v

-- a load: the register gets what `value` says of the address and the word, and AD, which has the address before, what
-- `left` says of them
abbrev pub load_with : Refusals → Book → Bool → (ℕ → ℕ → ℕ) → (ℕ → ℕ → ℕ) → Regs → Effect
load_with r b bad value left g =
    let at : ℕ = address g in
    let w : ℕ = word_at b.bytes (word_of at) in
    cond bad (with_fault b f.Adel (with_ad at g))
    (cond (r.unreadable (word_of at)) (with_fault b f.Dbe (with_ad at g))
    (without_fault b (with_register (rt g.ir) (value at w) (with_ad (left at w) g))))

-- a store
abbrev pub store_with : Refusals → Book → Bool → Width → Regs → Effect
store_with r b bad size' g =
    let at : ℕ = address g in
    cond bad (with_fault b f.Ades (with_ad at g))
    (cond (r.unwritable (word_of at)) (with_fault b f.Dbe (with_ad at g))
    (record {
      regs = with_ad at g;
      ledger = b.ledger;
      bytes = stored_byte (first_address size' at) (byte_count size') (rt_value g) b.bytes;
      fault = None;
      event_sr = g.sr;
    }))

-- what meets CPU in user mode
abbrev pub unless_user_mode : Book → Regs → Effect → Effect
unless_user_mode b g m = cond (is_user_mode g.sr) (with_fault b f.Cpu g) m

-- the system registers that can be moved: 8 BAR, 12 SR, 13 CR, 14 EPC; for any other number the code is illegal
abbrev pub from_system : Book → Regs → ℕ → Effect
from_system b g n =
    table_entry n
    ((8, without_fault b (with_register (rt g.ir) g.bar g))
    ∷ (12, without_fault b (with_register (rt g.ir) g.sr g))
    ∷ (13, without_fault b (with_register (rt g.ir) (cr_with_lines b.sampled g.cr) g))
    ∷ (14, without_fault b (with_register (rt g.ir) g.epc g))
    ∷ [])
    (with_fault b f.Ri g)

-- after a move to SR the next event still reads the old SR
abbrev pub to_sr : Book → Regs → Effect
to_sr b g =
    record {
      regs = with_sr (rt_value g) g;
      ledger = b.ledger;
      bytes = b.bytes;
      fault = None;
      event_sr = g.sr;
    }

abbrev pub to_system : Book → Regs → ℕ → Effect
to_system b g n =
    table_entry n
    ((8, without_fault b (with_bar (rt_value g) g))
    ∷ (12, to_sr b g)
    ∷ (13, without_fault b (with_cr (rt_value g) g))
    ∷ (14, without_fault b (with_epc (rt_value g) g))
    ∷ [])
    (with_fault b f.Ri g)

-- a link is the address after the instruction; it is written before RS is read
abbrev pub with_link : Bool → Regs → Regs
with_link link g = cond link (with_register 31 g.pc g) g

-- what each instruction does, PC having risen by 4
abbrev pub effect_of : Refusals → Book → Instruction → Regs → Effect
effect_of r b (Instruction.shift_fixed op) g =
    without_fault b (with_register (rd g.ir) (result_of op (rt_value g) (shift_amount g.ir)) g)
effect_of r b (Instruction.shift_by op) g =
    without_fault b (with_register (rd g.ir) (result_of op (rt_value g) (rs_value g)) (with_ad (rs_value g) g))
effect_of r b (Instruction.compute op) g =
    without_fault b (with_register (rd g.ir) (result_of op (rs_value g) (rt_value g)) (with_ad (rt_value g) g))
effect_of r b (Instruction.compute_checked op) g =
    let v : ℕ = result_of op (rs_value g) (rt_value g) in
    cond (overflows op (rs_value g) (rt_value g)) (with_fault b f.Ovf (with_ad v g))
    (without_fault b (with_register (rd g.ir) v (with_ad v g)))
effect_of r b (Instruction.compute_pair low high) g =
    let low_word : ℕ = result_of low (rs_value g) (rt_value g) in
    let high_word : ℕ = result_of high (rs_value g) (rt_value g) in
    without_fault b (with_lo low_word (with_hi high_word (with_ad (rt_value g) g)))
effect_of r b Instruction.move_from_hi g = without_fault b (with_register (rd g.ir) g.hi g)
effect_of r b Instruction.move_from_lo g = without_fault b (with_register (rd g.ir) g.lo g)
effect_of r b Instruction.move_to_hi g = without_fault b (with_hi (rs_value g) g)
effect_of r b Instruction.move_to_lo g = without_fault b (with_lo (rs_value g) g)
effect_of r b Instruction.jump_register g = jump_to b (rs_value g) g
effect_of r b Instruction.jump_link_register g =
    let h : Regs = with_register (rd g.ir) g.pc g in jump_to b (reg h (rs g.ir)) h
effect_of r b Instruction.system_call g = with_fault b f.Sys g
effect_of r b Instruction.breakpoint g = with_fault b f.Brk g
effect_of r b Instruction.jump g = jump_to b (jump_address g.pc g.ir) g
effect_of r b Instruction.jump_link g =
    jump_to b (jump_address g.pc g.ir) (with_register 31 g.pc g)
effect_of r b Instruction.branch_equal g =
    branch_if b (rs_value g == rt_value g) (with_ad (rt_value g) g)
effect_of r b Instruction.branch_unequal g =
    branch_if b (not (rs_value g == rt_value g)) (with_ad (rt_value g) g)
effect_of r b Instruction.branch_not_above g = branch_if b (int_le (integer_of (rs_value g)) (pos 0)) g
effect_of r b Instruction.branch_above g = branch_if b (int_lt (pos 0) (integer_of (rs_value g))) g
effect_of r b (Instruction.branch_below link) g =
    let h : Regs = with_link link g in branch_if b (int_lt (integer_of (reg h (rs g.ir))) (pos 0)) h
effect_of r b (Instruction.branch_not_below link) g =
    let h : Regs = with_link link g in branch_if b (int_le (pos 0) (integer_of (reg h (rs g.ir)))) h
effect_of r b Instruction.add_immediate g =
    let v : ℕ = result_of Sum (rs_value g) (signed_immediate g.ir) in
    cond (overflows Sum (rs_value g) (signed_immediate g.ir)) (with_fault b f.Ovf (with_ad v g))
    (without_fault b (with_register (rt g.ir) v (with_ad v g)))
effect_of r b (Instruction.compute_signed op) g =
    let v : ℕ = signed_immediate g.ir in
    without_fault b (with_register (rt g.ir) (result_of op (rs_value g) v) (with_ad v g))
effect_of r b (Instruction.compute_plain op) g =
    let v : ℕ = immediate g.ir in
    without_fault b (with_register (rt g.ir) (result_of op (rs_value g) v) (with_ad v g))
effect_of r b Instruction.load_upper g =
    without_fault b (with_register (rt g.ir) (immediate g.ir * 2 ^ 16) (with_ad (immediate g.ir) g))
effect_of r b Instruction.load_word g = load_with r b (is_misplaced 4 g.sr (address g)) (λ at w. w) (λ at w. at) g
effect_of r b (Instruction.load_byte sign) g =
    load_with r b (is_barred g.sr (address g)) (λ at w. as_word sign 8 (b.bytes at)) raised_byte g
effect_of r b (Instruction.load_half sign) g =
    load_with r b (is_misplaced 2 g.sr (address g)) (λ at w. as_word sign 16 (b.bytes at + b.bytes (at + 1) * 256))
    raised_half g
effect_of r b Instruction.store_byte g = store_with r b (is_barred g.sr (address g)) Byte g
effect_of r b Instruction.store_half g = store_with r b (is_misplaced 2 g.sr (address g)) Half g
effect_of r b Instruction.store_word g = store_with r b (is_misplaced 4 g.sr (address g)) Word g
effect_of r b (Instruction.move_from_system n) g = unless_user_mode b g (from_system b g n)
effect_of r b (Instruction.move_to_system n) g = unless_user_mode b g (to_system b g n)
effect_of r b Instruction.return_from_exception g =
    unless_user_mode b g (without_fault b (with_sr (sr_on_return g.sr) g))
effect_of r b Instruction.unassigned_opcode g = with_fault b f.Ri g
effect_of r b Instruction.unassigned_function g = with_fault b f.Ri g

-- entry of an exception or an interrupt: the mode, the cause, where to go on, the ledger, the vector, and AD to BAR
abbrev pub entry_of : Book → ℕ → ℕ → Effect
entry_of b c epc =
    let g : Regs = b.regs in
    let in_system : Regs = with_sr (sr_on_entry g.sr) (with_cr (cr_on_entry c g.cr) g) in
    record {
      regs = with_bar g.ad (with_pc 0x80000080 (with_epc epc in_system));
      ledger = with_entry c epc b.ledger;
      bytes = b.bytes;
      fault = None;
      event_sr = sr_on_entry g.sr;
    }

-- a run begins with PC rising by 4
abbrev pub with_risen_pc : Book → Regs
with_risen_pc b = with_pc ((b.regs.pc + 4) % 2 ^ 32) b.regs

-- a step before its fetch
abbrev pub before_fetch : Refusals → Book → Event → Effect
before_fetch r b reset = without_fault b (with_sr 0 (with_pc 0xBFC00000 b.regs))
before_fetch r b (exception c) = entry_of b (fault_code c) ((b.regs.pc + (2 ^ 32 - 4)) % 2 ^ 32)
before_fetch r b interrupt = entry_of b 0 b.regs.pc
before_fetch r b run = effect_of r b (instruction_of b.regs.ir) (with_risen_pc b)

-- the fetch: the word at PC goes to IR, or the fetch faults; where a fault stands already there is none
abbrev pub after_fetch : Refusals → Effect → Effect
after_fetch r m =
    elim m.fault [
      | Some c ↦ m
      | None ↦ cond (r.unreadable (word_of m.regs.pc))
          (record { regs = m.regs; ledger = m.ledger; bytes = m.bytes; fault = Some f.Ibe; event_sr = m.event_sr })
          (record {
            regs = with_ir (word_at m.bytes (word_of m.regs.pc)) m.regs;
            ledger = m.ledger;
            bytes = m.bytes;
            fault = None;
            event_sr = m.event_sr;
          })
    ]

-- the next event, by the lines that stand at the boundary
abbrev pub next_event : ℕ → Effect → Event
next_event lines m =
    cond (is_resetting lines) reset
    (elim m.fault [ Some c ↦ exception c | None ↦ cond (is_interrupting m.event_sr lines) interrupt run ])

-- one step
abbrev pub step : Refusals → ℕ → Book → Book
step r lines b =
    let m : Effect = after_fetch r (before_fetch r b b.event) in
    record { regs = m.regs; ledger = m.ledger; bytes = m.bytes; sampled = lines; event = next_event lines m }
