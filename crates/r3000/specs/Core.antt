-- What the code's core is to the relation, and the numbers of its registers. Assumes nothing.
use Rattle.std.specs.Prelude.{ℕ, List, [], ◌∷◌, ◌++◌}
use Rattle.microprogram.specs.Cycle.{State, chip_state}
use Rattle.machine.specs.Interrupt.{cr_with_lines}
use Rattle.r3000.specs.Machine.{History, Machine}
use Rattle.r3000.specs.declared.cpu.Core.{Core}
use Rattle.r3000.specs.declared.processor.Processor.{Processor}

-- a core's state, as the rules see it: registers, DT, flag, row, the lines of the last boundary, ledger
abbrev pub core_state : {B : Type 0} → Core B → State
core_state c = chip_state c.processor.chip

-- the pile that a core owns
abbrev pub pile_of : {B : Type 0} → Core B → B
pile_of c = c.pile

-- a processor on a pile, as the rules see it, with what it has behind it
abbrev pub machine_of_parts : {B : Type 0} → History → Processor → B → Machine B
machine_of_parts h p pile =
    record {
      processor = record { state = chip_state p.chip; lines = p.lines };
      pile = pile;
      observation = record { report = p.counts.report; history = h };
    }

-- a core, so seen
abbrev pub machine_of : {B : Type 0} → History → Core B → Machine B
machine_of h c = machine_of_parts h c.processor c.pile

-- the 42 registers by their numbers: 0 to 31, then PC, HI, LO, SR, CR, EPC, BAR, AD, IR, DT; CR is read with the lines
abbrev pub registers_in_order : State → List ℕ
registers_in_order s =
    s.regs.general
    ++ (s.regs.pc ∷ s.regs.hi ∷ s.regs.lo ∷ s.regs.sr ∷ cr_with_lines s.sampled s.regs.cr ∷ s.regs.epc ∷ s.regs.bar
    ∷ s.regs.ad ∷ s.regs.ir ∷ s.dt ∷ [])
