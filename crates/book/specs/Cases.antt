-- Worked cases of the book. Assumes nothing.
use Rattle.std.specs.Prelude.{◌≡◌, ℕ, false, ◌∷◌, replicate, ◌==◌}
use Rattle.machine.specs.Interrupt.{cr_code}
use Rattle.machine.specs.Ledger.{blank_ledger}
use Rattle.machine.specs.Registers.{zero_regs}
use Rattle.book.specs.Book.{Book, Event, Refusals, step}
use Rattle.book.specs.declared.cases.WorkedCases.{WorkedCases}

-- a machine about to run an instruction, with PC, two general registers and SR; all else is zero
abbrev about_to_run : ℕ → ℕ → ℕ → ℕ → ℕ → Book
about_to_run ir pc one two sr =
    record {
      regs = record zero_regs { general = 0 ∷ one ∷ two ∷ replicate 29 0; pc = pc; sr = sr; ir = ir };
      ledger = blank_ledger;
      bytes = λ x. 0;
      sampled = 0;
      event = Event.run;
    }

-- a memory that refuses nothing, and one that refuses the word at 80004000 to reads
abbrev no_refusals : Refusals
no_refusals = record { unreadable = λ w. false; unwritable = λ w. false }

abbrev refusals_of_one_word : Refusals
refusals_of_one_word = record { unreadable = λ w. (w == 0x80004000); unwritable = λ w. false }

-- one step, and two, with no line up
abbrev after_one_step : Refusals → Book → Book
after_one_step r b = step r 0 b

abbrev after_two_steps : Refusals → Book → Book
after_two_steps r b = step r 0 (step r 0 b)

-- the words are what the book comes to
pub record CasesHold (w : WorkedCases) : Type 0 where
  -- ADD of 7FFFFFFF and 1 enters with a code, and BAR has the sum
  pub add_code : w.add_code ≡ cr_code (after_two_steps no_refusals (about_to_run 0x00221820 0 0x7FFFFFFF 1 0)).regs.cr
  pub add_bar : w.add_bar ≡ (after_two_steps no_refusals (about_to_run 0x00221820 0 0x7FFFFFFF 1 0)).regs.bar
  -- DIV of 80000000 by FFFFFFFF
  pub least_quotient :
      w.least_quotient ≡ (after_one_step no_refusals (about_to_run 0x0022001A 0 0x80000000 0xFFFFFFFF 0)).regs.lo
  pub least_remainder :
      w.least_remainder ≡ (after_one_step no_refusals (about_to_run 0x0022001A 0 0x80000000 0xFFFFFFFF 0)).regs.hi
  -- DIV of -7 by 2 cuts toward zero
  pub odd_quotient : w.odd_quotient ≡ (after_one_step no_refusals (about_to_run 0x0022001A 0 0xFFFFFFF9 2 0)).regs.lo
  pub odd_remainder : w.odd_remainder ≡ (after_one_step no_refusals (about_to_run 0x0022001A 0 0xFFFFFFF9 2 0)).regs.hi
  -- DIVU of 7 by 0
  pub zero_quotient : w.zero_quotient ≡ (after_one_step no_refusals (about_to_run 0x0022001B 0 7 0 0)).regs.lo
  pub zero_remainder : w.zero_remainder ≡ (after_one_step no_refusals (about_to_run 0x0022001B 0 7 0 0)).regs.hi
  -- JALR at 80000100 whose rd is its rs reads the link that it has just written
  pub link_first : w.link_first ≡ (after_one_step no_refusals (about_to_run 0x00200809 0x80000100 0x1000 0 0)).regs.pc
  -- SR 00000401, IT0 up at the boundary before PC 80000200: the entry saves PC itself
  pub interrupt_epc :
      w.interrupt_epc
      ≡ (step no_refusals 0 (step no_refusals 1 (about_to_run 0 0x800001FC 0 0 0x401))).regs.epc
  pub interrupt_sr :
      w.interrupt_sr ≡ (step no_refusals 0 (step no_refusals 1 (about_to_run 0 0x800001FC 0 0 0x401))).regs.sr
  -- a fetch that is refused at 80004000
  pub fetch_epc : w.fetch_epc ≡ (after_two_steps refusals_of_one_word (about_to_run 0 0x80003FFC 0 0 0)).regs.epc
  pub fetch_code : w.fetch_code
      ≡ cr_code (after_two_steps refusals_of_one_word (about_to_run 0 0x80003FFC 0 0 0)).regs.cr
  -- LW at 80000002
  pub load_code : w.load_code
      ≡ cr_code (after_two_steps no_refusals (about_to_run 0x8C220000 0 0x80000002 0 0)).regs.cr
  pub load_bar : w.load_bar ≡ (after_two_steps no_refusals (about_to_run 0x8C220000 0 0x80000002 0 0)).regs.bar

-- the words that the cases come to
abbrev pub worked_words : WorkedCases
worked_words =
    record {
      add_code = 12;
      add_bar = 0x80000000;
      least_quotient = 0x80000000;
      least_remainder = 0;
      odd_quotient = 0xFFFFFFFD;
      odd_remainder = 0xFFFFFFFF;
      zero_quotient = 0xFFFFFFFF;
      zero_remainder = 7;
      link_first = 0x80000104;
      interrupt_epc = 0x80000200;
      interrupt_sr = 0x404;
      fetch_epc = 0x80003FFC;
      fetch_code = 6;
      load_code = 4;
      load_bar = 0x80000002;
    }
