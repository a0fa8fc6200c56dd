-- No step takes more than seven cycles. Assumes nothing.
use Rattle.std.proofs.Common.{◌≡◌, ℕ, ◌<◌, ◌≤◌, Bool, true, false, cond, ◌&&◌, T, eqb, leb, refl, arith}
use Rattle.std.proofs.lemmas.Bool.{and_parts, leb-true}
use Rattle.machine.specs.Ledger.{blank_ledger}
use Rattle.machine.specs.Registers.{Regs, zero_regs}
use Rattle.book.specs.Book.{Book, Event, with_risen_pc}
use Rattle.book.specs.Instruction.{Instruction, instruction_of}
use Rattle.book.specs.Length.{IsLongestStep, instruction_length, length_of, system_move_length}

-- from one to seven
record Few (n : ℕ) : Type 0 where
  some : 0 < n
  most : n ≤ 7

lasts : {n : ℕ} → T (leb 1 n && leb n 7) → Few n
lasts {n} h =
    let both : (leb 1 n ≡ true) × (leb n 7 ≡ true) =
    and_parts _ _ (holds _ h) in record { some = omega (arith, leb-true 1 n both.0); most = leb-true n 7 both.1 }
  where
    holds : (b : Bool) → T b → b ≡ true
    holds true t = refl
    holds false t = absurd t

either : (t : Bool) (m n : ℕ) → Few m → Few n → Few (cond t m n)
either true m n h k = h
either false m n h k = k

pick : (t : Bool) (m n : ℕ) → Few m → Few n → Few (elim t [ true ↦ m | false ↦ n ])
pick true m n h k = h
pick false m n h k = k

moved_bound : (n : ℕ) → Few (system_move_length n)
moved_bound n =
    pick (eqb n 8) _ _ (lasts tt)
    (pick (eqb n 12) _ _ (lasts tt) (pick (eqb n 13) _ _ (lasts tt) (pick (eqb n 14) _ _ (lasts tt) (lasts tt))))

long_bound : (i : Instruction) (g : Regs) → Few (instruction_length i g)
long_bound (Instruction.shift_fixed op) g = lasts tt
long_bound (Instruction.shift_by op) g = lasts tt
long_bound (Instruction.compute op) g = lasts tt
long_bound (Instruction.compute_checked op) g = lasts tt
long_bound (Instruction.compute_pair low high) g = lasts tt
long_bound Instruction.move_from_hi g = lasts tt
long_bound Instruction.move_from_lo g = lasts tt
long_bound Instruction.move_to_hi g = lasts tt
long_bound Instruction.move_to_lo g = lasts tt
long_bound Instruction.jump_register g = lasts tt
long_bound Instruction.jump_link_register g = lasts tt
long_bound Instruction.system_call g = lasts tt
long_bound Instruction.breakpoint g = lasts tt
long_bound Instruction.jump g = lasts tt
long_bound Instruction.jump_link g = lasts tt
long_bound Instruction.branch_equal g = either _ 6 4 (lasts tt) (lasts tt)
long_bound Instruction.branch_unequal g = either _ 6 4 (lasts tt) (lasts tt)
long_bound Instruction.branch_not_above g = either _ 5 3 (lasts tt) (lasts tt)
long_bound Instruction.branch_above g = either _ 5 3 (lasts tt) (lasts tt)
long_bound (Instruction.branch_below true) g = either _ 7 5 (lasts tt) (lasts tt)
long_bound (Instruction.branch_below false) g = either _ 6 4 (lasts tt) (lasts tt)
long_bound (Instruction.branch_not_below true) g = either _ 7 5 (lasts tt) (lasts tt)
long_bound (Instruction.branch_not_below false) g = either _ 6 4 (lasts tt) (lasts tt)
long_bound Instruction.add_immediate g = lasts tt
long_bound (Instruction.compute_signed op) g = lasts tt
long_bound (Instruction.compute_plain op) g = lasts tt
long_bound Instruction.load_upper g = lasts tt
long_bound Instruction.load_word g = lasts tt
long_bound (Instruction.load_byte sign) g = lasts tt
long_bound (Instruction.load_half sign) g = lasts tt
long_bound Instruction.store_byte g = lasts tt
long_bound Instruction.store_half g = lasts tt
long_bound Instruction.store_word g = lasts tt
long_bound (Instruction.move_from_system n) g = moved_bound n
long_bound (Instruction.move_to_system n) g = moved_bound n
long_bound Instruction.return_from_exception g = lasts tt
long_bound Instruction.unassigned_opcode g = lasts tt
long_bound Instruction.unassigned_function g = lasts tt

bound : (b : Book) (v : Event) → Few (length_of b v)
bound b Event.reset = lasts tt
bound b (Event.exception c) = lasts tt
bound b Event.interrupt = lasts tt
bound b Event.run = long_bound (instruction_of b.regs.ir) (with_risen_pc b)

-- BGEZAL of register 0
linking : Book
linking =
    record {
      regs = record zero_regs { ir = 0x04110000 };
      ledger = blank_ledger;
      bytes = λ x. 0;
      sampled = 0;
      event = Event.run;
    }

pub longest : IsLongestStep 7
unfolding linking
longest =
    record {
      some = λ b v. (bound b v).some;
      bounded = λ b v. (bound b v).most;
      reached = (linking, Event.run, refl);
    }
