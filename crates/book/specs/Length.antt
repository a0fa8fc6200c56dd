-- How many cycles a step takes, as a table. Assumes nothing.
use Rattle.std.specs.Prelude.{◌≡◌, ℕ, ◌<◌, ◌≤◌, cond, not, [], ◌∷◌, pos, ◌==◌, int_le, int_lt}
use Rattle.machine.specs.Operation.{integer_of}
use Rattle.machine.specs.Registers.{Regs, reg}
use Rattle.machine.specs.Word.{rs}
use Rattle.book.specs.Book.{Book, Event, with_risen_pc, rs_value, rt_value, with_link}
use Rattle.book.specs.Instruction.{Instruction, instruction_of, table_entry}

-- a move of a system register that does not exist takes one cycle more
abbrev pub system_move_length : ℕ → ℕ
system_move_length n = table_entry n ((8, 4) ∷ (12, 4) ∷ (13, 4) ∷ (14, 4) ∷ []) 5

-- the length of an instruction, PC having risen; a fault does not change it
abbrev pub instruction_length : Instruction → Regs → ℕ
instruction_length (Instruction.shift_fixed op) g = 3
instruction_length (Instruction.shift_by op) g = 4
instruction_length (Instruction.compute op) g = 4
instruction_length (Instruction.compute_checked op) g = 5
instruction_length (Instruction.compute_pair low high) g = 5
instruction_length Instruction.move_from_hi g = 3
instruction_length Instruction.move_from_lo g = 3
instruction_length Instruction.move_to_hi g = 3
instruction_length Instruction.move_to_lo g = 3
instruction_length Instruction.jump_register g = 5
instruction_length Instruction.jump_link_register g = 6
instruction_length Instruction.system_call g = 4
instruction_length Instruction.breakpoint g = 4
instruction_length Instruction.jump g = 4
instruction_length Instruction.jump_link g = 5
instruction_length Instruction.branch_equal g = cond (rs_value g == rt_value g) 6 4
instruction_length Instruction.branch_unequal g = cond (not (rs_value g == rt_value g)) 6 4
instruction_length Instruction.branch_not_above g = cond (int_le (integer_of (rs_value g)) (pos 0)) 5 3
instruction_length Instruction.branch_above g = cond (int_lt (pos 0) (integer_of (rs_value g))) 5 3
instruction_length (Instruction.branch_below link) g =
    cond link
    (cond (int_lt (integer_of (reg (with_link link g) (rs g.ir))) (pos 0)) 7 5)
    (cond (int_lt (integer_of (reg (with_link link g) (rs g.ir))) (pos 0)) 6 4)
instruction_length (Instruction.branch_not_below link) g =
    cond link
    (cond (int_le (pos 0) (integer_of (reg (with_link link g) (rs g.ir)))) 7 5)
    (cond (int_le (pos 0) (integer_of (reg (with_link link g) (rs g.ir)))) 6 4)
instruction_length Instruction.add_immediate g = 4
instruction_length (Instruction.compute_signed op) g = 3
instruction_length (Instruction.compute_plain op) g = 3
instruction_length Instruction.load_upper g = 3
instruction_length Instruction.load_word g = 4
instruction_length (Instruction.load_byte sign) g = 5
instruction_length (Instruction.load_half sign) g = 5
instruction_length Instruction.store_byte g = 4
instruction_length Instruction.store_half g = 4
instruction_length Instruction.store_word g = 4
instruction_length (Instruction.move_from_system n) g = system_move_length n
instruction_length (Instruction.move_to_system n) g = system_move_length n
instruction_length Instruction.return_from_exception g = 4
instruction_length Instruction.unassigned_opcode g = 3
instruction_length Instruction.unassigned_function g = 4

-- the length of a step
abbrev pub length_of : Book → Event → ℕ
length_of b Event.reset = 3
length_of b (Event.exception c) = 4
length_of b Event.interrupt = 4
length_of b Event.run = instruction_length (instruction_of b.regs.ir) (with_risen_pc b)

-- each step takes a cycle at least, none takes more than so many, and some step takes as many
pub record IsLongestStep (n : ℕ) : Type 0 where
  pub some : (b : Book) (v : Event) → 0 < length_of b v
  pub bounded : (b : Book) (v : Event) → length_of b v ≤ n
  pub reached : (b : Book) × (v : Event) × (length_of b v ≡ n)
