-- The instructions and how a word is decoded. Assumes nothing.
use Rattle.std.specs.Prelude.{ℕ, Bool, true, false, List, [], ◌∷◌, ◌==◌}
use Rattle.machine.specs.Word.{bit, function, opcode, system_number}
use Rattle.machine.specs.declared.operation.Operation.{Operation}
use Rattle.machine.specs.declared.operation.Operation.TheVariants.{
  Sum,
  Dif,
  And,
  Or,
  Xor,
  Nor,
  Sll,
  Srl,
  Sra,
  Sltu,
  Slt,
  Mul,
  Muh,
  Msl,
  Msh,
  Duq,
  Dur,
  Dsq,
  Dsr,
}

-- instructions that differ only in an operation are one
pub data Instruction : Type 0 where
  -- SLL SRL SRA
  shift_fixed : Operation → Instruction
  -- SLLV SRLV SRAV
  shift_by : Operation → Instruction
  -- ADDU SUBU AND OR XOR NOR SLT SLTU
  compute : Operation → Instruction
  -- ADD SUB
  compute_checked : Operation → Instruction
  -- MULT MULTU DIV DIVU: what goes to LO and what to HI
  compute_pair : Operation → Operation → Instruction
  move_from_hi : Instruction
  move_from_lo : Instruction
  move_to_hi : Instruction
  move_to_lo : Instruction
  jump_register : Instruction
  jump_link_register : Instruction
  system_call : Instruction
  breakpoint : Instruction
  jump : Instruction
  jump_link : Instruction
  -- BEQ BNE
  branch_equal : Instruction
  branch_unequal : Instruction
  -- BLEZ BGTZ
  branch_not_above : Instruction
  branch_above : Instruction
  -- BLTZ BGEZ, and with a link BLTZAL BGEZAL
  branch_below : Bool → Instruction
  branch_not_below : Bool → Instruction
  -- ADDI
  add_immediate : Instruction
  -- ADDIU SLTI SLTIU: the immediate has its sign extended
  compute_signed : Operation → Instruction
  -- ANDI ORI XORI: the immediate is taken as it stands
  compute_plain : Operation → Instruction
  load_upper : Instruction
  load_word : Instruction
  -- LB LH, and unsigned LBU LHU
  load_byte : Bool → Instruction
  load_half : Bool → Instruction
  store_byte : Instruction
  store_half : Instruction
  store_word : Instruction
  -- MFC0 MTC0, with the number of the system register
  move_from_system : ℕ → Instruction
  move_to_system : ℕ → Instruction
  -- RFE
  return_from_exception : Instruction
  unassigned_opcode : Instruction
  unassigned_function : Instruction

-- what a table has under a number
abbrev pub table_entry : {A : Type 0} → ℕ → List (ℕ × A) → A → A
table_entry n [] other = other
table_entry n (e ∷ es) other = elim (n == e.0) [ true ↦ e.1 | false ↦ table_entry n es other ]

-- by IR bits 5 to 0
abbrev pub functions : List (ℕ × Instruction)
functions =
    (0, shift_fixed Sll)
    ∷ (2, shift_fixed Srl)
    ∷ (3, shift_fixed Sra)
    ∷ (4, shift_by Sll)
    ∷ (6, shift_by Srl)
    ∷ (7, shift_by Sra)
    ∷ (8, jump_register)
    ∷ (9, jump_link_register)
    ∷ (12, system_call)
    ∷ (13, breakpoint)
    ∷ (16, move_from_hi)
    ∷ (17, move_to_hi)
    ∷ (18, move_from_lo)
    ∷ (19, move_to_lo)
    ∷ (24, compute_pair Msl Msh)
    ∷ (25, compute_pair Mul Muh)
    ∷ (26, compute_pair Dsq Dsr)
    ∷ (27, compute_pair Duq Dur)
    ∷ (32, compute_checked Sum)
    ∷ (33, compute Sum)
    ∷ (34, compute_checked Dif)
    ∷ (35, compute Dif)
    ∷ (36, compute And)
    ∷ (37, compute Or)
    ∷ (38, compute Xor)
    ∷ (39, compute Nor)
    ∷ (42, compute Slt)
    ∷ (43, compute Sltu)
    ∷ []

-- IR bit 16 and, for the link, bit 20
abbrev pub branch_instruction : ℕ → Instruction
branch_instruction ir = elim (bit 16 ir) [ true ↦ branch_not_below (bit 20 ir) | false ↦ branch_below (bit 20 ir) ]

-- IR bit 25 alone makes a return; else bit 23 tells a move to from a move from
abbrev pub system_instruction : ℕ → Instruction
system_instruction ir =
    elim (bit 25 ir) [
      | true ↦ return_from_exception
      | false ↦ elim (bit 23 ir) [
        | true ↦ move_to_system (system_number ir)
        | false ↦ move_from_system (system_number ir)
      ]
    ]

-- by IR bits 31 to 26
abbrev pub opcodes : ℕ → List (ℕ × Instruction)
opcodes ir =
    (0, table_entry (function ir) functions unassigned_function)
    ∷ (1, branch_instruction ir)
    ∷ (2, jump)
    ∷ (3, jump_link)
    ∷ (4, branch_equal)
    ∷ (5, branch_unequal)
    ∷ (6, branch_not_above)
    ∷ (7, branch_above)
    ∷ (8, add_immediate)
    ∷ (9, compute_signed Sum)
    ∷ (10, compute_signed Slt)
    ∷ (11, compute_signed Sltu)
    ∷ (12, compute_plain And)
    ∷ (13, compute_plain Or)
    ∷ (14, compute_plain Xor)
    ∷ (15, load_upper)
    ∷ (16, system_instruction ir)
    ∷ (32, load_byte true)
    ∷ (33, load_half true)
    ∷ (35, load_word)
    ∷ (36, load_byte false)
    ∷ (37, load_half false)
    ∷ (40, store_byte)
    ∷ (41, store_half)
    ∷ (43, store_word)
    ∷ []

abbrev pub instruction_of : ℕ → Instruction
instruction_of ir = table_entry (opcode ir) (opcodes ir) unassigned_opcode
