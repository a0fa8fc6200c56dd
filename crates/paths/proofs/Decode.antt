-- Every instruction word is decoded to a path of rows. Assumes nothing.
use Rattle.std.proofs.Common.{◌≡◌, ℕ, Bool, true, false, cond, not, eqb, pos, None, refl, arith}
use lib.Signed.{le_z, lt_z}
use Rattle.machine.specs.Operation.{integer_of}
use Rattle.machine.specs.Registers.{Regs, reg}
use Rattle.machine.specs.Word.{bit, function, opcode, rs, rt, system_number}
use Rattle.machine.specs.Words.{WordsStayWords}
use Rattle.machine.specs.declared.operation.Operation.TheVariants.{
  Sum,
  Dif,
  And,
  Or,
  Xor,
  Nor,
  Sll,
  Srl,
  Sra,
  Sltu,
  Slt,
  Mul,
  Muh,
  Msl,
  Msh,
  Duq,
  Dur,
  Dsq,
  Dsr,
}
use Rattle.rows.specs.Rows.{rows}
use Rattle.book.specs.Book.{Book, Effect, Refusals, effect_of, with_risen_pc, with_link}
use Rattle.book.specs.Fit.{IsFit}
use Rattle.book.specs.Instruction.{Instruction, branch_instruction, instruction_of, functions, opcodes}
use Rattle.book.specs.Instruction.{system_instruction}
use Rattle.book.specs.Instruction.{table_entry}
use Rattle.book.specs.Length.{instruction_length}
use Rattle.paths.proofs.Branches.{branches_above_not, branches_above_taken, branches_below_link_not}
use Rattle.paths.proofs.Branches.{branches_below_link_taken, branches_below_not, branches_below_taken}
use Rattle.paths.proofs.Branches.{branches_equal_not, branches_equal_taken, branches_not_above_not}
use Rattle.paths.proofs.Branches.{branches_not_above_taken, branches_not_below_link_not, branches_not_below_link_taken}
use Rattle.paths.proofs.Branches.{branches_not_below_not, branches_not_below_taken, branches_unequal_not}
use Rattle.paths.proofs.Branches.{branches_unequal_taken}
use Rattle.paths.proofs.Jumps.{jumps, jumps_link, jumps_link_register, jumps_register}
use Rattle.paths.proofs.Loads.{loads_byte_plain, loads_byte_signed, loads_half_plain, loads_half_signed, loads_word}
use Rattle.paths.proofs.Stores.{stores_byte, stores_half, stores_word}
use Rattle.paths.proofs.Straight.{adds_immediate, computes, computes_checked, computes_pair, computes_plain}
use Rattle.paths.proofs.Straight.{computes_signed, loads_upper, moves_from_hi, moves_from_lo, moves_to_hi, moves_to_lo}
use Rattle.paths.proofs.Straight.{shifts_by, shifts_fixed}
use Rattle.paths.proofs.System.{breaks, calls_system, moves_from_bar, moves_from_cr, moves_from_epc, moves_from_none}
use Rattle.paths.proofs.System.{moves_from_sr, moves_to_bar, moves_to_cr, moves_to_epc, moves_to_none, moves_to_sr}
use Rattle.paths.proofs.System.{returns, unassigned_function_lem, unassigned_opcode_lem}
use Rattle.paths.proofs.Upto.{◌▹◌, among}
use Rattle.paths.proofs.Walk.{Reaches, below}

module _ (deny : Refusals) (lines : ℕ) (b : Book) (dt : ℕ) (fit : IsFit b) (law : WordsStayWords) where
  abbrev ir : ℕ
  ir = b.regs.ir

  abbrev g : Regs
  g = with_risen_pc b

  -- the path of an instruction
  abbrev Path : Instruction → Type 0
  Path i = Reaches deny lines b dt 16 None (instruction_length i g) (effect_of deny b i g)

  -- a length that a test decides
  sized : (t : Bool) (n k : ℕ) (m : Effect) → (t ≡ true → Reaches deny lines b dt 16 None n m)
      → (t ≡ false → Reaches deny lines b dt 16 None k m) → Reaches deny lines b dt 16 None (cond t n k) m
  sized true n k m here there = here refl
  sized false n k m here there = there refl

  -- by the function, under opcode 0
  at_function : opcode ir ≡ 0 → Path (table_entry (function ir) functions Instruction.unassigned_function)
  unfolding rows
  at_function o =
      among (λ n. function ir ≡ n → Path (table_entry n functions Instruction.unassigned_function)) 64 (function ir)
      (omega arith)
      (tt
      ▹ (λ e. shifts_fixed deny lines b dt fit law Sll 0 o e refl)
      ▹ (λ e. unassigned_function_lem deny lines b dt fit law 1 o e refl)
      ▹ (λ e. shifts_fixed deny lines b dt fit law Srl 2 o e refl)
      ▹ (λ e. shifts_fixed deny lines b dt fit law Sra 3 o e refl)
      ▹ (λ e. shifts_by deny lines b dt fit law Sll 4 o e refl refl)
      ▹ (λ e. unassigned_function_lem deny lines b dt fit law 5 o e refl)
      ▹ (λ e. shifts_by deny lines b dt fit law Srl 6 o e refl refl)
      ▹ (λ e. shifts_by deny lines b dt fit law Sra 7 o e refl refl)
      ▹ (λ e. jumps_register deny lines b dt fit law o e)
      ▹ (λ e. jumps_link_register deny lines b dt fit law o e)
      ▹ (λ e. unassigned_function_lem deny lines b dt fit law 10 o e refl)
      ▹ (λ e. unassigned_function_lem deny lines b dt fit law 11 o e refl)
      ▹ (λ e. calls_system deny lines b dt fit law o e)
      ▹ (λ e. breaks deny lines b dt fit law o e)
      ▹ (λ e. unassigned_function_lem deny lines b dt fit law 14 o e refl)
      ▹ (λ e. unassigned_function_lem deny lines b dt fit law 15 o e refl)
      ▹ (λ e. moves_from_hi deny lines b dt fit law o e)
      ▹ (λ e. moves_to_hi deny lines b dt fit law o e)
      ▹ (λ e. moves_from_lo deny lines b dt fit law o e)
      ▹ (λ e. moves_to_lo deny lines b dt fit law o e)
      ▹ (λ e. unassigned_function_lem deny lines b dt fit law 20 o e refl)
      ▹ (λ e. unassigned_function_lem deny lines b dt fit law 21 o e refl)
      ▹ (λ e. unassigned_function_lem deny lines b dt fit law 22 o e refl)
      ▹ (λ e. unassigned_function_lem deny lines b dt fit law 23 o e refl)
      ▹ (λ e. computes_pair deny lines b dt fit law Msl Msh 24 o e refl refl refl)
      ▹ (λ e. computes_pair deny lines b dt fit law Mul Muh 25 o e refl refl refl)
      ▹ (λ e. computes_pair deny lines b dt fit law Dsq Dsr 26 o e refl refl refl)
      ▹ (λ e. computes_pair deny lines b dt fit law Duq Dur 27 o e refl refl refl)
      ▹ (λ e. unassigned_function_lem deny lines b dt fit law 28 o e refl)
      ▹ (λ e. unassigned_function_lem deny lines b dt fit law 29 o e refl)
      ▹ (λ e. unassigned_function_lem deny lines b dt fit law 30 o e refl)
      ▹ (λ e. unassigned_function_lem deny lines b dt fit law 31 o e refl)
      ▹ (λ e. computes_checked deny lines b dt fit law Sum 32 o e refl refl refl (below _))
      ▹ (λ e. computes deny lines b dt fit law Sum 33 o e refl refl)
      ▹ (λ e. computes_checked deny lines b dt fit law Dif 34 o e refl refl refl (below _))
      ▹ (λ e. computes deny lines b dt fit law Dif 35 o e refl refl)
      ▹ (λ e. computes deny lines b dt fit law And 36 o e refl refl)
      ▹ (λ e. computes deny lines b dt fit law Or 37 o e refl refl)
      ▹ (λ e. computes deny lines b dt fit law Xor 38 o e refl refl)
      ▹ (λ e. computes deny lines b dt fit law Nor 39 o e refl refl)
      ▹ (λ e. unassigned_function_lem deny lines b dt fit law 40 o e refl)
      ▹ (λ e. unassigned_function_lem deny lines b dt fit law 41 o e refl)
      ▹ (λ e. computes deny lines b dt fit law Slt 42 o e refl refl)
      ▹ (λ e. computes deny lines b dt fit law Sltu 43 o e refl refl)
      ▹ (λ e. unassigned_function_lem deny lines b dt fit law 44 o e refl)
      ▹ (λ e. unassigned_function_lem deny lines b dt fit law 45 o e refl)
      ▹ (λ e. unassigned_function_lem deny lines b dt fit law 46 o e refl)
      ▹ (λ e. unassigned_function_lem deny lines b dt fit law 47 o e refl)
      ▹ (λ e. unassigned_function_lem deny lines b dt fit law 48 o e refl)
      ▹ (λ e. unassigned_function_lem deny lines b dt fit law 49 o e refl)
      ▹ (λ e. unassigned_function_lem deny lines b dt fit law 50 o e refl)
      ▹ (λ e. unassigned_function_lem deny lines b dt fit law 51 o e refl)
      ▹ (λ e. unassigned_function_lem deny lines b dt fit law 52 o e refl)
      ▹ (λ e. unassigned_function_lem deny lines b dt fit law 53 o e refl)
      ▹ (λ e. unassigned_function_lem deny lines b dt fit law 54 o e refl)
      ▹ (λ e. unassigned_function_lem deny lines b dt fit law 55 o e refl)
      ▹ (λ e. unassigned_function_lem deny lines b dt fit law 56 o e refl)
      ▹ (λ e. unassigned_function_lem deny lines b dt fit law 57 o e refl)
      ▹ (λ e. unassigned_function_lem deny lines b dt fit law 58 o e refl)
      ▹ (λ e. unassigned_function_lem deny lines b dt fit law 59 o e refl)
      ▹ (λ e. unassigned_function_lem deny lines b dt fit law 60 o e refl)
      ▹ (λ e. unassigned_function_lem deny lines b dt fit law 61 o e refl)
      ▹ (λ e. unassigned_function_lem deny lines b dt fit law 62 o e refl)
      ▹ (λ e. unassigned_function_lem deny lines b dt fit law 63 o e refl))
      refl

  at_equal : opcode ir ≡ 4 → Path Instruction.branch_equal
  at_equal o =
      sized (eqb (reg g (rs ir)) (reg g (rt ir))) 6 4 _ (λ q. branches_equal_taken deny lines b dt fit law o q)
      (λ q. branches_equal_not deny lines b dt fit law o q)

  at_unequal : opcode ir ≡ 5 → Path Instruction.branch_unequal
  at_unequal o =
      sized (not (eqb (reg g (rs ir)) (reg g (rt ir)))) 6 4 _ (λ q. branches_unequal_taken deny lines b dt fit law o q)
      (λ q. branches_unequal_not deny lines b dt fit law o q)

  at_not_above : opcode ir ≡ 6 → Path Instruction.branch_not_above
  at_not_above o =
      sized (le_z (integer_of (reg g (rs ir))) (pos 0)) 5 3 _
      (λ q. branches_not_above_taken deny lines b dt fit law o q)
      (λ q. branches_not_above_not deny lines b dt fit law o q)

  at_above : opcode ir ≡ 7 → Path Instruction.branch_above
  at_above o =
      sized (lt_z (pos 0) (integer_of (reg g (rs ir)))) 5 3 _ (λ q. branches_above_taken deny lines b dt fit law o q)
      (λ q. branches_above_not deny lines b dt fit law o q)

  below_path : opcode ir ≡ 1 → bit 16 ir ≡ false → bit 20 ir ≡ false → Path (Instruction.branch_below false)
  below_path o u v =
      sized (lt_z (integer_of (reg (with_link false g) (rs ir))) (pos 0)) 6 4 _
      (λ q. branches_below_taken deny lines b dt fit law o u v q)
      (λ q. branches_below_not deny lines b dt fit law o u v q)

  below_link_path : opcode ir ≡ 1 → bit 16 ir ≡ false → bit 20 ir ≡ true → Path (Instruction.branch_below true)
  below_link_path o u v =
      sized (lt_z (integer_of (reg (with_link true g) (rs ir))) (pos 0)) 7 5 _
      (λ q. branches_below_link_taken deny lines b dt fit law o u v q)
      (λ q. branches_below_link_not deny lines b dt fit law o u v q)

  not_below_path : opcode ir ≡ 1 → bit 16 ir ≡ true → bit 20 ir ≡ false → Path (Instruction.branch_not_below false)
  not_below_path o u v =
      sized (le_z (pos 0) (integer_of (reg (with_link false g) (rs ir)))) 6 4 _
      (λ q. branches_not_below_taken deny lines b dt fit law o u v q)
      (λ q. branches_not_below_not deny lines b dt fit law o u v q)

  not_below_link_path : opcode ir ≡ 1 → bit 16 ir ≡ true → bit 20 ir ≡ true → Path (Instruction.branch_not_below true)
  not_below_link_path o u v =
      sized (le_z (pos 0) (integer_of (reg (with_link true g) (rs ir)))) 7 5 _
      (λ q. branches_not_below_link_taken deny lines b dt fit law o u v q)
      (λ q. branches_not_below_link_not deny lines b dt fit law o u v q)

  -- by IR bits 16 and 20, under opcode 1
  at_branch : opcode ir ≡ 1 → Path (branch_instruction ir)
  at_branch o = go (bit 16 ir) (bit 20 ir) refl refl
    where
      go : (u v : Bool) → bit 16 ir ≡ u → bit 20 ir ≡ v
          → Path (elim u [ true ↦ Instruction.branch_not_below v | false ↦ Instruction.branch_below v ])
      go true true p q = not_below_link_path o p q
      go true false p q = not_below_path o p q
      go false true p q = below_link_path o p q
      go false false p q = below_path o p q

  from_system_lem : opcode ir ≡ 16 → bit 25 ir ≡ false → bit 23 ir ≡ false
      → Path (Instruction.move_from_system (system_number ir))
  unfolding rows
  from_system_lem o p q =
      among (λ k. system_number ir ≡ k → Path (Instruction.move_from_system k)) 16 (system_number ir) (omega arith)
      (tt
      ▹ (λ n. moves_from_none deny lines b dt fit law 0 o p q n refl refl refl refl refl)
      ▹ (λ n. moves_from_none deny lines b dt fit law 1 o p q n refl refl refl refl refl)
      ▹ (λ n. moves_from_none deny lines b dt fit law 2 o p q n refl refl refl refl refl)
      ▹ (λ n. moves_from_none deny lines b dt fit law 3 o p q n refl refl refl refl refl)
      ▹ (λ n. moves_from_none deny lines b dt fit law 4 o p q n refl refl refl refl refl)
      ▹ (λ n. moves_from_none deny lines b dt fit law 5 o p q n refl refl refl refl refl)
      ▹ (λ n. moves_from_none deny lines b dt fit law 6 o p q n refl refl refl refl refl)
      ▹ (λ n. moves_from_none deny lines b dt fit law 7 o p q n refl refl refl refl refl)
      ▹ (λ n. moves_from_bar deny lines b dt fit law o p q n)
      ▹ (λ n. moves_from_none deny lines b dt fit law 9 o p q n refl refl refl refl refl)
      ▹ (λ n. moves_from_none deny lines b dt fit law 10 o p q n refl refl refl refl refl)
      ▹ (λ n. moves_from_none deny lines b dt fit law 11 o p q n refl refl refl refl refl)
      ▹ (λ n. moves_from_sr deny lines b dt fit law o p q n)
      ▹ (λ n. moves_from_cr deny lines b dt fit law o p q n)
      ▹ (λ n. moves_from_epc deny lines b dt fit law o p q n)
      ▹ (λ n. moves_from_none deny lines b dt fit law 15 o p q n refl refl refl refl refl))
      refl

  to_system_lem : opcode ir ≡ 16 → bit 25 ir ≡ false → bit 23 ir ≡ true
      → Path (Instruction.move_to_system (system_number ir))
  unfolding rows
  to_system_lem o p q =
      among (λ k. system_number ir ≡ k → Path (Instruction.move_to_system k)) 16 (system_number ir) (omega arith)
      (tt
      ▹ (λ n. moves_to_none deny lines b dt fit law 0 o p q n refl refl refl refl refl)
      ▹ (λ n. moves_to_none deny lines b dt fit law 1 o p q n refl refl refl refl refl)
      ▹ (λ n. moves_to_none deny lines b dt fit law 2 o p q n refl refl refl refl refl)
      ▹ (λ n. moves_to_none deny lines b dt fit law 3 o p q n refl refl refl refl refl)
      ▹ (λ n. moves_to_none deny lines b dt fit law 4 o p q n refl refl refl refl refl)
      ▹ (λ n. moves_to_none deny lines b dt fit law 5 o p q n refl refl refl refl refl)
      ▹ (λ n. moves_to_none deny lines b dt fit law 6 o p q n refl refl refl refl refl)
      ▹ (λ n. moves_to_none deny lines b dt fit law 7 o p q n refl refl refl refl refl)
      ▹ (λ n. moves_to_bar deny lines b dt fit law o p q n)
      ▹ (λ n. moves_to_none deny lines b dt fit law 9 o p q n refl refl refl refl refl)
      ▹ (λ n. moves_to_none deny lines b dt fit law 10 o p q n refl refl refl refl refl)
      ▹ (λ n. moves_to_none deny lines b dt fit law 11 o p q n refl refl refl refl refl)
      ▹ (λ n. moves_to_sr deny lines b dt fit law o p q n)
      ▹ (λ n. moves_to_cr deny lines b dt fit law o p q n)
      ▹ (λ n. moves_to_epc deny lines b dt fit law o p q n)
      ▹ (λ n. moves_to_none deny lines b dt fit law 15 o p q n refl refl refl refl refl))
      refl

  -- by IR bits 25 and 23, under opcode 16
  at_system : opcode ir ≡ 16 → Path (system_instruction ir)
  at_system o = go (bit 25 ir) (bit 23 ir) refl refl
    where
      go : (u v : Bool) → bit 25 ir ≡ u → bit 23 ir ≡ v
          → Path (elim u [
            | true ↦ Instruction.return_from_exception
            | false ↦ elim v [
              | true ↦ Instruction.move_to_system (system_number ir)
              | false ↦ Instruction.move_from_system (system_number ir)
            ]
          ])
      go true v p q = returns deny lines b dt fit law o p
      go false true p q = to_system_lem o p q
      go false false p q = from_system_lem o p q

  -- by the opcode
  pub decodes : Path (instruction_of ir)
  unfolding rows
  decodes =
      among (λ k. opcode ir ≡ k → Path (table_entry k (opcodes ir) Instruction.unassigned_opcode)) 64 (opcode ir)
      (omega arith)
      (tt
      ▹ (λ o. at_function o)
      ▹ (λ o. at_branch o)
      ▹ (λ o. jumps deny lines b dt fit law o)
      ▹ (λ o. jumps_link deny lines b dt fit law o)
      ▹ (λ o. at_equal o)
      ▹ (λ o. at_unequal o)
      ▹ (λ o. at_not_above o)
      ▹ (λ o. at_above o)
      ▹ (λ o. adds_immediate deny lines b dt fit law o)
      ▹ (λ o. computes_signed deny lines b dt fit law Sum 9 o refl refl)
      ▹ (λ o. computes_signed deny lines b dt fit law Slt 10 o refl refl)
      ▹ (λ o. computes_signed deny lines b dt fit law Sltu 11 o refl refl)
      ▹ (λ o. computes_plain deny lines b dt fit law And 12 o refl refl)
      ▹ (λ o. computes_plain deny lines b dt fit law Or 13 o refl refl)
      ▹ (λ o. computes_plain deny lines b dt fit law Xor 14 o refl refl)
      ▹ (λ o. loads_upper deny lines b dt fit law o)
      ▹ (λ o. at_system o)
      ▹ (λ o. unassigned_opcode_lem deny lines b dt fit law 17 o refl)
      ▹ (λ o. unassigned_opcode_lem deny lines b dt fit law 18 o refl)
      ▹ (λ o. unassigned_opcode_lem deny lines b dt fit law 19 o refl)
      ▹ (λ o. unassigned_opcode_lem deny lines b dt fit law 20 o refl)
      ▹ (λ o. unassigned_opcode_lem deny lines b dt fit law 21 o refl)
      ▹ (λ o. unassigned_opcode_lem deny lines b dt fit law 22 o refl)
      ▹ (λ o. unassigned_opcode_lem deny lines b dt fit law 23 o refl)
      ▹ (λ o. unassigned_opcode_lem deny lines b dt fit law 24 o refl)
      ▹ (λ o. unassigned_opcode_lem deny lines b dt fit law 25 o refl)
      ▹ (λ o. unassigned_opcode_lem deny lines b dt fit law 26 o refl)
      ▹ (λ o. unassigned_opcode_lem deny lines b dt fit law 27 o refl)
      ▹ (λ o. unassigned_opcode_lem deny lines b dt fit law 28 o refl)
      ▹ (λ o. unassigned_opcode_lem deny lines b dt fit law 29 o refl)
      ▹ (λ o. unassigned_opcode_lem deny lines b dt fit law 30 o refl)
      ▹ (λ o. unassigned_opcode_lem deny lines b dt fit law 31 o refl)
      ▹ (λ o. loads_byte_signed deny lines b dt fit law o)
      ▹ (λ o. loads_half_signed deny lines b dt fit law o)
      ▹ (λ o. unassigned_opcode_lem deny lines b dt fit law 34 o refl)
      ▹ (λ o. loads_word deny lines b dt fit law o)
      ▹ (λ o. loads_byte_plain deny lines b dt fit law o)
      ▹ (λ o. loads_half_plain deny lines b dt fit law o)
      ▹ (λ o. unassigned_opcode_lem deny lines b dt fit law 38 o refl)
      ▹ (λ o. unassigned_opcode_lem deny lines b dt fit law 39 o refl)
      ▹ (λ o. stores_byte deny lines b dt fit law o)
      ▹ (λ o. stores_half deny lines b dt fit law o)
      ▹ (λ o. unassigned_opcode_lem deny lines b dt fit law 42 o refl)
      ▹ (λ o. stores_word deny lines b dt fit law o)
      ▹ (λ o. unassigned_opcode_lem deny lines b dt fit law 44 o refl)
      ▹ (λ o. unassigned_opcode_lem deny lines b dt fit law 45 o refl)
      ▹ (λ o. unassigned_opcode_lem deny lines b dt fit law 46 o refl)
      ▹ (λ o. unassigned_opcode_lem deny lines b dt fit law 47 o refl)
      ▹ (λ o. unassigned_opcode_lem deny lines b dt fit law 48 o refl)
      ▹ (λ o. unassigned_opcode_lem deny lines b dt fit law 49 o refl)
      ▹ (λ o. unassigned_opcode_lem deny lines b dt fit law 50 o refl)
      ▹ (λ o. unassigned_opcode_lem deny lines b dt fit law 51 o refl)
      ▹ (λ o. unassigned_opcode_lem deny lines b dt fit law 52 o refl)
      ▹ (λ o. unassigned_opcode_lem deny lines b dt fit law 53 o refl)
      ▹ (λ o. unassigned_opcode_lem deny lines b dt fit law 54 o refl)
      ▹ (λ o. unassigned_opcode_lem deny lines b dt fit law 55 o refl)
      ▹ (λ o. unassigned_opcode_lem deny lines b dt fit law 56 o refl)
      ▹ (λ o. unassigned_opcode_lem deny lines b dt fit law 57 o refl)
      ▹ (λ o. unassigned_opcode_lem deny lines b dt fit law 58 o refl)
      ▹ (λ o. unassigned_opcode_lem deny lines b dt fit law 59 o refl)
      ▹ (λ o. unassigned_opcode_lem deny lines b dt fit law 60 o refl)
      ▹ (λ o. unassigned_opcode_lem deny lines b dt fit law 61 o refl)
      ▹ (λ o. unassigned_opcode_lem deny lines b dt fit law 62 o refl)
      ▹ (λ o. unassigned_opcode_lem deny lines b dt fit law 63 o refl))
      refl
