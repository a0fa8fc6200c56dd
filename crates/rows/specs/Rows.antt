-- The listing of the microprogram: address, name, the eight fields. Assumes nothing.
use Rattle.std.specs.Prelude.{ℕ, zero, suc, true, false, List, [], ◌∷◌, ◌==◌, slice_index_or}
use Prim.Native.String.{String}
use Rattle.machine.specs.declared.operation.Operation.{Operation}
use Rattle.machine.specs.declared.operation.Operation.TheVariants as a
use Rattle.rows.specs.declared.row.Destination.{Destination}
use Rattle.rows.specs.declared.row.Destination.TheVariants as r
use Rattle.rows.specs.declared.row.Detection.{Detection}
use Rattle.rows.specs.declared.row.Detection.TheVariants as e
use Rattle.rows.specs.declared.row.OperandX.{OperandX}
use Rattle.rows.specs.declared.row.OperandX.TheVariants as x
use Rattle.rows.specs.declared.row.OperandY.{OperandY}
use Rattle.rows.specs.declared.row.OperandY.TheVariants as y
use Rattle.rows.specs.declared.row.Row.{Row}
use Rattle.rows.specs.declared.row.Sequencing.{Sequencing}
use Rattle.rows.specs.declared.row.Sequencing.TheVariants as s
use Rattle.rows.specs.declared.row.Transfer.{Transfer}
use Rattle.rows.specs.declared.row.Transfer.TheVariants as m

-- OPX, OPY, ALU, RES, ADRW, EXCP, SEQ and AMIC
abbrev pub Fields : Type 0
Fields = OperandX × OperandY × Operation × Destination × Transfer × Detection × Sequencing × ℕ

pub record Entry : Type 0 where
  pub address : ℕ
  pub name : String
  pub fields : Fields

abbrev entry_at : ℕ → String → OperandX → OperandY → Operation → Destination → Transfer → Detection → Sequencing → ℕ
    → Entry
entry_at n name opx opy alu res adrw excp seq amic =
    record { address = n; name = name; fields = (opx, opy, alu, res, adrw, excp, seq, amic) }

-- what an address holds that the listing leaves out: an illegal code, followed by row 15
abbrev pub empty_fields : Fields
empty_fields = (x.C0, y.C0, a.Sum, r.Nop, m.Nop, e.Ri, s.Next, 15)

unfoldable pub listing : List Entry
listing =
    entry_at 0 "reset" x.Cz y.C0 a.Sum r.Pc m.Nop e.Clr s.Next 1
    ∷ entry_at 1 "reset1" x.C0 y.C0 a.Sum r.Sr m.Nop e.Nop s.Next 2
    ∷ entry_at 2 "ifetch-e" x.C0 y.C0 a.Sum r.Nop m.If e.Ibe s.Rie 16
    ∷ entry_at 15 "ifetch-e" x.C0 y.C0 a.Sum r.Nop m.If e.Ibe s.Rie 16
    ∷ entry_at 16 "init" x.Pc y.C4 a.Sum r.Pc m.Nop e.Nop s.Decod 0
    ∷ entry_at 17 "erq" x.C0 y.C0 a.Sum r.Erq m.Nop e.Clr s.Next 25
    ∷ entry_at 18 "irq" x.C0 y.C0 a.Sum r.Erq m.Nop e.Nop s.Next 24
    ∷ entry_at 19 "irq_erq" x.C0 y.C0 a.Sum r.Erq m.Nop e.Clr s.Next 25
    ∷ entry_at 20 "reset" x.Cz y.C0 a.Sum r.Pc m.Nop e.Clr s.Next 1
    ∷ entry_at 21 "reset" x.Cz y.C0 a.Sum r.Pc m.Nop e.Clr s.Next 1
    ∷ entry_at 22 "reset" x.Cz y.C0 a.Sum r.Pc m.Nop e.Clr s.Next 1
    ∷ entry_at 23 "reset" x.Cz y.C0 a.Sum r.Pc m.Nop e.Clr s.Next 1
    ∷ entry_at 24 "epc1" x.Pc y.C0 a.Sum r.Epc m.Nop e.Nop s.Next 26
    ∷ entry_at 25 "epc2" x.Pc y.C4 a.Dif r.Epc m.Nop e.Nop s.Next 26
    ∷ entry_at 26 "pct" x.C0 y.Cx a.Sum r.Pc m.Nop e.Nop s.Next 27
    ∷ entry_at 27 "ifetch1-e" x.C0 y.Ad a.Sum r.Bar m.If e.Ibe s.Rie 16
    ∷ entry_at 31 "branch" x.Ad y.C0 a.Sum r.Pc m.Nop e.Nop s.Next 15
    ∷ entry_at 32 "ifetch-e" x.C0 y.C0 a.Sum r.Nop m.If e.Ibe s.Rie 16
    ∷ entry_at 33 "branch-e" x.Pc y.I18 a.Sum r.Ad m.Nop e.If s.Next 31
    ∷ entry_at 34 "branch-e" x.Pc y.I18 a.Sum r.Ad m.Nop e.If s.Next 31
    ∷ entry_at 35 "ifetch-e" x.C0 y.C0 a.Sum r.Nop m.If e.Ibe s.Rie 16
    ∷ entry_at 36 "ifetch-e" x.C0 y.C0 a.Sum r.Nop m.If e.Ibe s.Rie 16
    ∷ entry_at 37 "ifetch-e" x.C0 y.C0 a.Sum r.Nop m.If e.Ibe s.Rie 16
    ∷ entry_at 38 "branch-e" x.Pc y.I18 a.Sum r.Ad m.Nop e.If s.Next 31
    ∷ entry_at 39 "ifetch-e" x.C0 y.C0 a.Sum r.Nop m.If e.Ibe s.Rie 16
    ∷ entry_at 40 "branch-e" x.Pc y.I18 a.Sum r.Ad m.Nop e.If s.Next 31
    ∷ entry_at 41 "branch-e" x.Pc y.I18 a.Sum r.Ad m.Nop e.If s.Next 31
    ∷ entry_at 42 "ifetch-e" x.C0 y.C0 a.Sum r.Nop m.If e.Ibe s.Rie 16
    ∷ entry_at 43 "ifetch-e" x.C0 y.C0 a.Sum r.Nop m.If e.Ibe s.Rie 16
    ∷ entry_at 44 "ifetch-e" x.C0 y.C0 a.Sum r.Nop m.If e.Ibe s.Rie 16
    ∷ entry_at 45 "branch-e" x.Pc y.I18 a.Sum r.Ad m.Nop e.If s.Next 31
    ∷ entry_at 46 "branch-e" x.Pc y.I18 a.Sum r.Ad m.Nop e.If s.Next 31
    ∷ entry_at 47 "ifetch-e" x.C0 y.C0 a.Sum r.Nop m.If e.Ibe s.Rie 16
    ∷ entry_at 48 "branch-e" x.Pc y.I18 a.Sum r.Ad m.Nop e.If s.Next 31
    ∷ entry_at 49 "ifetch-e" x.C0 y.C0 a.Sum r.Nop m.If e.Ibe s.Rie 16
    ∷ entry_at 50 "ifetch-e" x.C0 y.C0 a.Sum r.Nop m.If e.Ibe s.Rie 16
    ∷ entry_at 51 "ifetch-e" x.C0 y.C0 a.Sum r.Nop m.If e.Ibe s.Rie 16
    ∷ entry_at 52 "lbad00" x.Dt y.C24 a.Sll r.Ad m.Nop e.Nop s.Unsi 56
    ∷ entry_at 53 "lbad01" x.Dt y.C16 a.Sll r.Ad m.Nop e.Nop s.Unsi 56
    ∷ entry_at 54 "lbad10" x.Dt y.C8 a.Sll r.Ad m.Nop e.Nop s.Unsi 56
    ∷ entry_at 55 "lbad11" x.Dt y.C0 a.Sum r.Ad m.Nop e.Nop s.Unsi 56
    ∷ entry_at 56 "lb2-e" x.Ad y.C24 a.Sra r.Rt m.If e.Ibe s.Rie 16
    ∷ entry_at 57 "lbu2-e" x.Ad y.C24 a.Srl r.Rt m.If e.Ibe s.Rie 16
    ∷ entry_at 58 "lhad0" x.Dt y.C16 a.Sll r.Ad m.Nop e.Nop s.Unsi 60
    ∷ entry_at 59 "lhad1" x.Dt y.C0 a.Sum r.Ad m.Nop e.Nop s.Unsi 60
    ∷ entry_at 60 "lh2-e" x.Ad y.C16 a.Sra r.Rt m.If e.Ibe s.Rie 16
    ∷ entry_at 61 "lhu2-e" x.Ad y.C16 a.Srl r.Rt m.If e.Ibe s.Rie 16
    ∷ entry_at 128 "mfc0-e" x.C0 y.C0 a.Sum r.Nop m.Nop e.Cpu s.Movc0 144
    ∷ entry_at 129 "mtc0-e" x.C0 y.C0 a.Sum r.Nop m.Nop e.Cpu s.Movc0 160
    ∷ entry_at 130 "rfe-e" x.C0 y.C0 a.Sum r.Rfe m.Nop e.Cpu s.Next 15
    ∷ entry_at 131 "rfe-e" x.C0 y.C0 a.Sum r.Rfe m.Nop e.Cpu s.Next 15
    ∷ entry_at 144 "ico-e" x.C0 y.C0 a.Sum r.Nop m.Nop e.Ri s.Next 15
    ∷ entry_at 152 "bar2i-e" x.Bar y.C0 a.Sum r.Rt m.If e.Ibe s.Rie 16
    ∷ entry_at 156 "sr2i-e" x.Sr y.C0 a.Sum r.Rt m.If e.Ibe s.Rie 16
    ∷ entry_at 157 "cr2i-e" x.Cr y.C0 a.Sum r.Rt m.If e.Ibe s.Rie 16
    ∷ entry_at 158 "epc2i-e" x.Epc y.C0 a.Sum r.Rt m.If e.Ibe s.Rie 16
    ∷ entry_at 160 "ico-e" x.C0 y.C0 a.Sum r.Nop m.Nop e.Ri s.Next 15
    ∷ entry_at 168 "i2bar-e" x.Rt y.C0 a.Sum r.Bar m.If e.Ibe s.Rie 16
    ∷ entry_at 172 "i2sr-e" x.Rt y.C0 a.Sum r.Sr m.If e.Ibe s.Rie 16
    ∷ entry_at 173 "i2cr-e" x.Rt y.C0 a.Sum r.Cr m.If e.Ibe s.Rie 16
    ∷ entry_at 174 "i2epc-e" x.Rt y.C0 a.Sum r.Epc m.If e.Ibe s.Rie 16
    ∷ entry_at 192 "bltz" x.Rs y.C0 a.Dif r.Nop m.Nop e.Nop s.Sinul 36
    ∷ entry_at 193 "bgez" x.Rs y.C0 a.Dif r.Nop m.Nop e.Nop s.Sinul 40
    ∷ entry_at 194 "bltzal" x.Pc y.C0 a.Sum r.R31 m.Nop e.Nop s.Next 192
    ∷ entry_at 195 "bgezal" x.Pc y.C0 a.Sum r.R31 m.Nop e.Nop s.Next 193
    ∷ entry_at 256 "special" x.C0 y.C0 a.Sum r.Nop m.Nop e.Nop s.Spec 0
    ∷ entry_at 260 "bcond" x.C0 y.C0 a.Sum r.Nop m.Nop e.Nop s.Bcond 192
    ∷ entry_at 264 "j-e" x.Pc4 y.Iu28 a.Or r.Ad m.Nop e.If s.Next 31
    ∷ entry_at 268 "jal" x.Pc y.C0 a.Sum r.R31 m.Nop e.Nop s.Next 264
    ∷ entry_at 272 "reg1" x.Rt y.C0 a.Sum r.Ad m.Nop e.Nop s.Next 273
    ∷ entry_at 273 "beq" x.Rs y.Ad a.Dif r.Nop m.Nop e.Nop s.Nul 32
    ∷ entry_at 276 "reg1" x.Rt y.C0 a.Sum r.Ad m.Nop e.Nop s.Next 277
    ∷ entry_at 277 "bne" x.Rs y.Ad a.Dif r.Nop m.Nop e.Nop s.Nul 34
    ∷ entry_at 280 "blez" x.Rs y.C0 a.Dif r.Nop m.Nop e.Nop s.Sinul 44
    ∷ entry_at 284 "bgtz" x.Rs y.C0 a.Dif r.Nop m.Nop e.Nop s.Sinul 48
    ∷ entry_at 288 "imd" x.C0 y.I16 a.Sum r.Ad m.Nop e.Nop s.Next 289
    ∷ entry_at 289 "addi-e" x.Rs y.Ad a.Sum r.Ad m.Nop e.Ovf s.Next 290
    ∷ entry_at 290 "addi1-e" x.C0 y.Ad a.Sum r.Rt m.If e.Ibe s.Rie 16
    ∷ entry_at 292 "imd" x.C0 y.I16 a.Sum r.Ad m.Nop e.Nop s.Next 293
    ∷ entry_at 293 "addiu-e" x.Rs y.Ad a.Sum r.Rt m.If e.Ibe s.Rie 16
    ∷ entry_at 296 "imd" x.C0 y.I16 a.Sum r.Ad m.Nop e.Nop s.Next 297
    ∷ entry_at 297 "slti-e" x.Rs y.Ad a.Slt r.Rt m.If e.Ibe s.Rie 16
    ∷ entry_at 300 "imd" x.C0 y.I16 a.Sum r.Ad m.Nop e.Nop s.Next 301
    ∷ entry_at 301 "sltiu-e" x.Rs y.Ad a.Sltu r.Rt m.If e.Ibe s.Rie 16
    ∷ entry_at 304 "imdu" x.Ch y.I16 a.And r.Ad m.Nop e.Nop s.Next 305
    ∷ entry_at 305 "landi-e" x.Rs y.Ad a.And r.Rt m.If e.Ibe s.Rie 16
    ∷ entry_at 308 "imdu" x.Ch y.I16 a.And r.Ad m.Nop e.Nop s.Next 309
    ∷ entry_at 309 "lori-e" x.Rs y.Ad a.Or r.Rt m.If e.Ibe s.Rie 16
    ∷ entry_at 312 "imdu" x.Ch y.I16 a.And r.Ad m.Nop e.Nop s.Next 313
    ∷ entry_at 313 "lxori-e" x.Rs y.Ad a.Xor r.Rt m.If e.Ibe s.Rie 16
    ∷ entry_at 316 "imdu" x.Ch y.I16 a.And r.Ad m.Nop e.Nop s.Next 317
    ∷ entry_at 317 "lui-e" x.Ad y.C16 a.Sll r.Rt m.If e.Ibe s.Rie 16
    ∷ entry_at 320 "copro" x.C0 y.C0 a.Sum r.Nop m.Nop e.Nop s.Copro 128
    ∷ entry_at 384 "lb-e" x.Rs y.I16 a.Sum r.Ad m.Nop e.Lb s.Next 385
    ∷ entry_at 385 "lb1-e" x.C0 y.C0 a.Sum r.Nop m.Lw e.Dbe s.Ad10 52
    ∷ entry_at 388 "lh-e" x.Rs y.I16 a.Sum r.Ad m.Nop e.Lh s.Next 389
    ∷ entry_at 389 "lh1-e" x.C0 y.C0 a.Sum r.Nop m.Lw e.Dbe s.Ad1 58
    ∷ entry_at 396 "lw-e" x.Rs y.I16 a.Sum r.Ad m.Nop e.Lw s.Next 397
    ∷ entry_at 397 "lw1-e" x.C0 y.C0 a.Sum r.Nop m.Lw e.Dbe s.Next 398
    ∷ entry_at 398 "lw2-e" x.C0 y.Dt a.Sum r.Rt m.If e.Ibe s.Rie 16
    ∷ entry_at 400 "lb-e" x.Rs y.I16 a.Sum r.Ad m.Nop e.Lb s.Next 385
    ∷ entry_at 404 "lh-e" x.Rs y.I16 a.Sum r.Ad m.Nop e.Lh s.Next 389
    ∷ entry_at 416 "sb-e" x.Rs y.I16 a.Sum r.Ad m.Nop e.Wb s.Next 417
    ∷ entry_at 417 "sb1-e" x.Rt y.C0 a.Sum r.Nop m.Wb e.Dbe s.Next 15
    ∷ entry_at 420 "sh-e" x.Rs y.I16 a.Sum r.Ad m.Nop e.Wh s.Next 421
    ∷ entry_at 421 "sh1-e" x.Rt y.C0 a.Sum r.Nop m.Wh e.Dbe s.Next 15
    ∷ entry_at 428 "sw-e" x.Rs y.I16 a.Sum r.Ad m.Nop e.Ww s.Next 429
    ∷ entry_at 429 "sw1-e" x.Rt y.C0 a.Sum r.Nop m.Ww e.Dbe s.Next 15
    ∷ entry_at 512 "sll-e" x.Rt y.Ish a.Sll r.Rd m.If e.Ibe s.Rie 16
    ∷ entry_at 520 "srl-e" x.Rt y.Ish a.Srl r.Rd m.If e.Ibe s.Rie 16
    ∷ entry_at 524 "sra-e" x.Rt y.Ish a.Sra r.Rd m.If e.Ibe s.Rie 16
    ∷ entry_at 528 "reg2" x.Rs y.C0 a.Sum r.Ad m.Nop e.Nop s.Next 529
    ∷ entry_at 529 "sllv-e" x.Rt y.Ad a.Sll r.Rd m.If e.Ibe s.Rie 16
    ∷ entry_at 536 "reg2" x.Rs y.C0 a.Sum r.Ad m.Nop e.Nop s.Next 537
    ∷ entry_at 537 "srlv-e" x.Rt y.Ad a.Srl r.Rd m.If e.Ibe s.Rie 16
    ∷ entry_at 540 "reg2" x.Rs y.C0 a.Sum r.Ad m.Nop e.Nop s.Next 541
    ∷ entry_at 541 "srav-e" x.Rt y.Ad a.Sra r.Rd m.If e.Ibe s.Rie 16
    ∷ entry_at 544 "jr-e" x.Rs y.C0 a.Sum r.Ad m.Nop e.If s.Next 31
    ∷ entry_at 548 "jalr" x.Pc y.C0 a.Sum r.Rd m.Nop e.Nop s.Next 544
    ∷ entry_at 560 "syscall-e" x.C0 y.C0 a.Sum r.Nop m.Nop e.Sys s.Next 15
    ∷ entry_at 564 "brk-e" x.C0 y.C0 a.Sum r.Nop m.Nop e.Brk s.Next 15
    ∷ entry_at 576 "mfhi-e" x.Hi y.C0 a.Sum r.Rd m.If e.Ibe s.Rie 16
    ∷ entry_at 580 "mthi-e" x.Rs y.C0 a.Sum r.Hi m.If e.Ibe s.Rie 16
    ∷ entry_at 584 "mflo-e" x.Lo y.C0 a.Sum r.Rd m.If e.Ibe s.Rie 16
    ∷ entry_at 588 "mtlo-e" x.Rs y.C0 a.Sum r.Lo m.If e.Ibe s.Rie 16
    ∷ entry_at 608 "reg1" x.Rt y.C0 a.Sum r.Ad m.Nop e.Nop s.Next 609
    ∷ entry_at 609 "mulsl" x.Rs y.Ad a.Msl r.Lo m.Nop e.Nop s.Next 610
    ∷ entry_at 610 "mulsh-e" x.Rs y.Ad a.Msh r.Hi m.If e.Ibe s.Rie 16
    ∷ entry_at 612 "reg1" x.Rt y.C0 a.Sum r.Ad m.Nop e.Nop s.Next 613
    ∷ entry_at 613 "mulul" x.Rs y.Ad a.Mul r.Lo m.Nop e.Nop s.Next 614
    ∷ entry_at 614 "muluh-e" x.Rs y.Ad a.Muh r.Hi m.If e.Ibe s.Rie 16
    ∷ entry_at 616 "reg1" x.Rt y.C0 a.Sum r.Ad m.Nop e.Nop s.Next 617
    ∷ entry_at 617 "divsq" x.Rs y.Ad a.Dsq r.Lo m.Nop e.Nop s.Next 618
    ∷ entry_at 618 "divsr-e" x.Rs y.Ad a.Dsr r.Hi m.If e.Ibe s.Rie 16
    ∷ entry_at 620 "reg1" x.Rt y.C0 a.Sum r.Ad m.Nop e.Nop s.Next 621
    ∷ entry_at 621 "divuq" x.Rs y.Ad a.Duq r.Lo m.Nop e.Nop s.Next 622
    ∷ entry_at 622 "divur-e" x.Rs y.Ad a.Dur r.Hi m.If e.Ibe s.Rie 16
    ∷ entry_at 640 "reg1" x.Rt y.C0 a.Sum r.Ad m.Nop e.Nop s.Next 641
    ∷ entry_at 641 "add-e" x.Rs y.Ad a.Sum r.Ad m.Nop e.Ovf s.Next 642
    ∷ entry_at 642 "add1-e" x.C0 y.Ad a.Sum r.Rd m.If e.Ibe s.Rie 16
    ∷ entry_at 644 "reg1" x.Rt y.C0 a.Sum r.Ad m.Nop e.Nop s.Next 645
    ∷ entry_at 645 "addu-e" x.Rs y.Ad a.Sum r.Rd m.If e.Ibe s.Rie 16
    ∷ entry_at 648 "reg1" x.Rt y.C0 a.Sum r.Ad m.Nop e.Nop s.Next 649
    ∷ entry_at 649 "sub-e" x.Rs y.Ad a.Dif r.Ad m.Nop e.Ovf s.Next 650
    ∷ entry_at 650 "sub1-e" x.C0 y.Ad a.Sum r.Rd m.If e.Ibe s.Rie 16
    ∷ entry_at 652 "reg1" x.Rt y.C0 a.Sum r.Ad m.Nop e.Nop s.Next 653
    ∷ entry_at 653 "subu-e" x.Rs y.Ad a.Dif r.Rd m.If e.Ibe s.Rie 16
    ∷ entry_at 656 "reg1" x.Rt y.C0 a.Sum r.Ad m.Nop e.Nop s.Next 657
    ∷ entry_at 657 "land-e" x.Rs y.Ad a.And r.Rd m.If e.Ibe s.Rie 16
    ∷ entry_at 660 "reg1" x.Rt y.C0 a.Sum r.Ad m.Nop e.Nop s.Next 661
    ∷ entry_at 661 "lor-e" x.Rs y.Ad a.Or r.Rd m.If e.Ibe s.Rie 16
    ∷ entry_at 664 "reg1" x.Rt y.C0 a.Sum r.Ad m.Nop e.Nop s.Next 665
    ∷ entry_at 665 "lxor-e" x.Rs y.Ad a.Xor r.Rd m.If e.Ibe s.Rie 16
    ∷ entry_at 668 "reg1" x.Rt y.C0 a.Sum r.Ad m.Nop e.Nop s.Next 669
    ∷ entry_at 669 "lnor-e" x.Rs y.Ad a.Nor r.Rd m.If e.Ibe s.Rie 16
    ∷ entry_at 680 "reg1" x.Rt y.C0 a.Sum r.Ad m.Nop e.Nop s.Next 681
    ∷ entry_at 681 "slt-e" x.Rs y.Ad a.Slt r.Rd m.If e.Ibe s.Rie 16
    ∷ entry_at 684 "reg1" x.Rt y.C0 a.Sum r.Ad m.Nop e.Nop s.Next 685
    ∷ entry_at 685 "sltu-e" x.Rs y.Ad a.Sltu r.Rd m.If e.Ibe s.Rie 16
    ∷ []

-- the rows from an address on, so many of them, with the entries that are left
unfoldable pub rows_from : ℕ → ℕ → List Entry → List Fields
rows_from zero n es = []
rows_from (suc k) n [] = empty_fields ∷ rows_from k (suc n) []
rows_from (suc k) n (c ∷ es) =
    elim (n == c.address) [
      | true ↦ c.fields ∷ rows_from k (suc n) es
      | false ↦ empty_fields ∷ rows_from k (suc n) (c ∷ es)
    ]

-- how many rows there are
abbrev pub row_count : ℕ
row_count = 1024

-- all of them
unfoldable pub rows : List Fields
unfolding rows_from listing
rows = rows_from row_count 0 listing

abbrev pub row_of_fields : Fields → Row
row_of_fields f =
    record {
      x = f.0;
      y = f.1;
      operation = f.2;
      destination = f.3;
      transfer = f.4;
      detection = f.5;
      sequencing = f.6;
      amic = f.7;
    }

-- the row at an address
abbrev pub row_at : ℕ → Row
row_at n = row_of_fields (slice_index_or rows n empty_fields)
