-- Register 0 stays zero. Assumes nothing.
use Rattle.std.proofs.Common.{◌≡◌, ℕ, ◌≢◌, Bool, true, false, cond, eqb, List, get_or, set, get_or-set_other, Option}
use Rattle.std.proofs.Common.{refl, sym}
use Rattle.std.proofs.lemmas.Bool.{eqb-false}
use Rattle.bus.specs.declared.request.Answer.{Answer}
use Rattle.microprogram.specs.Cycle.{State, regs_with_result, state_after}
use Rattle.machine.specs.Registers.{Regs, general_with, reg}
use Rattle.machine.specs.Word.{rd, rt}
use Rattle.machine.specs.declared.fault.Fault.{Fault}
use Rattle.rows.specs.declared.row.Destination.{Destination}
use Rattle.rows.specs.declared.row.Destination.TheVariants as r
use Rattle.rows.specs.declared.row.Row.{Row}

-- a write to any general register leaves register 0
unwritten : (n v : ℕ) (general : List ℕ) → get_or (general_with n v general) 0 0 ≡ get_or general 0 0
unwritten n v general = by (eqb n 0) refl
  where
    by : (t : Bool) → eqb n 0 ≡ t → get_or (cond t general (set general n v)) 0 0 ≡ get_or general 0 0
    by true e = refl
    by false e = let other : 0 ≢ n = λ same. eqb-false n 0 e (sym same) in rw get_or-set_other refl

-- and so does every destination
pub zero_written : (d : Destination) (flag : Option Fault) (res : ℕ) (g : Regs)
    → reg (regs_with_result d flag res g) 0 ≡ reg g 0
zero_written r.Nop flag res g = refl
zero_written r.Pc flag res g = refl
zero_written r.Ad flag res g = refl
zero_written r.Bar flag res g = refl
zero_written r.Lo flag res g = refl
zero_written r.Hi flag res g = refl
zero_written r.Epc flag res g = refl
zero_written r.Cr flag res g = refl
zero_written r.Sr flag res g = refl
zero_written r.Rt flag res g = unwritten (rt g.ir) res g.general
zero_written r.Rd flag res g = unwritten (rd g.ir) res g.general
zero_written r.R31 flag res g = unwritten 31 res g.general
zero_written r.Erq flag res g = refl
zero_written r.Rfe flag res g = refl

allowed_or_not : (t : Bool) (d : Destination) (flag : Option Fault) (res : ℕ) (g : Regs)
    → reg (cond t (regs_with_result d flag res g) g) 0 ≡ reg g 0
allowed_or_not true d flag res g = zero_written d flag res g
allowed_or_not false d flag res g = refl

-- and every unfrozen cycle
pub zero_advanced : (w : Row) (lines : ℕ) (k : ℕ × Bool × Bool) (a : Option Answer) (c : State)
    → reg (state_after w lines k a c).regs 0 ≡ reg c.regs 0
zero_advanced w lines k a c = allowed_or_not _ w.destination c.flag k.0 c.regs
