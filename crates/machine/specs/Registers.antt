-- The registers. Assumes nothing.
use Rattle.std.specs.Prelude.{ℕ, cond, List, replicate, ◌==◌, slice_index, slice_set}
use Rattle.machine.specs.declared.registers.Registers.{Registers}

-- all registers but DT
pub record Regs : Type 0 where
  pub general : List ℕ
  pub pc : ℕ
  pub hi : ℕ
  pub lo : ℕ
  pub sr : ℕ
  pub cr : ℕ
  pub epc : ℕ
  pub bar : ℕ
  pub ad : ℕ
  pub ir : ℕ

-- what the code's record holds of them
abbrev pub regs_of : Registers → Regs
regs_of g =
    record {
      general = g.general;
      pc = g.pc;
      hi = g.hi;
      lo = g.lo;
      sr = g.sr;
      cr = g.cr;
      epc = g.epc;
      bar = g.bar;
      ad = g.ad;
      ir = g.ir;
    }

-- all registers zero
abbrev pub zero_regs : Regs
zero_regs =
    record {
      general = replicate 32 0;
      pc = 0;
      hi = 0;
      lo = 0;
      sr = 0;
      cr = 0;
      epc = 0;
      bar = 0;
      ad = 0;
      ir = 0;
    }

-- a general register
abbrev pub reg : Regs → ℕ → ℕ
reg g n = slice_index g.general n

-- the registers with the general ones, or one of the others, changed
abbrev pub with_general : List ℕ → Regs → Regs
with_general v g = record g { general = v }

abbrev pub with_pc : ℕ → Regs → Regs
with_pc v g = record g { pc = v }

abbrev pub with_hi : ℕ → Regs → Regs
with_hi v g = record g { hi = v }

abbrev pub with_lo : ℕ → Regs → Regs
with_lo v g = record g { lo = v }

abbrev pub with_sr : ℕ → Regs → Regs
with_sr v g = record g { sr = v }

abbrev pub with_cr : ℕ → Regs → Regs
with_cr v g = record g { cr = v }

abbrev pub with_epc : ℕ → Regs → Regs
with_epc v g = record g { epc = v }

abbrev pub with_bar : ℕ → Regs → Regs
with_bar v g = record g { bar = v }

abbrev pub with_ad : ℕ → Regs → Regs
with_ad v g = record g { ad = v }

abbrev pub with_ir : ℕ → Regs → Regs
with_ir v g = record g { ir = v }

-- a write to a general register; register 0 stays
abbrev pub general_with : ℕ → ℕ → List ℕ → List ℕ
general_with n v general = cond (n == 0) general (slice_set general n v)

abbrev pub with_register : ℕ → ℕ → Regs → Regs
with_register n v g = with_general (general_with n v g.general) g
