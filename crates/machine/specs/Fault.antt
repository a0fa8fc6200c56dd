-- The nine faults and their codes. Assumes nothing.
use Rattle.std.specs.Prelude.{ℕ}
use Rattle.machine.specs.declared.fault.Fault.{Fault}
use Rattle.machine.specs.declared.fault.Fault.TheVariants.{Adel, Ades, Ibe, Dbe, Sys, Brk, Ri, Cpu, Ovf}

abbrev pub fault_code : Fault → ℕ
fault_code Adel = 4
fault_code Ades = 5
fault_code Ibe = 6
fault_code Dbe = 7
fault_code Sys = 8
fault_code Brk = 9
fault_code Ri = 10
fault_code Cpu = 11
fault_code Ovf = 12
