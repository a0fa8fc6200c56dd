-- The numbers of the denials. Assumes nothing.
use Rattle.std.specs.Prelude.{ℕ}
use Rattle.r3000.specs.declared.denial.Denial.{Denial}
use Rattle.r3000.specs.declared.denial.Denial.TheVariants.{Range, Cycles, Refused}

-- out of range 8, cycles past 2^62 9, a refused word 10
abbrev pub denial_number : Denial → ℕ
denial_number Range = 8
denial_number Cycles = 9
denial_number Refused = 10
