-- The numbers of the denials, and the addresses that they carry. Assumes nothing.
use Rattle.std.specs.Prelude.{ℕ}
use Rattle.jobs.specs.declared.fault.JobFault.{JobFault}
use Rattle.jobs.specs.declared.fault.JobFault.TheVariants.{TooLong, Line, AfterStart, BeforeStart, Core, Load}
use Rattle.r3000.specs.Denial as core
use Rattle.text.specs.Fault as line

-- a job that is too long 1, a line without meaning 2 or 3, after the start 4, before it 5, what the core denies, a
-- refused load 10
abbrev pub denial_number : JobFault → ℕ
denial_number TooLong = 1
denial_number (Line f) = line.denial_number f
denial_number AfterStart = 4
denial_number BeforeStart = 5
denial_number (Core d) = core.denial_number d
denial_number (Load f) = 10

-- the address of a refused load, and 0 for every other denial
abbrev pub denial_address : JobFault → ℕ
denial_address TooLong = 0
denial_address (Line f) = 0
denial_address AfterStart = 0
denial_address BeforeStart = 0
denial_address (Core d) = 0
denial_address (Load f) = f.refused.address
