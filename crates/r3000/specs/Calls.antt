-- What each call does and replies; a denied one leaves the core as it is. Assumes nothing.
use Rattle.std.specs.Prelude.{◌≡◌, ℕ, ◌+◌, Bool, cond, ◌||◌, Some, None, Ok, Err, Result, ◌==◌, nat_lt, slice_index}
use Rattle.std.specs.Prelude.{slice_index_or}
use Rattle.bus.specs.Meaning.{Meaning, look_result}
use Rattle.bus.specs.declared.request.Answer.{Answer}
use Rattle.bus.specs.declared.request.Request.{Request}
use Rattle.microprogram.specs.Cycle.{State}
use Rattle.machine.specs.Ledger.{blank_entry}
use Rattle.machine.specs.declared.ledger.Entry.{Entry}
use Rattle.r3000.specs.Core.{registers_in_order}
use Rattle.r3000.specs.Cycle.{Cycle, Cycles}
use Rattle.r3000.specs.Limits.{last_code, last_register, max_cycles, max_lines, max_run}
use Rattle.r3000.specs.Machine.{Machine, with_lines}
use Rattle.r3000.specs.declared.denial.Denial.{Denial}
use Rattle.r3000.specs.declared.denial.Denial.TheVariants as denial
use Rattle.r3000.specs.declared.report.Clocked.{Clocked}
use Rattle.r3000.specs.declared.report.Report.{Report}

-- cycles are denied where their count would pass 2 ^ 62
abbrev pub check_cycles : ℕ → Report → Result (Unit {0}) Denial
check_cycles n report = cond (nat_lt max_cycles (report.cycles + n)) (Err denial.Cycles) (Ok tt)

-- a run has 1 to 65,535 cycles
abbrev pub check_run : ℕ → Report → Result (Unit {0}) Denial
check_run n report = cond (n == 0 || nat_lt max_run n) (Err denial.Range) (check_cycles n report)

-- a call that its check denies replies the denial and leaves the core as it is; another does what is said of it
abbrev pub WhereGranted : {S T : Type 0} → Result (Unit {0}) Denial → Machine S → Result T Denial → Machine S → Type 0
    → Type 0
WhereGranted (Err e) c r d does = (r ≡ Err e) × (d ≡ c)
WhereGranted (Ok _) c r d does = does

-- clock: one cycle
abbrev pub Clocks : {S : Type 0} → (S → Request → Answer → S → Type 0) → Machine S → Result Clocked Denial → Machine S
    → Type 0
Clocks steps c r d =
    WhereGranted (check_cycles 1 c.observation.report) c r d
    ((frozen : Bool) × Cycle steps c frozen d × (r ≡ Ok (record { frozen = frozen; report = d.observation.report })))

-- run: so many cycles, one after another, and what is said of the core after each of them
abbrev pub Runs : {S : Type 0} → (S → Request → Answer → S → Type 0) → (Machine S → Type 0)
    → ℕ → Machine S → Result Report Denial → Machine S → Type 0
Runs steps says n c r d =
    WhereGranted (check_run n c.observation.report) c r d (Cycles steps says n c d × (r ≡ Ok d.observation.report))

-- lines: bits 0 to 5 are IT0 to IT5, bit 6 is RST
abbrev pub lines_reply : ℕ → Result (Unit {0}) Denial
lines_reply n = cond (nat_lt max_lines n) (Err denial.Range) (Ok tt)

abbrev pub after_lines : {S : Type 0} → ℕ → Machine S → Machine S
after_lines n c = cond (nat_lt max_lines n) c (with_lines n c)

-- register: one of the 42
abbrev pub register_reply : ℕ → State → Result ℕ Denial
register_reply n c = cond (nat_lt last_register n) (Err denial.Range) (Ok (slice_index (registers_in_order c) n))

-- ledger: the entry of one of the 16 codes
abbrev pub ledger_reply : ℕ → State → Result Entry Denial
ledger_reply n c = cond (nat_lt last_code n) (Err denial.Range) (Ok (slice_index_or c.ledger n blank_entry))

-- look: the byte at an address, unless its word is refused to reads
abbrev pub look_reply : Meaning → ℕ → Result ℕ Denial
look_reply m address = elim (look_result m address) [ Some byte ↦ Ok byte | None ↦ Err denial.Refused ]
