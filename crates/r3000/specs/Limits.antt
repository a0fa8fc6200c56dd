-- The limits of the calls. Assumes nothing.
use Rattle.std.specs.Prelude.{ℕ, ◌^◌}

-- the most cycles that a core makes
abbrev pub max_cycles : ℕ
max_cycles = 2 ^ 62

-- the longest run, in cycles
abbrev pub max_run : ℕ
max_run = 65535

-- all seven lines up
abbrev pub max_lines : ℕ
max_lines = 127

-- the number of the last register, DT
abbrev pub last_register : ℕ
last_register = 41

-- the last code that the ledger has an entry for
abbrev pub last_code : ℕ
last_code = 15
