-- Which addresses may be used. Assumes nothing.
use Rattle.std.specs.Prelude.{ℕ, ◌%◌, Bool, not, ◌&&◌, ◌||◌, ◌==◌}
use Rattle.machine.specs.Word.{bit}

-- user mode is SR bit 1
abbrev pub is_user_mode : ℕ → Bool
is_user_mode sr = bit 1 sr

-- user mode may not use an address with bit 31
abbrev pub is_barred : ℕ → ℕ → Bool
is_barred sr address = is_user_mode sr && bit 31 address

-- an address that is no multiple of the size, or that user mode may not use
abbrev pub is_misplaced : ℕ → ℕ → ℕ → Bool
is_misplaced size sr address = not (address % size == 0) || is_barred sr address
