-- Where a memory may stand. Assumes nothing.
use Rattle.std.specs.Prelude.{ℕ, ◌+◌, ◌%◌, ◌^◌, Bool, cond, ◌&&◌, List, [], length, Ok, Err, Result, ◌==◌, nat_le}
use Rattle.memories.specs.declared.placement.PlacementFault.{PlacementFault}
use Rattle.memories.specs.declared.placement.PlacementFault.TheVariants.{Unaligned, OutOfBounds}

-- the number of a denial
abbrev pub denial_number : PlacementFault → ℕ
denial_number Unaligned = 6
denial_number OutOfBounds = 7

-- base and length are multiples of 4
abbrev pub is_aligned : ℕ → ℕ → Bool
is_aligned base n = base % 4 == 0 && n % 4 == 0

-- the shortest and the longest memory, in bytes
abbrev pub min_length : ℕ
min_length = 4

abbrev pub max_length : ℕ
max_length = 1048576

-- the length is from min_length to max_length, and the range ends within the 2 ^ 32 addresses
abbrev pub is_in_bounds : ℕ → ℕ → Bool
is_in_bounds base n = nat_le min_length n && nat_le n max_length && nat_le (base + n) (2 ^ 32)

-- alignment is tried first
abbrev pub check_placement : ℕ → ℕ → Result (Unit {0}) PlacementFault
check_placement base n =
    cond (is_aligned base n) (cond (is_in_bounds base n) (Ok tt) (Err OutOfBounds)) (Err Unaligned)

-- how many bytes stand at a base: all, or none where the placement is denied
abbrev pub placed_length : ℕ → ℕ → ℕ
placed_length base n = cond (is_aligned base n && is_in_bounds base n) n 0

-- the bytes that a memory has at a base: none where the placement is denied, so that it then refuses everything
abbrev pub placed_bytes : ℕ → List ℕ → List ℕ
placed_bytes base bytes = cond (is_aligned base (length bytes) && is_in_bounds base (length bytes)) bytes []
