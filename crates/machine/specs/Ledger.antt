-- The ledger: for each of 16 codes, how often it was entered and the last EPC. Assumes nothing.
use Rattle.std.specs.Prelude.{ℕ, ◌+◌, ◌%◌, ◌^◌, List, replicate, slice_index_or, slice_set}
use Rattle.machine.specs.declared.ledger.Entry.{Entry}

abbrev pub blank_entry : Entry
blank_entry = record { count = 0; epc = 0 }

abbrev pub blank_ledger : List Entry
blank_ledger = replicate 16 blank_entry

-- one entry more of a code; counts are numbers of 64 bits, and wrap
abbrev pub next_entry : List Entry → ℕ → ℕ → Entry
next_entry ledger code epc =
    record {
      count = ((slice_index_or ledger code blank_entry).count + 1) % 2 ^ 64;
      epc = epc;
    }

abbrev pub with_entry : ℕ → ℕ → List Entry → List Entry
with_entry code epc ledger = slice_set ledger code (next_entry ledger code epc)
