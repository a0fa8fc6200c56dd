-- How the rows hang together: one test over all of them, and what it says. Assumes nothing.
use Rattle.std.specs.Prelude.{ℕ, zero, suc, ◌+◌, ◌-◌, ◌*◌, ◌/◌, ◌<◌, ◌≤◌, Bool, true, false, ◌&&◌, T, List, [], ◌∷◌}
use Rattle.std.specs.Prelude.{nat_le, nat_lt, Contains}
use Rattle.std.specs.List.{list_all}
use Rattle.machine.specs.Registers.{Regs}
use Rattle.rows.specs.Rows.{row_at, row_count}
use Rattle.rows.specs.declared.row.Sequencing.{Sequencing}
use Rattle.rows.specs.declared.row.Sequencing.TheVariants as s
use Rattle.rows.specs.declared.row.Transfer.{Transfer}
use Rattle.rows.specs.declared.row.Transfer.TheVariants as m
use Rattle.microprogram.specs.Cycle.{ends_path, next_row}
use Rattle.microprogram.specs.declared.bounds.Budget.{Budget}

-- the numbers from, from + by, .. , so many of them
abbrev pub spread : ℕ → ℕ → ℕ → List ℕ
spread from by zero = []
spread from by (suc n) = from ∷ spread (from + by) by n

-- the rows that can follow one with this sequencing
abbrev pub successors : Sequencing → ℕ → List ℕ
successors s.Next amic = amic ∷ []
successors s.Decod amic = spread 256 4 64
successors s.Spec amic = spread 512 4 64
successors s.Movc0 amic = spread (amic / 16 * 16) 1 16
successors s.Rie amic = spread (amic / 8 * 8) 1 8
successors s.Copro amic = spread (amic / 4 * 4) 1 4
successors s.Bcond amic = spread (amic / 4 * 4) 1 4
successors s.Ad10 amic = spread (amic / 4 * 4) 1 4
successors s.Ad1 amic = spread (amic / 2 * 2) 1 2
successors s.Unsi amic = spread (amic / 2 * 2) 1 2
successors s.Nul amic = spread (amic / 2 * 2) 1 2
successors s.Sinul amic = spread (amic / 4 * 4) 1 4

-- how many accesses a row makes
abbrev pub access_count : Transfer → ℕ
access_count m.Nop = 0
access_count _ = 1

-- every way on from a row comes to the end of its path within so many rows, itself counted, and so many accesses
unfoldable pub ends_within : ℕ → ℕ → ℕ → Bool
ends_within zero touch n = false
ends_within (suc rows) touch n =
    nat_le (access_count (row_at n).transfer) touch
    && elim (ends_path (row_at n).sequencing) [
      | true ↦ true
      | false ↦ list_all (ends_within rows (touch - access_count (row_at n).transfer))
          (successors (row_at n).sequencing (row_at n).amic)
    ]

-- the test of one row: its successors are rows, and every way on from it ends within the budget
abbrev pub row_passes : Budget → ℕ → Bool
row_passes b n =
    list_all (λ k. nat_lt k row_count) (successors (row_at n).sequencing (row_at n).amic)
    && ends_within b.rows b.accesses n

-- from every row at most so many rows, itself counted, lead to one that ends a path; at most so many of them access
-- memory; and every row that is listed as its successor is one of the 1,024
abbrev pub RowsEnd : Budget → Type 0
RowsEnd b = (n : ℕ) → n < row_count → T (row_passes b n)

-- what the test gives
abbrev pub path_budget : Budget
path_budget = record { rows = 7; accesses = 2 }

-- no budget with fewer rows, and none with fewer accesses, passes the test
pub record IsLeast (b : Budget) : Type 0 where
  pub rows : (c : Budget) → RowsEnd c → b.rows ≤ c.rows
  pub accesses : (c : Budget) → RowsEnd c → b.accesses ≤ c.accesses

-- the row that follows is one of the listed successors, whatever the registers, the result, the lines and the flag
abbrev pub RowsAreListed : Type 0
RowsAreListed =
    (q : Sequencing) (amic : ℕ) (g : Regs) (res : ℕ) (zero? : Bool) (lines : ℕ) (flag : Bool)
    → Contains (successors q amic) (next_row q amic g res zero? lines flag)
