-- The row that follows is one of the listed successors. Assumes nothing.
use Rattle.std.proofs.Common.{◌≡◌, ℕ, zero, suc, ◌+◌, ◌*◌, ◌/◌, ◌%◌, ◌<◌, Bool, true, false, refl, sym, suc-mul}
use Rattle.std.proofs.Common.{Contains, arith}
use Rattle.machine.specs.Interrupt.{is_interrupting, is_resetting}
use Rattle.machine.specs.Operation.{one_if}
use Rattle.machine.specs.Word.{bit, function, opcode, system_number}
use Rattle.rows.specs.declared.row.Sequencing.TheVariants as s
use Rattle.microprogram.specs.Bounds.{RowsAreListed, spread}

-- a spread has each of its numbers
pub among : (from by n k : ℕ) → k < n → (m : ℕ) → m ≡ from + k * by → Contains (spread from by n) m
among from by zero k l m e = absurd (omega arith)
among from by (suc n) zero l m e = (0, omega arith, sym (omega arith))
among from by (suc n) (suc k) l m e = later (among (from + by) by n k (omega arith) m (omega (arith, suc-mul k by)))
  where
    later : Contains (spread (from + by) by n) m → Contains (spread from by (suc n)) m
    later (at, small, is) = (suc at, omega arith, is)

one : (b : Bool) → one_if b < 2
one true = omega arith
one false = omega arith

pub rows_listed : RowsAreListed
rows_listed s.Next amic g res z lines flag = (0, omega arith, refl)
rows_listed s.Decod amic g res z lines flag = among 256 4 64 (opcode g.ir) (omega arith) _ refl
rows_listed s.Spec amic g res z lines flag = among 512 4 64 (function g.ir) (omega arith) _ refl
rows_listed s.Movc0 amic g res z lines flag =
    among (amic / 16 * 16) 1 16 (system_number g.ir) (omega arith) _ (omega arith)
rows_listed s.Rie amic g res z lines flag =
    among (amic / 8 * 8) 1 8 (one_if (is_resetting lines) * 4 + one_if (is_interrupting g.sr lines) * 2 + one_if flag)
    (omega (arith, one (is_resetting lines), one (is_interrupting g.sr lines), one flag)) _ (omega arith)
rows_listed s.Copro amic g res z lines flag =
    among (amic / 4 * 4) 1 4 (one_if (bit 25 g.ir) * 2 + one_if (bit 23 g.ir))
    (omega (arith, one (bit 25 g.ir), one (bit 23 g.ir))) _ (omega arith)
rows_listed s.Bcond amic g res z lines flag =
    among (amic / 4 * 4) 1 4 (one_if (bit 20 g.ir) * 2 + one_if (bit 16 g.ir))
    (omega (arith, one (bit 20 g.ir), one (bit 16 g.ir))) _ (omega arith)
rows_listed s.Ad10 amic g res z lines flag = among (amic / 4 * 4) 1 4 (g.ad % 4) (omega arith) _ (omega arith)
rows_listed s.Ad1 amic g res z lines flag =
    among (amic / 2 * 2) 1 2 (one_if (bit 1 g.ad)) (one (bit 1 g.ad)) _ (omega arith)
rows_listed s.Unsi amic g res z lines flag =
    among (amic / 2 * 2) 1 2 (one_if (bit 28 g.ir)) (one (bit 28 g.ir)) _ (omega arith)
rows_listed s.Nul amic g res z lines flag = among (amic / 2 * 2) 1 2 (one_if z) (one z) _ (omega arith)
rows_listed s.Sinul amic g res z lines flag =
    among (amic / 4 * 4) 1 4 (one_if (bit 31 res) * 2 + one_if z) (omega (arith, one (bit 31 res), one z)) _
    (omega arith)
