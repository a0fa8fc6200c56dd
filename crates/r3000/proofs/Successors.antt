-- What all listed successors pass the row that follows passes, and before a boundary it does not depend on the lines.
-- Assumes nothing.
use Rattle.std.proofs.Common.{◌≡◌, ℕ, zero, suc, Bool, false, T, List, [], ◌∷◌, refl, subst, Contains, arith}
use Rattle.std.proofs.lemmas.Bool.{true≢false}
use Rattle.std.specs.List.{list_all}
use Rattle.microprogram.specs.Bounds.{RowsAreListed, successors}
use Rattle.microprogram.specs.Cycle.{ends_path, next_row}
use Rattle.machine.specs.Registers.{Regs}
use Rattle.r3000.proofs.Tests.{left, right}
use Rattle.rows.specs.declared.row.Sequencing.{Sequencing}
use Rattle.rows.specs.declared.row.Sequencing.TheVariants as s

-- what all numbers of a list pass each of them passes
each : (p : ℕ → Bool) (ns : List ℕ) (n : ℕ) → Contains ns n → T (list_all p ns) → T (p n)
each p [] n c h = absurd (omega (arith, c.1))
each p (m ∷ ms) n (zero, l, e) h = subst (λ k. T (p k)) e (left (p m) (list_all p ms) h)
each p (m ∷ ms) n (suc k, l, e) h = each p ms n (k, omega arith, e) (right (p m) (list_all p ms) h)

pub follows : RowsAreListed
    → (p : ℕ → Bool) (q : Sequencing) (amic : ℕ) (g : Regs) (res : ℕ) (zero? : Bool) (lines : ℕ) (flag : Bool)
    → T (list_all p (successors q amic)) → T (p (next_row q amic g res zero? lines flag))
follows listed p q amic g res z lines flag h =
    each p (successors q amic) (next_row q amic g res z lines flag) (listed q amic g res z lines flag) h

-- only a boundary reads the lines
pub no_lines : (q : Sequencing) (amic : ℕ) (g : Regs) (res : ℕ) (z : Bool) (flag : Bool) (l k : ℕ)
    → ends_path q ≡ false
    → next_row q amic g res z l flag ≡ next_row q amic g res z k flag
no_lines s.Next amic g res z flag l k h = refl
no_lines s.Decod amic g res z flag l k h = refl
no_lines s.Spec amic g res z flag l k h = refl
no_lines s.Movc0 amic g res z flag l k h = refl
no_lines s.Rie amic g res z flag l k h = absurd (true≢false h)
no_lines s.Copro amic g res z flag l k h = refl
no_lines s.Bcond amic g res z flag l k h = refl
no_lines s.Ad10 amic g res z flag l k h = refl
no_lines s.Ad1 amic g res z flag l k h = refl
no_lines s.Unsi amic g res z flag l k h = refl
no_lines s.Nul amic g res z flag l k h = refl
no_lines s.Sinul amic g res z flag l k h = refl
