use Rattle.std.proofs.Common.{◌≡◌, Bool, true, false, cond, refl, sym, ap, ap₂, ◌∙◌}
use Rattle.microprogram.specs.ChipCycle.{is_wait}
use Rattle.microprogram.specs.Cycle.{ends_path}
use Rattle.microprogram.specs.declared.chip_cycle.CycleEnd.{CycleEnd}
use Rattle.microprogram.specs.declared.chip_cycle.CycleEnd.TheVariants.{Frozen, Within, Boundary}
use Rattle.rows.specs.Rows.{row_at}
use Rattle.r3000.specs.Core.{machine_of_parts}
use Rattle.r3000.specs.Counts.{report_after}
use Rattle.r3000.specs.Machine.{history_after}
use Rattle.r3000.specs.declared.report.Report.{Report}
use Rattle.r3000.proofs.processor.cycle.Goals as goal
use Rattle.r3000.proofs.processor.cycle.Goals.{in-Frozen, in_default, in-Boundary, in_default-matches}

-- what an end is by the code's two questions
abbrev is_frozen : CycleEnd → Bool
is_frozen Frozen = true
is_frozen _ = false

abbrev at_boundary : CycleEnd → Bool
at_boundary Boundary = true
at_boundary _ = false

not_frozen : (e : CycleEnd) → (e ≡ Frozen → ⊥) → is_frozen e ≡ false
not_frozen Frozen h = absurd (h refl)
not_frozen Within h = refl
not_frozen Boundary h = refl

not_boundary : (e : CycleEnd) → (e ≡ Boundary → ⊥) → at_boundary e ≡ false
not_boundary Frozen h = refl
not_boundary Within h = refl
not_boundary Boundary h = absurd (h refl)

-- and by the rules
frozen_by : (wait last : Bool) → is_frozen (cond wait Frozen (cond last Boundary Within)) ≡ wait
frozen_by true last = refl
frozen_by false true = refl
frozen_by false false = refl

counted_by : (wait last : Bool) (n : Report)
    → report_after wait (at_boundary (cond wait Frozen (cond last Boundary Within))) n ≡ report_after wait last n
counted_by true last n = refl
counted_by false true n = refl
counted_by false false n = refl

pub returns : goal.returns
returns g c h =
    let end = c.cycle_by_row-end.result in
    let done = c.cycle_by_row-end.ensures in
    let frozen : c.match-matches.matches ≡ is_frozen end =
    elim c.match-matches.branch [
      | in-Frozen w ↦ w.matches-is ∙ sym (ap is_frozen w.in-Frozen.is)
      | in_default w ↦ w.matches-is ∙ sym (not_frozen end w.in_default.not-Frozen)
    ] in
    let last : c.match-matches-2.matches ≡ at_boundary end =
    elim c.match-matches-2.branch [
      | in-Boundary w ↦ w.matches-is ∙ sym (ap at_boundary w.in-Boundary.is)
      | in_default-matches w ↦ w.matches-is ∙ sym (not_boundary end w.in_default-matches.not-Boundary)
    ] in
    let ends = ends_path (row_at c.args.chip.now.row).sequencing in
    let before = c.args.counts.now.report in
    let freeze : c.match-matches.matches ≡ is_wait done.answer =
    frozen ∙ ap is_frozen done.ends ∙ frozen_by (is_wait done.answer) ends in
    let counted : c.count.new.self.report ≡ report_after (is_wait done.answer) ends before =
    c.count.ensures
    ∙ ap₂ (λ f l. report_after f l before) freeze (last ∙ ap at_boundary done.ends)
    ∙ counted_by (is_wait done.answer) ends before in
    let old = machine_of_parts h (record { chip = c.args.chip.now; lines = c.args.lines; counts = c.args.counts.now })
    c.args.pile.now in (
      history_after old.processor c.match-matches.matches h,
      c.match-matches.matches,
      record { answer = done.answer; asks = done.asks; freeze = freeze; after = rw (freeze, counted, done.after) refl },
    )
